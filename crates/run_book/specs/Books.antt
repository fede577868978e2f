-- Books: what happened at a site, from its beginning on.
use Rattle.std.specs.Prelude.{◌≡◌, ℕ, Bool, true, false, not, ◌&&◌, ◌||◌, List, [], ◌∷◌}
use Rattle.cover_problem.specs.Problem.{Problem}
use Rattle.node_core.specs.Acting.{Acts}
use Rattle.node_core.specs.Refusal.{IsFit}
use Rattle.node_core.specs.SiteView.{View}
use Rattle.run_book.specs.Entries.{Entry}
use Rattle.run_book.specs.Sites.{IsRun, MayBeginIn, RunName, StepAt, opening_of}
use Rattle.spawn_frame.specs.Names.{same_site}
use Rattle.spawn_frame.specs.declared.site.Site.{Site}

-- An entry takes a site from one view to the next: its event is fit, and is a step with its reply and packets.
pub record Enters (node : ℕ) (problem : Problem) (old : View) (entry : Entry) (new : View) : Type 0 where
  pub fit : IsFit problem entry.event
  pub acts : Acts (StepAt node) problem old entry.event entry.reply entry.packets new

-- there are views from the first to the last, each next one by the next entry
abbrev pub LeadsTo : ℕ → Problem → View → List Entry → View → Type 0
LeadsTo node problem first [] last = first ≡ last
LeadsTo node problem first (entry ∷ entries) last =
    (next : View) × Enters node problem first entry next × LeadsTo node problem next entries last

-- a site, and what happened there in turn
pub record Book : Type 0 where
  pub site : Site
  pub entries : List Entry

-- The site began in the run with this limit on names, and its entries led it to this view.
pub record EndsIn (run : RunName) (book : Book) (limit : ℕ) (last : View) : Type 0 where
  pub lawful : IsRun run
  pub begins : MayBeginIn run book.site limit
  pub leads : LeadsTo book.site.node run.problem (opening_of run book.site limit) book.entries last

-- a book: there are views from the site's beginning to a last one, each next one by the next entry
abbrev pub IsBook : RunName → Book → Type 0
IsBook run book = (limit : ℕ) × (last : View) × EndsIn run book limit last

-- one of the books is of the site
abbrev pub has_site : Site → List Book → Bool
has_site site [] = false
has_site site (book ∷ books) = same_site book.site site || has_site site books

-- no two of the books are of one site
abbrev pub are_distinct : List Book → Bool
are_distinct [] = true
are_distinct (book ∷ books) = not (has_site book.site books) && are_distinct books
