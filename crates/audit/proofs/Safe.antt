-- A merge that takes every book whole is a run, and what the registry's book says is what the run publishes.
use Rattle.std.proofs.Common.{◌≡◌, ◌≢◌, ℕ, Bool, true, List, [], ◌∷◌, Option, Some, None, slice_get, slice_set, sym, ap, ◌∙◌, subst, ⊎_elim, arith}
use Rattle.std.proofs.lemmas.Option.{same_Some}
use Rattle.std.specs.List.{AllByRecursion}
use Rattle.cover_problem.specs.ExactCover.{IsExactCover}
use Rattle.cover_problem.specs.Numbers.{is_in}
use Rattle.cover_problem.specs.Problem.{Problem}
use Rattle.cover_problem.specs.declared.answer.Answer.{Answer}
use Rattle.cover_problem.specs.declared.answer.Answer.TheVariants.{Cover, NoCover}
use Rattle.cover_world.specs.Safety.{published, published_at, Safe}
use Rattle.cover_world.specs.Worlds.{opening_world, Run, stay, World}
use Rattle.node_core.specs.SiteView.{View}
use Rattle.audit.proofs.Merging.{all_at, are_apart}
use Rattle.audit.proofs.Opening.{books_open, ends_of, last_of, limit_for, limit_of, limits_each, limits_from}
use Rattle.audit.proofs.Running.{current, future, merge_runs, past, SitesStay, Stands}
use Rattle.run_book.specs.Answers.{book_answer}
use Rattle.audit.proofs.Setting.{get_set}
use Rattle.root_registry.specs.Published.{published_by}
use Rattle.run_book.specs.Books.{are_distinct, Book, EndsIn, IsBook, LeadsTo}
use Rattle.audit.specs.Checked.{AreSafe, IsRight}
use Rattle.run_book.specs.Entries.{Entry}
use Rattle.run_book.specs.Merges.{IsMerge, MergesTo, none_yet, follows, SiteEntry}
use Rattle.run_book.specs.Sites.{RunName}
use Rattle.spawn_frame.specs.declared.site.Site.{Site}

-- what is left of a book has its site
pub left_keeps : (books : List Book) (merged : List SiteEntry) (left : List Book) → MergesTo books merged left → (k : ℕ) (book : Book) → slice_get books k ≡ Some book
    → (rest : List Entry) × (slice_get left k ≡ Some (record { site = book.site; entries = rest }))
left_keeps books merged left none_yet k book e = (book.entries, e)
left_keeps books merged left (follows {merged = front} {left = old} m j next later f) k book e =
    let h = left_keeps books front old m k book e in
    let after : Book = record { site = next.site; entries = later } in
    let was : Book = record { site = book.site; entries = h.0 } in
    ⊎_elim
    (λ (g : (k ≡ j) × (slice_get (slice_set old j after) k ≡ Some after)).
    let same : was ≡ record { site = next.site; entries = next.entry ∷ later } = same_Some was _ (sym h.1 ∙ ap (slice_get old) g.0 ∙ f.is) in
    (later, g.1 ∙ (λ i. Some (record { site = (sym same i).site; entries = later }))))
    (λ (g : (k ≢ j) × (slice_get (slice_set old j after) k ≡ Some was)). (h.0, g.1))
    (get_set old j after k was h.1)

-- the registry's node holds the last view of its book
stands_last : (problem : Problem) (nodes : ℕ) (view : View) (site : Site) (entries : List Entry) (limit : ℕ) (last : View) → site.node ≡ 0 → entries ≡ []
    → Stands problem nodes view site entries limit last → view ≡ last
stands_last problem nodes view site entries limit last at none (current s leads) = subst (λ es. LeadsTo site.node problem view es last) none leads
stands_last problem nodes view site entries limit last at none (past p q) = absurd (omega (arith, p, at))
stands_last problem nodes view site entries limit last at none (future p q leads) = absurd (omega (arith, p, at))

right_by : (problem : Problem) (end : World) (o : Option Answer) → published problem end ≡ o
    → ((options : List ℕ) → published problem end ≡ Some (Cover options) → IsExactCover problem (is_in options))
    → (published problem end ≡ Some NoCover → (chosen : ℕ → Bool) → IsExactCover problem chosen → ⊥)
    → IsRight problem o
right_by problem end None e covers none = tt
right_by problem end (Some (Cover options)) e covers none = covers options e
right_by problem end (Some NoCover) e covers none = none e

abbrev pub AllSafe : Type 0
AllSafe = (problem : Problem) (nodes : ℕ) (limits : List ℕ) (now end : World) (e : Run problem (opening_world nodes limits) now) (f : Run problem now end) → Safe e f

-- what the registry's book answers is what its last view publishes
abbrev pub BooksTell : Type 0
BooksTell = (run : RunName) (book : Book) (limit : ℕ) (last : View) → book.site.node ≡ 0 → EndsIn run book limit last
    → book_answer run.problem book.entries ≡ published_by run.problem last

pub merged_are_safe : AllSafe → SitesStay → BooksTell → (run : RunName) (books : List Book) (merged : List SiteEntry)
    → AllByRecursion (IsBook run) books → are_distinct books ≡ true → IsMerge books merged → AreSafe run books
merged_are_safe always stay_so tell run books merged all distinct w =
    let limits = limit_of run books all in
    let lasts = last_of run books all in
    let list = limits_from (limit_for books limits) run.nodes 1 in
    let r = merge_runs stay_so run.problem run.nodes limits lasts (opening_world run.nodes list) books merged w.left (books_open run books all (are_apart books distinct)) w.merges in
    let publishes : (k : ℕ) (book : Book) → slice_get books k ≡ Some book → book.site.node ≡ 0 → book_answer run.problem book.entries ≡ published run.problem r.world = λ k book is at.
    let left = left_keeps books merged w.left w.merges k book is in
    let rest : Book = record { site = book.site; entries = left.0 } in
    let none : left.0 ≡ [] = all_at (λ (b : Book). b.entries ≡ []) w.left w.whole k rest left.1 in
    let seat = r.keeps.each k rest left.1 in
    let view : seat.view ≡ lasts k = stands_last run.problem run.nodes seat.view book.site left.0 (limits k) (lasts k) at none seat.stands in
    tell run book (limits k) (lasts k) at (ends_of run books all k book is)
    ∙ sym (ap (λ n. published_at run.problem (slice_get r.world.sites n)) (sym at) ∙ ap (published_at run.problem) (seat.is ∙ ap Some view)) in
    let safe = always run.problem run.nodes list r.world r.world r.run stay in
    record {
      are_run = record {
        merged = merged;
        merges = w;
        limits = list;
        of_nodes = limits_each (limit_for books limits) run.nodes 1;
        end = r.world;
        course = r.run;
        plays = r.plays;
      };
      safe = λ now e f same. always run.problem run.nodes list now r.world e f;
      publishes = publishes;
      right = λ k book is at. right_by run.problem r.world (book_answer run.problem book.entries) (sym (publishes k book is at)) safe.covers safe.no_cover;
    }
