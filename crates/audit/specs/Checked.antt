-- Books that are one run of the world, and what that makes of the registry's answer.
use Rattle.std.specs.Prelude.{◌≡◌, ℕ, Bool, List, [], ◌∷◌, ◌++◌, length, Option, Some, None, slice_get, ⊤}
use Rattle.cover_problem.specs.ExactCover.{IsExactCover}
use Rattle.cover_problem.specs.Numbers.{is_in}
use Rattle.cover_problem.specs.Problem.{Problem}
use Rattle.cover_problem.specs.declared.answer.Answer.{Answer}
use Rattle.cover_problem.specs.declared.answer.Answer.TheVariants.{Cover, NoCover}
use Rattle.cover_world.specs.Safety.{published, Safe}
use Rattle.cover_world.specs.Worlds.{Acts, Restarts, Run, SiteActs, SiteRestarts, World, after, go, opening_world, stay}
use Rattle.node_core.specs.declared.event.Event.{Event}
use Rattle.run_book.specs.Answers.{book_answer}
use Rattle.run_book.specs.Books.{Book}
use Rattle.run_book.specs.Merges.{IsMerge, SiteEntry}
use Rattle.run_book.specs.Sites.{RunName}

-- what a step of a site is in its book
abbrev pub entry_of : {problem : Problem} {old new : World} (node : ℕ) (event : Event) → SiteActs problem old node event new → SiteEntry
entry_of node event step = record { site = step.before.site; entry = record { event = event; reply = step.reply; packets = step.out } }

-- The steps of sites in a run are these entries, in their order. A node restarts only directly before an entry of its new incarnation.
pub data Plays (problem : Problem) (start : World) : (end : World) → Run problem start end → List SiteEntry → Type 0 where
  nothing : Plays problem start start stay []
  acts : {old : World} (new : World) (run : Run problem start old) (merged : List SiteEntry) → Plays problem start old run merged
      → (node : ℕ) (event : Event) (step : SiteActs problem old node event new)
      → Plays problem start new (go run (Acts node event) step) (merged ++ entry_of node event step ∷ [])
  begins : {old : World} (middle new : World) (run : Run problem start old) (merged : List SiteEntry) → Plays problem start old run merged
      → (node incarnation limit : ℕ) (restart : SiteRestarts old node incarnation limit middle)
      → (event : Event) (step : SiteActs problem middle node event new)
      → Plays problem start new (go (go run (Restarts node incarnation limit) restart) (Acts node event) step) (merged ++ entry_of node event step ∷ [])

-- A merge of the books is a run of the world: one from its opening, with restarts put in.
pub record AreRun (run : RunName) (books : List Book) : Type 0 where
  pub merged : List SiteEntry
  pub merges : IsMerge books merged
  pub limits : List ℕ
  pub of_nodes : length limits ≡ run.nodes
  pub end : World
  pub course : Run run.problem (opening_world run.nodes limits) end
  pub plays : Plays run.problem (opening_world run.nodes limits) end course merged

-- an answer that is right: a cover is exact, and there is none where it says so
abbrev pub IsRight : Problem → Option Answer → Type 0
IsRight problem None = ⊤
IsRight problem (Some (Cover options)) = IsExactCover problem (is_in options)
IsRight problem (Some NoCover) = (chosen : ℕ → Bool) → IsExactCover problem chosen → ⊥

-- The books are a run, each cut of it is safe, and the registry's book answers what the run publishes, which is right.
pub record AreSafe (run : RunName) (books : List Book) : Type 0 where
  pub are_run : AreRun run books
  pub open are_run use {limits, end, course}
  pub safe : (now : World) (e : Run run.problem (opening_world run.nodes limits) now) (f : Run run.problem now end)
      → after e f ≡ course → Safe e f
  pub publishes : (k : ℕ) (book : Book) → slice_get books k ≡ Some book → book.site.node ≡ 0
      → book_answer run.problem book.entries ≡ published run.problem end
  pub right : (k : ℕ) (book : Book) → slice_get books k ≡ Some book → book.site.node ≡ 0
      → IsRight run.problem (book_answer run.problem book.entries)
