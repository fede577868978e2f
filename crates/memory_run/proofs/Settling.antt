-- What the end of a run in memory settles.
use Rattle.std.proofs.Common.{ℕ, List, Some, Ok, rules}
use Rattle.cover_problem.specs.declared.answer.Answer.TheVariants.{Cover, NoCover}
use Rattle.audit.specs.Audits.{AllHaveBooks}
use Rattle.audit.specs.Checked.{AreSafe}
use Rattle.audit.specs.declared.auditing.Clean.{Clean}
use Rattle.run_book.specs.Books.{Book}
use Rattle.run_book.specs.Runs.{IsRunEnd}
use Rattle.run_book.specs.Sites.{RunName}
use Rattle.cover_engines.specs.Audit.{IsChecked}
use Rattle.cover_engines.proofs.Checked.{BooksTell, found_of}
use Rattle.memory_run.specs.Settled.{IsSettled}

-- clean books of a run that found none leave no cover
pub none_is_settled : BooksTell → (run : RunName) (books : List Book) (clean : Clean) → IsRunEnd run (Some NoCover) books → AreSafe run books → AllHaveBooks books
    → IsSettled run.problem NoCover
none_is_settled tell run books clean end safe all =
    let checked : IsChecked run (Some NoCover) books = found_of tell run (Some NoCover) books (Ok clean) end safe all (search rules) (λ e. absurd (cc)) in
    checked.right

-- the registry has counted the cover that it published
pub cover_is_settled : (run : RunName) (options : List ℕ) (books : List Book) → IsRunEnd run (Some (Cover options)) books → IsSettled run.problem (Cover options)
cover_is_settled run options books end = end.counts_right
