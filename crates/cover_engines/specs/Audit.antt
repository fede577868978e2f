-- What `solve --audit` says of a problem.
use Rattle.std.specs.Prelude.{◌≡◌, ◌≢◌, ℕ, List, [], ◌++◌, Option, Result, Ok, Err, codes}
use Rattle.std.specs.Fmt.{decimal}
use Rattle.cover_problem.specs.Problem.{Problem}
use Rattle.cover_problem.specs.declared.answer.Answer.{Answer}
use Rattle.cover_world.specs.Safety.{published}
use Rattle.run_book.specs.Books.{Book}
use Rattle.run_book.specs.Runs.{IsRunEnd}
use Rattle.run_book.specs.Sites.{RunName}
use Rattle.audit.specs.Audits.{AllHaveBooks, IsCause}
use Rattle.audit.specs.Checked.{AreSafe, IsRight}
use Rattle.audit.specs.declared.auditing.Clean.{Clean}
use Rattle.audit.specs.declared.auditing.Unclean.{Unclean}
use Rattle.audit.specs.declared.auditing.Unclean.TheVariants.{Memory, MissingBook, NeverSent}
use Rattle.search_engines.specs.Output.{Said, published_said, said}

-- ---- what is found

-- The books are one run of the world, which publishes this answer; and it is right, whatever the network delivered.
pub record IsChecked (run : RunName) (answer : Option Answer) (books : List Book) : Type 0 where
  pub complete : AllHaveBooks books
  pub safe : AreSafe run books
  pub publishes : answer ≡ published run.problem safe.are_run.end
  pub right : IsRight run.problem answer

-- an audit that came to its end found this of the books and the answer
abbrev pub IsFound : RunName → Option Answer → List Book → Result Clean Unclean → Type 0
IsFound run answer books (Ok clean) = IsChecked run answer books
IsFound run answer books (Err cause) = (cause ≢ Memory) × IsCause books cause

-- ---- what is said of it

-- the line of what was found; an audit that ran out of memory has none
abbrev pub finding_line : Result Clean Unclean → List ℕ
finding_line (Ok clean) = codes "audit clean\n"
finding_line (Err (MissingBook site)) =
    codes "audit unclean: MissingBook node " ++ decimal site.node ++ codes " incarnation " ++ decimal site.incarnation ++ codes "\n"
finding_line (Err (NeverSent site place)) =
    codes "audit unclean: NeverSent node " ++ decimal site.node ++ codes " incarnation " ++ decimal site.incarnation ++ codes " place " ++ decimal place ++ codes "\n"
finding_line (Err Memory) = []

-- the status of the answer where the audit is clean, else 6
abbrev pub finding_status : Result Clean Unclean → ℕ → ℕ
finding_status (Ok clean) status = status
finding_status (Err cause) status = 6

-- what is said of an answer, or of none, and the line of what was found behind it
abbrev pub audited_said : Problem → Option Answer → Result Clean Unclean → Said
audited_said problem answer found =
    let shown = published_said problem answer in
    said (shown.text ++ finding_line found) (finding_status found shown.status)

-- It says what the registry published, as books of the run tell it, and what an audit found of these.
pub record AuditSays (run : RunName) (what : Said) : Type 0 where
  pub answer : Option Answer
  pub books : List Book
  pub is_end : IsRunEnd run answer books
  pub found : Result Clean Unclean
  pub is_found : IsFound run answer books found
  pub is : what ≡ audited_said run.problem answer found
