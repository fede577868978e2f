-- What an answer rests on, and the lines that say so.
use Rattle.std.specs.Prelude.{◌≡◌, ℕ, List, ◌++◌, codes, ◌==◌, if◌then◌else◌}
use Rattle.std.specs.Fmt.{decimal}
use Rattle.cover_problem.specs.Problem.{Problem}
use Rattle.cover_problem.specs.declared.answer.Answer.{Answer}
use Rattle.cover_problem.specs.declared.answer.Answer.TheVariants.{NoCover}
use Rattle.reason_engine.specs.Causes.{IsCause, cause_text}
use Rattle.answer_engine.specs.declared.basis.Basis.{Basis}
use Rattle.answer_engine.specs.declared.basis.Basis.TheVariants as bases

-- Whether the answer may rest on it. That there is no cover may rest on a reason, if it is one of the problem; what else found an answer says
-- only how much it took.
abbrev pub RestsOn : Problem → Answer → Basis → Type 0
RestsOn problem answer (bases.Reason cause) = (answer ≡ NoCover) × IsCause problem cause
RestsOn problem answer (bases.Search states) = Unit {0}
RestsOn problem answer (bases.Learning clauses) = Unit {0}
RestsOn problem answer (bases.Run workers) = Unit {0}

-- words before a number, the number, and what is counted, in the singular or the plural
abbrev pub count_text : List ℕ → ℕ → List ℕ → List ℕ → List ℕ
count_text before count one many = before ++ decimal count ++ (if count == 1 then one else many)

-- the lines of what an answer rests on
abbrev pub basis_text : Problem → Basis → List ℕ
basis_text problem (bases.Search states) = count_text (codes "by search of ") states (codes " state\n") (codes " states\n")
basis_text problem (bases.Reason cause) = cause_text problem cause
basis_text problem (bases.Learning clauses) = count_text (codes "by ") clauses (codes " learned clause\n") (codes " learned clauses\n")
basis_text problem (bases.Run workers) = count_text (codes "by a run of ") workers (codes " worker\n") (codes " workers\n")
