-- What an answer of a run in memory says.
use Rattle.std.specs.Prelude.{ℕ, Bool}
use Rattle.cover_problem.specs.ExactCover.{IsExactCover}
use Rattle.cover_problem.specs.Numbers.{is_in}
use Rattle.cover_problem.specs.Prefix.{InFileOrder}
use Rattle.cover_problem.specs.Problem.{Problem}
use Rattle.cover_problem.specs.declared.answer.Answer.{Answer}
use Rattle.cover_problem.specs.declared.answer.Answer.TheVariants.{Cover, NoCover}

-- a cover is exact, and in the order of the file; where there is none, no set of options is one
abbrev pub IsSettled : Problem → Answer → Type 0
IsSettled problem (Cover options) = IsExactCover problem (is_in options) × InFileOrder problem options
IsSettled problem NoCover = (chosen : ℕ → Bool) → IsExactCover problem chosen → ⊥
