-- The two kinds of reason why a problem has no exact cover, as sums over its items.
use Rattle.std.specs.Prelude.{Bool}
use Rattle.cover_problem.specs.Problem.{Problem}
use Rattle.cover_reasons.specs.Room.{is_too_little}
use Rattle.cover_reasons.specs.Weights.{excludes}
use Rattle.cover_reasons.specs.declared.reason.Reason.{Reason}
use Rattle.cover_reasons.specs.declared.reason.Reason.TheVariants as reasons

-- whether the reason holds of the problem
abbrev pub holds_of : Problem → Reason → Bool
holds_of problem (reasons.Weighed weights) = excludes problem weights
holds_of problem (reasons.TooLittleRoom room) = is_too_little problem room
