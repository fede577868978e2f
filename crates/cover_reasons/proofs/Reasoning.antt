-- A reason of either kind excludes an exact cover.
use Rattle.std.proofs.Common.{◌≡◌, ℕ, Bool, true, List, [], Some, None}
use Rattle.cover_problem.specs.ExactCover.{IsExactCover}
use Rattle.cover_problem.specs.Prefix.{IsCoverOver}
use Rattle.cover_problem.specs.Problem.{Problem, IsProblem}
use Rattle.cover_problem.specs.Search.{first}
use Rattle.cover_reasons.specs.Reasons.{holds_of}
use Rattle.cover_reasons.specs.declared.reason.Reason.{Reason}
use Rattle.cover_reasons.specs.declared.reason.Reason.TheVariants as reasons
use Rattle.cover_reasons.proofs.Rooming as rooming
use Rattle.cover_reasons.proofs.Weighing as weighing

pub none : (p : Problem) (r : Reason) (chosen : ℕ → Bool) → IsProblem p → holds_of p r ≡ true → IsExactCover p chosen → ⊥
none p (reasons.Weighed w) chosen lawful ok cover = weighing.none p w chosen lawful ok cover
none p (reasons.TooLittleRoom r) chosen lawful ok cover = rooming.none p r chosen lawful ok cover

pub none_found : (p : Problem) (r : Reason) → IsProblem p → holds_of p r ≡ true → ((cover : List ℕ) → first p [] ≡ Some cover → IsCoverOver p [] cover) → first p [] ≡ None
none_found p (reasons.Weighed w) lawful ok found = weighing.none_found p w lawful ok found
none_found p (reasons.TooLittleRoom r) lawful ok found = rooming.none_found p r lawful ok found
