-- What a step of a visit that notes how much was left at prefixes comes to.
use Rattle.std.specs.Prelude.{◌≡◌, ℕ, ◌<◌, List, Bool, true}
use Rattle.cover_problem.specs.Search.{first, visits}
use Rattle.choices.specs.Choices.{Choices}
use Rattle.brancher.specs.declared.search_step.SearchStep.{SearchStep}
use Rattle.brancher.specs.declared.search_step.SearchStep.TheVariants.{On, End}
use Rattle.brancher.specs.declared.visit.Visit.{Visit}
use Rattle.brancher.specs.declared.visit.Visit.TheVariants.{Stopped}
use Rattle.brancher.specs.Keeping.{IsEntered}
use Rattle.brancher.specs.Visit.{IsVisit}

-- the visit of the root ends so at these choices; it is stopped only if it may be
pub record IsEnding (may_stop : Bool) (root : Choices) (fuel : ℕ) (now : Choices) (visit : Visit) : Type 0 where
  pub problem : now.problem ≡ root.problem
  pub visit_is : IsVisit (first root.problem root.chosen) (visits root.problem root.chosen) fuel root.chosen now.chosen visit
  pub stopped : (left : ℕ) → visit ≡ Stopped left → may_stop ≡ true

-- from choices at which more was left it comes to these, with what is left, or it ends at them
abbrev pub IsStep : Bool → Choices → ℕ → List ℕ → ℕ → Choices → SearchStep → Type 0
IsStep may_stop root fuel entered before now (On left) = (left < before) × IsEntered root fuel entered now left
IsStep may_stop root fuel entered before now (End visit) = IsEnding may_stop root fuel now visit
