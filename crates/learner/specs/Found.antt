-- What a learner says about a problem.
use Rattle.std.specs.Prelude.{ℕ, List}
use Rattle.cover_problem.specs.Prefix.{InFileOrder, IsBarren, IsCoverOver}
use Rattle.cover_problem.specs.Problem.{Problem}
use Rattle.learner.specs.Covers.{IsCoverOf, HasNoCover}
use Rattle.learner.specs.declared.find.Found.{Found}
use Rattle.learner.specs.declared.find.Found.TheVariants.{Cover, NoCover, Stopped}

-- what is found is true of the problem
abbrev pub IsTrueOf : Problem → Found → Type 0
IsTrueOf problem (Cover options) = IsCoverOf problem options
IsTrueOf problem NoCover = HasNoCover problem
IsTrueOf problem Stopped = Unit {0}

-- An exact cover that has the given options, in the order of the file.
pub record IsCoverWith (problem : Problem) (given options : List ℕ) : Type 0 where
  pub cover : IsCoverOver problem given options
  pub order : InFileOrder problem options

-- what is found is true of the exact covers that have the given options
abbrev pub IsTrueWith : Problem → List ℕ → Found → Type 0
IsTrueWith problem given (Cover options) = IsCoverWith problem given options
IsTrueWith problem given NoCover = IsBarren problem given
IsTrueWith problem given Stopped = Unit {0}
