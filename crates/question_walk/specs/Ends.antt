-- What a walk comes to.
use Rattle.std.specs.Prelude.{◌≡◌, ℕ, List, Option, Some, None}
use Rattle.question_walk.specs.declared.walk_end.Step.{Step}
use Rattle.question_walk.specs.declared.walk_end.Step.TheVariants.{On, Ask, End}
use Rattle.question_walk.specs.declared.walk_end.WalkEnd.{WalkEnd}
use Rattle.question_walk.specs.declared.walk_end.WalkEnd.TheVariants.{Found, NoCover, Stopped}

-- where this is the first cover, if there is one: the chosen options are that cover, or there is none, or nothing is known
abbrev pub IsEndOf : Option (List ℕ) → List ℕ → WalkEnd → Type 0
IsEndOf first chosen Found = first ≡ Some chosen
IsEndOf first chosen NoCover = first ≡ None
IsEndOf first chosen Stopped = Unit {0}

-- the same of a step, which says something only where the walk ends
abbrev pub IsStepOf : Option (List ℕ) → List ℕ → Step → Type 0
IsStepOf first chosen On = Unit {0}
IsStepOf first chosen Ask = Unit {0}
IsStepOf first chosen (End end) = IsEndOf first chosen end
