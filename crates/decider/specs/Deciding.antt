-- What a search without a limit comes to, and what is true of the states that it keeps.
use Rattle.std.specs.Prelude.{◌≡◌, ℕ, List, Bool, true, Option, Some, None}
use Rattle.cover_problem.specs.Problem.{Problem}
use Rattle.cover_problem.specs.Search.{first}
use Rattle.choices.specs.Choices.{Choices}
use Rattle.choices.specs.Keys.{IsKey}
use Rattle.barren_states.specs.States.{States, Holds}
use Rattle.decider.specs.declared.decision.Decision.{Decision}
use Rattle.decider.specs.declared.decision.Decision.TheVariants.{Found, Barren, Stopped}

-- Below each prefix whose key is held there is no cover.
abbrev pub HaveNoCover : Problem → States → Type 0
HaveNoCover problem states = (key : List ℕ) (visits : ℕ) (prefix : List ℕ) → Holds states key visits → IsKey problem prefix key → first problem prefix ≡ None

-- What a search of these choices comes to: at the first cover below them, or without one at what was chosen before; stopped only if it may be.
abbrev pub IsDecided : Bool → Choices → Choices → Decision → Type 0
IsDecided may_stop old new Found = first old.problem old.chosen ≡ Some new.chosen
IsDecided may_stop old new (Barren visits) = (first old.problem old.chosen ≡ None) × (new ≡ old)
IsDecided may_stop old new Stopped = may_stop ≡ true

-- What is decided of a problem with this first cover, if it has one: the options that are found then are that cover.
abbrev pub IsDecision : Bool → Option (List ℕ) → List ℕ → Decision → Type 0
IsDecision may_stop first found Found = first ≡ Some found
IsDecision may_stop first found (Barren visits) = first ≡ None
IsDecision may_stop first found Stopped = may_stop ≡ true
