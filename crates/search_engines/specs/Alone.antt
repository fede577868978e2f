-- What `alone` says of a problem, within limits or without.
use Rattle.std.specs.Prelude.{◌≡◌, ◌⊎◌, ◌==◌, ℕ, List, [], Option, None, Some, Result, Ok, Err, if◌then◌else◌}
use Rattle.cover_problem.specs.ExactCover.{in_order}
use Rattle.cover_problem.specs.Problem.{Problem}
use Rattle.cover_problem.specs.Search.{Outcome, Covers, Barren, Spent, first, found_outcome, outcome}
use Rattle.cover_problem.specs.declared.answer.Answer.{Answer}
use Rattle.cover_problem.specs.declared.answer.Answer.TheVariants.{Cover, NoCover}
use Rattle.dlx_reader.specs.ProblemOf.{IsProblemOf}
use Rattle.search_engines.specs.declared.engine.EngineEnd.{EngineEnd}
use Rattle.search_engines.specs.Output.{Said, no_answer, published_said}
use Rattle.search_engines.specs.declared.search_limits.TimeLimit.{TimeLimit}
use Rattle.search_engines.specs.declared.unanswered.Unanswered.{Unanswered}
use Rattle.search_engines.specs.declared.unanswered.Unanswered.TheVariants as whys

-- ---- answers

-- the answer where this cover is the first, with its options in file order, or where there is none
abbrev pub answer_by : Problem → Option (List ℕ) → Answer
answer_by problem (Some chosen) = Cover (in_order problem chosen)
answer_by problem None = NoCover

-- what the whole search of the empty prefix comes to, with so many visits at most, or without a limit of visits
abbrev pub whole_outcome : Problem → Option ℕ → Outcome
whole_outcome problem (Some fuel) = outcome problem [] fuel
whole_outcome problem None = found_outcome (first problem [])

-- the answer that an outcome gives, with a cover's options in file order; none where the fuel was spent
abbrev pub answer_from : Problem → Outcome → Option Answer
answer_from problem (Covers options) = Some (Cover (in_order problem options))
answer_from problem Barren = Some NoCover
answer_from problem Spent = None

-- the same, and this instead of none
abbrev pub answer_or : Problem → Unanswered → Outcome → Result Answer Unanswered
answer_or problem why (Covers options) = Ok (Cover (in_order problem options))
answer_or problem why Barren = Ok NoCover
answer_or problem why Spent = Err why

-- an answer that a search gives is that of the whole search; it may be stopped before, and give none
abbrev pub IsGiven : Problem → Option ℕ → Option Answer → Type 0
IsGiven problem fuel None = Unit {0}
IsGiven problem fuel (Some answer) = answer_from problem (whole_outcome problem fuel) ≡ Some answer

-- ---- why there is none

-- what is said of a search that has spent so much fuel: of the greatest there is no more
abbrev pub why_spent : ℕ → Unanswered
why_spent fuel = if fuel == 18446744073709551615 then whys.GreatestFuel else whys.Fuel

-- the whole search with this limit of visits makes more, and that is said
abbrev pub IsSpent : Problem → Option ℕ → Unanswered → Type 0
IsSpent problem None why = ⊥
IsSpent problem (Some fuel) why = (outcome problem [] fuel ≡ Spent) × (why ≡ why_spent fuel)

-- why a search ends without an answer: it makes more visits than it may, or its time is over, and that only where something stops it
abbrev pub IsUnanswered : Type 0 → Problem → Option ℕ → Unanswered → Type 0
IsUnanswered stops problem fuel why = IsSpent problem fuel why ⊎ ((why ≡ whys.Time) × stops)

-- what a search gives: the answer of the whole one, or why there is none
abbrev pub IsGivenIf : Type 0 → Problem → Option ℕ → Result Answer Unanswered → Type 0
IsGivenIf stops problem fuel (Ok answer) = answer_from problem (whole_outcome problem fuel) ≡ Some answer
IsGivenIf stops problem fuel (Err why) = IsUnanswered stops problem fuel why

-- time stops it only where it is limited
abbrev pub IsLimited : Option TimeLimit → Type 0
IsLimited time = time ≡ None → ⊥

-- the same within limits of visits and of time
abbrev pub IsAnswerWithin : Problem → Option ℕ → Option TimeLimit → Result Answer Unanswered → Type 0
IsAnswerWithin problem fuel time given = IsGivenIf (IsLimited time) problem fuel given

-- the end of an engine with this status says why there is no answer, if there is none
abbrev pub SaysWhy : (Unanswered → Type 0) → ℕ → Option Unanswered → Type 0
SaysWhy may status None = status ≡ 4 → ⊥
SaysWhy may status (Some why) = may why

-- It says so of the problem of a text.
pub record SaysWhyOf (fuel : Option ℕ) (time : Option TimeLimit) (text : List ℕ) (end : EngineEnd) : Type 0 where
  pub problem : Problem
  pub read : IsProblemOf text problem end.ignored
  pub why : SaysWhy (IsUnanswered (IsLimited time) problem fuel) end.status end.why

-- ---- what is said

-- the cover with its options in file order, or that there is none, or no answer where the fuel was spent
abbrev pub outcome_said : Problem → Outcome → Said
outcome_said problem came = published_said problem (answer_from problem came)

-- with so much fuel it says this, and nothing else
abbrev pub AloneSays : ℕ → Problem → Said → Type 0
AloneSays fuel problem what = what ≡ outcome_said problem (outcome problem [] fuel)

-- it says what the whole search comes to, or that there is no answer
abbrev pub AloneSaysWithin : Option ℕ → Problem → Said → Type 0
AloneSaysWithin fuel problem what = (what ≡ outcome_said problem (whole_outcome problem fuel)) ⊎ (what ≡ no_answer)

-- It says what the whole search comes to; where there is a limit of time, it may say that there is no answer.
abbrev pub LimitedSays : Option ℕ → Option TimeLimit → Problem → Said → Type 0
LimitedSays fuel None problem what = what ≡ outcome_said problem (whole_outcome problem fuel)
LimitedSays fuel (Some time) problem what = AloneSaysWithin fuel problem what
