-- What the outcome of the whole search, or the first cover, says of what a search gives, and what that says.
use Rattle.std.specs.Prelude.{MatchOption, Result, Ok, Err}
use Rattle.std.specs.Option.{ok_or}
use Rattle.std.specs.Result.{result_ok}
use Rattle.std.proofs.Common.{◌≡◌, ◌==◌, ◌⊎◌, ℕ, cond, nat_lt, List, [], Option, Some, None, Bool, true, false, refl, sym, ap, subst, ◌∙◌, inl, inr}
use Rattle.std.proofs.lemmas.Bool.{both_ways}
use Rattle.cover_problem.specs.ExactCover.{in_order}
use Rattle.cover_problem.specs.Problem.{Problem}
use Rattle.cover_problem.specs.Search.{Outcome, Covers, Barren, Spent, first, found_outcome, outcome, visits}
use Rattle.cover_problem.specs.declared.answer.Answer.{Answer}
use Rattle.cover_problem.specs.declared.answer.Answer.TheVariants.{Cover, NoCover}
use Rattle.search_engines.specs.Alone.{answer_by, answer_from, answer_or, outcome_said, whole_outcome, why_spent, IsAnswerWithin, IsGivenIf, IsLimited, LimitedSays}
use Rattle.search_engines.specs.Check.{none_by, NoneSaysWithin}
use Rattle.search_engines.specs.Output.{Said, IsOutput, IsOutputOf, answer_said, no_answer, published_said}
use Rattle.search_engines.specs.declared.fault.EngineFault.{EngineFault}
use Rattle.search_engines.specs.declared.fault.EngineFault.TheVariants as faults
use Rattle.search_engines.specs.declared.search_limits.TimeLimit.{TimeLimit}
use Rattle.search_engines.specs.declared.unanswered.Unanswered.{Unanswered}
use Rattle.search_engines.specs.declared.unanswered.Unanswered.TheVariants as whys

-- ---- answers

-- the answer that an outcome gives is what a search gives, and where it is spent, that is said
pub given_by : (stops : Type 0) (problem : Problem) (fuel : ℕ) (given : Result Answer Unanswered) → given ≡ answer_or problem (why_spent fuel) (outcome problem [] fuel) → IsGivenIf stops problem (Some fuel) given
given_by stops problem fuel given is = split (outcome problem [] fuel) refl
  where
    split : (came : Outcome) → outcome problem [] fuel ≡ came → IsGivenIf stops problem (Some fuel) given
    split (Covers options) e = let same : given ≡ Ok (Cover (in_order problem options)) = is ∙ ap (answer_or problem (why_spent fuel)) e in rw (same, e) refl
    split Barren e = let same : given ≡ Ok NoCover = is ∙ ap (answer_or problem (why_spent fuel)) e in rw (same, e) refl
    split Spent e = let same : given ≡ Err (why_spent fuel) = is ∙ ap (answer_or problem (why_spent fuel)) e in rw same (inl (e, refl))

-- what stops it has stopped it
pub given_stopped : (stops : Type 0) (problem : Problem) (fuel : Option ℕ) → stops → IsGivenIf stops problem fuel (Err whys.Time)
given_stopped stops problem fuel h = inr (refl, h)

-- the answer by the first cover is that of the whole search without a limit
first_answers : (problem : Problem) (found : Option (List ℕ)) → answer_from problem (found_outcome found) ≡ Some (answer_by problem found)
first_answers problem None = refl
first_answers problem (Some chosen) = refl

pub given_first : (stops : Type 0) (problem : Problem) (given : Option Answer) → MatchOption given stops (λ answer. answer ≡ answer_by problem (first problem [])) → IsGivenIf stops problem None (ok_or given whys.Time)
given_first stops problem None stopped = inr (refl, stopped)
given_first stops problem (Some answer) is = first_answers problem (first problem []) ∙ ap Some (sym is)

-- the answer that an outcome gives, if it is one, is that of the first cover
first_of_outcome : (problem : Problem) (spent : Bool) (found : Option (List ℕ)) (answer : Answer) → answer_from problem (cond spent Spent (found_outcome found)) ≡ Some answer → answer ≡ answer_by problem found
first_of_outcome problem true found answer is = absurd (cc)
first_of_outcome problem false found answer is = let same : Some (answer_by problem found) ≡ Some answer = sym (first_answers problem found) ∙ is in cc

-- so with a limit of visits, too, it is that of the first cover
pub given_is_first : (stops : Type 0) (problem : Problem) (fuel : ℕ) (answer : Answer) → IsGivenIf stops problem (Some fuel) (Ok answer) → answer ≡ answer_by problem (first problem [])
given_is_first stops problem fuel answer is = first_of_outcome problem (nat_lt fuel (visits problem [])) (first problem []) answer is

-- the fuel is no time
fuel_is_no_time : (greatest : Bool) → whys.Time ≡ cond greatest whys.GreatestFuel whys.Fuel → ⊥
fuel_is_no_time true e = absurd (cc)
fuel_is_no_time false e = absurd (cc)

-- where the time is over, something stops it
pub time_stops : (stops : Type 0) (problem : Problem) (fuel : ℕ) → IsGivenIf stops problem (Some fuel) (Err whys.Time) → stops
time_stops stops problem fuel (inl both) = absurd (fuel_is_no_time (fuel == 18446744073709551615) both.1)
time_stops stops problem fuel (inr both) = both.1

-- what may stop it less often gives what is given more often
given_more : (stops others : Type 0) (problem : Problem) (fuel : Option ℕ) (given : Result Answer Unanswered) → (stops → others) → IsGivenIf stops problem fuel given → IsGivenIf others problem fuel given
given_more stops others problem fuel (Ok answer) more is = is
given_more stops others problem fuel (Err why) more (inl spent) = inl spent
given_more stops others problem fuel (Err why) more (inr both) = inr (both.0, more both.1)

-- where nothing stops a search, no time does
pub whole_by : (may_stop : Bool) (problem : Problem) (fuel : Option ℕ) (given : Result Answer Unanswered) → may_stop ≡ false → IsGivenIf (may_stop ≡ true) problem fuel given → IsAnswerWithin problem fuel None given
whole_by may_stop problem fuel given never is = given_more (may_stop ≡ true) (IsLimited None) problem fuel given (λ stopped. absurd (both_ways may_stop never stopped)) is

-- and where something may stop it, the time is limited
pub timed_by : (stops : Type 0) (problem : Problem) (fuel : Option ℕ) (time : TimeLimit) (given : Result Answer Unanswered) → IsGivenIf stops problem fuel given → IsAnswerWithin problem fuel (Some time) given
timed_by stops problem fuel time given is = given_more stops (IsLimited (Some time)) problem fuel given (λ stopped none. absurd (cc)) is

-- without a limit of time it is the answer of the whole search
pub unlimited : (problem : Problem) (fuel : Option ℕ) (given : Result Answer Unanswered) → IsAnswerWithin problem fuel None given → result_ok given ≡ answer_from problem (whole_outcome problem fuel)
unlimited problem fuel (Ok answer) is = sym is
unlimited problem None (Err why) (inl never) = absurd never
unlimited problem (Some fuel) (Err why) (inl both) = ap (answer_from problem) (sym both.0)
unlimited problem fuel (Err why) (inr both) = absurd (both.1 refl)

-- ---- what they say

pub answers : (problem : Problem) (answer : Answer) → answer ≡ answer_by problem (first problem []) → outcome_said problem (whole_outcome problem None) ≡ answer_said problem answer
answers problem answer is = ap (published_said problem) (first_answers problem (first problem []) ∙ ap Some (sym is))

pub says_within : (fuel : Option ℕ) (time : Option TimeLimit) (problem : Problem) (given : Result Answer Unanswered) → IsAnswerWithin problem fuel time given → LimitedSays fuel time problem (published_said problem (result_ok given))
says_within fuel None problem given is = ap (published_said problem) (unlimited problem fuel given is)
says_within fuel (Some time) problem (Err why) is = inr refl
says_within fuel (Some time) problem (Ok answer) is = inl (ap (published_said problem) (sym is))

pub checks_within : (fuel : Option ℕ) (time : Option TimeLimit) (problem : Problem) (given : Result Answer Unanswered) → IsAnswerWithin problem fuel time given → NoneSaysWithin fuel time problem (none_by (result_ok given))
checks_within fuel None problem given is = ap none_by (unlimited problem fuel given is)
checks_within fuel (Some time) problem (Err why) is = inr refl
checks_within fuel (Some time) problem (Ok answer) is = inl (ap none_by (sym is))

-- what one says that may be said is one of what may be said
pub output_of : (may : Said → Type 0) (what : Said) (old new : Option (List ℕ)) (r : Result ℕ EngineFault) → may what → IsOutput what old new r → IsOutputOf may old new r
output_of may what old new (Ok status) may_be is = record { what = what; may_be = may_be; is = is }
output_of may what old new (Err faults.Write) may_be begun = record { what = what; may_be = may_be; written = begun }
output_of may what old new (Err faults.Memory) may_be kept = kept
output_of may what old new (Err faults.Read) may_be never = never
output_of may what old new (Err (faults.File fault)) may_be never = never
output_of may what old new (Err (faults.Answer fault)) may_be never = never
