-- What is written of what a search gave, and what is said of why there is no answer.
use Rattle.std.specs.Prelude.{IfOk, IfSome, Result, Ok, Err}
use Rattle.std.specs.Result.{result_err, result_ok}
use Rattle.std.proofs.Common.{◌≡◌, ℕ, List, [], Option, Some, None, Bool, true, false, refl, sym, ap, ◌∙◌, inl, inr}
use Rattle.cover_problem.specs.Problem.{Problem}
use Rattle.cover_problem.specs.Search.{first, outcome}
use Rattle.cover_problem.specs.declared.answer.Answer.{Answer}
use Rattle.cover_problem.specs.declared.answer.Answer.TheVariants.{Cover, NoCover}
use Rattle.cover_problem.specs.declared.verdict.Verdict.{Verdict}
use Rattle.cover_problem.specs.declared.verdict.Verdict.TheVariants as verdicts
use Rattle.dlx_reader.specs.Writing.{IsWritable}
use Rattle.search_engines.specs.Alone.{answer_by, outcome_said, whole_outcome, AloneSaysWithin, IsGiven, IsGivenIf, IsUnanswered, SaysWhy}
use Rattle.search_engines.specs.Check.{none_by, none_said, verdict_said}
use Rattle.search_engines.specs.Output.{IsOutput, IsOutputOf, answer_said, no_answer, published_said, status_in}
use Rattle.search_engines.specs.declared.engine.Written.{Written}
use Rattle.search_engines.specs.declared.fault.EngineFault.{EngineFault}
use Rattle.search_engines.specs.declared.unanswered.Unanswered.{Unanswered}
use Rattle.search_engines.proofs.Outcomes.{answers, output_of, unlimited, whole_by}

-- ---- what is written

pub said_ok : (problem : Problem) (given : Result Answer Unanswered) (answer : Answer) (old new : Option (List ℕ)) (r : Result ℕ EngineFault) → given ≡ Ok answer → IsOutput (answer_said problem answer) old new r → IsOutput (published_said problem (result_ok given)) old new r
said_ok problem given answer old new r is output = rw is output

pub said_err : (problem : Problem) (given : Result Answer Unanswered) (why : Unanswered) (old new : Option (List ℕ)) (r : Result ℕ EngineFault) → given ≡ Err why → IsOutput no_answer old new r → IsOutput (published_said problem (result_ok given)) old new r
said_err problem given why old new r is output = rw is output

pub none_ok : (given : Result Answer Unanswered) (answer : Answer) (old new : Option (List ℕ)) (r : Result ℕ EngineFault) → given ≡ Ok answer → IsOutput (none_by (Some answer)) old new r → IsOutput (none_by (result_ok given)) old new r
none_ok given answer old new r is output = rw is output

pub none_err : (given : Result Answer Unanswered) (why : Unanswered) (old new : Option (List ℕ)) (r : Result ℕ EngineFault) → given ≡ Err why → IsOutput no_answer old new r → IsOutput (none_by (result_ok given)) old new r
none_err given why old new r is output = rw is output

pub why_ok : (given : Result Answer Unanswered) (answer : Answer) → given ≡ Ok answer → None ≡ result_err given
why_ok given answer is = rw is refl

pub why_err : (given : Result Answer Unanswered) (why : Unanswered) → given ≡ Err why → Some why ≡ result_err given
why_err given why is = rw is refl

-- the answer by the first cover
pub first_said : (problem : Problem) (answer : Answer) (old new : Option (List ℕ)) (r : Result ℕ EngineFault) → answer ≡ answer_by problem (first problem []) → IsOutput (answer_said problem answer) old new r → IsOutput (outcome_said problem (whole_outcome problem None)) old new r
first_said problem answer old new r is output = rw (answers problem answer is) output

-- that, or none where something stopped the search
pub certified_said : (problem : Problem) (answer : Option Answer) (given : Result Answer Unanswered) (old new : Option (List ℕ)) (r : Result ℕ EngineFault) → answer ≡ result_ok given → IsGiven problem None answer → IsOutput (published_said problem (result_ok given)) old new r → IsOutputOf (AloneSaysWithin None problem) old new r
certified_said problem None given old new r same is output = output_of (AloneSaysWithin None problem) no_answer old new r (inr refl) (rw (← same) at output)
certified_said problem (Some answer) given old new r same is output = output_of (AloneSaysWithin None problem) (answer_said problem answer) old new r (inl (ap (published_said problem) (sym is))) (rw (← same) at output)

pub ordered : (problem : Problem) (answer : Option Answer) (given : Result Answer Unanswered) → answer ≡ result_ok given → IfSome answer (IsWritable problem) → IfOk given (IsWritable problem)
ordered problem answer (Ok given) same is = rw same at is
ordered problem answer (Err why) same is = tt

-- ---- with so much fuel, where nothing stops the search

pub fueled_said : (may_stop : Bool) (problem : Problem) (fuel : ℕ) (given : Result Answer Unanswered) (old new : Option (List ℕ)) (r : Result ℕ EngineFault) → may_stop ≡ false → IsGivenIf (may_stop ≡ true) problem (Some fuel) given → IsOutput (published_said problem (result_ok given)) old new r → IsOutput (outcome_said problem (outcome problem [] fuel)) old new r
fueled_said may_stop problem fuel given old new r never is output = rw (unlimited problem (Some fuel) given (whole_by may_stop problem (Some fuel) given never is)) at output

pub fueled_none : (may_stop : Bool) (problem : Problem) (fuel : ℕ) (given : Result Answer Unanswered) (old new : Option (List ℕ)) (r : Result ℕ EngineFault) → may_stop ≡ false → IsGivenIf (may_stop ≡ true) problem (Some fuel) given → IsOutput (none_by (result_ok given)) old new r → IsOutput (none_said problem (outcome problem [] fuel)) old new r
fueled_none may_stop problem fuel given old new r never is output = rw (unlimited problem (Some fuel) given (whole_by may_stop problem (Some fuel) given never is)) at output

-- ---- why there is no answer

pub given_why : (stops : Type 0) (problem : Problem) (fuel : Option ℕ) (given : Result Answer Unanswered) (old new : Option (List ℕ)) (r : Result Written EngineFault) → IsGivenIf stops problem fuel given → IsOutput (published_said problem (result_ok given)) old new (status_in r) → IfOk r (λ written. written.why ≡ result_err given) → IfOk r (λ written. SaysWhy (IsUnanswered stops problem fuel) written.status written.why)
given_why stops problem fuel given old new (Err fault) is output why = tt
given_why stops problem fuel (Ok (Cover options)) old new (Ok written) is output why = rw why (λ four. absurd (cc (output.ends)))
given_why stops problem fuel (Ok NoCover) old new (Ok written) is output why = rw why (λ four. absurd (cc (output.ends)))
given_why stops problem fuel (Err cause) old new (Ok written) is output why = rw why is

pub none_why : (stops : Type 0) (problem : Problem) (fuel : Option ℕ) (given : Result Answer Unanswered) (old new : Option (List ℕ)) (r : Result Written EngineFault) → IsGivenIf stops problem fuel given → IsOutput (none_by (result_ok given)) old new (status_in r) → IfOk r (λ written. written.why ≡ result_err given) → IfOk r (λ written. SaysWhy (IsUnanswered stops problem fuel) written.status written.why)
none_why stops problem fuel given old new (Err fault) is output why = tt
none_why stops problem fuel (Ok (Cover options)) old new (Ok written) is output why = rw why (λ four. absurd (cc (output.ends)))
none_why stops problem fuel (Ok NoCover) old new (Ok written) is output why = rw why (λ four. absurd (cc (output.ends)))
none_why stops problem fuel (Err cause) old new (Ok written) is output why = rw why is

-- a list is right or wrong
pub verdict_why : (may : Unanswered → Type 0) (problem : Problem) (verdict : Verdict) (old new : Option (List ℕ)) (r : Result Written EngineFault) → IsOutput (verdict_said problem verdict) old new (status_in r) → IfOk r (λ written. written.why ≡ None) → IfOk r (λ written. SaysWhy may written.status written.why)
verdict_why may problem verdict old new (Err fault) output why = tt
verdict_why may problem verdicts.Exact old new (Ok written) output why = rw why (λ four. absurd (cc (output.ends)))
verdict_why may problem (verdicts.Uncovered item) old new (Ok written) output why = rw why (λ four. absurd (cc (output.ends)))
verdict_why may problem (verdicts.CoveredTwice item) old new (Ok written) output why = rw why (λ four. absurd (cc (output.ends)))
verdict_why may problem verdicts.NoSuchOption old new (Ok written) output why = rw why (λ four. absurd (cc (output.ends)))
verdict_why may problem verdicts.ChosenTwice old new (Ok written) output why = rw why (λ four. absurd (cc (output.ends)))
