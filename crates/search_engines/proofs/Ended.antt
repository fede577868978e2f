-- How an engine ends, by what it read and what it wrote. What is known of a source's text is an option.
use Rattle.std.specs.Prelude.{IfErr, IfOk, IfSome, Result, Ok, Err}
use Rattle.std.proofs.Common.{◌≡◌, ◌⊎◌, ℕ, List, Option, Some, None, refl, sym, ap, ◌∙◌}
use Rattle.std.proofs.KnownBytes.{Keeps-refl}
use Rattle.cover_problem.specs.Problem.{Problem}
use Rattle.cover_problem.specs.declared.answer.Answer.{Answer}
use Rattle.dlx_reader.specs.Answers.{IsAnswerOf}
use Rattle.dlx_reader.specs.ProblemOf.{IsProblemOf}
use Rattle.dlx_reader.specs.declared.answer_fault.AnswerFault.{AnswerFault}
use Rattle.search_engines.specs.Alone.{IsLimited, IsUnanswered, SaysWhy, SaysWhyOf}
use Rattle.search_engines.specs.Check.{CheckRefuses, CheckSaysWithin, IsSourcesFault, MayCheck}
use Rattle.search_engines.specs.Engines.{IsEnded, IsLeft, IsSourceFault, refuses_none}
use Rattle.search_engines.specs.Failures.{Tells, ended, plain, plain_fault}
use Rattle.search_engines.specs.Output.{Said, IsOutputOf, IsStoppedOf, status_in}
use Rattle.search_engines.specs.declared.engine.EngineEnd.{EngineEnd}
use Rattle.search_engines.specs.declared.engine.Written.{Written}
use Rattle.search_engines.specs.declared.failure.Failure.{Failure}
use Rattle.search_engines.specs.declared.failure.Failure.TheVariants as failures
use Rattle.search_engines.specs.declared.failure.Unread.{Unread}
use Rattle.search_engines.specs.declared.fault.EngineFault.{EngineFault}
use Rattle.search_engines.specs.declared.fault.EngineFault.TheVariants as faults
use Rattle.search_engines.specs.declared.search_limits.TimeLimit.{TimeLimit}

-- ---- where a text wasn't read, or has no problem

left : (may : Problem → Said → Type 0) (refuses : Problem → AnswerFault → Type 0) (text : List ℕ) (old : Option (List ℕ)) (fault : EngineFault) → IsSourceFault text fault → IsLeft may refuses text old old fault
left may refuses text old faults.Read is = Keeps-refl old
left may refuses text old (faults.File fault) is = (is, Keeps-refl old)
left may refuses text old faults.Memory is = Keeps-refl old
left may refuses text old faults.Write never = absurd never
left may refuses text old (faults.Answer fault) never = absurd never

pub ends_unread : (may : Problem → Said → Type 0) (refuses : Problem → AnswerFault → Type 0) (known old : Option (List ℕ)) (failure : Failure) → IfSome known (λ text. IsSourceFault text (plain_fault failure)) → IfSome known (λ text. IsEnded may refuses text old old (plain (Err failure)))
ends_unread may refuses None old failure is = tt
ends_unread may refuses (Some text) old failure is = left may refuses text old (plain_fault failure) is

-- the same of an engine whose fault says no more
pub unread_plain : (may : Problem → Said → Type 0) (refuses : Problem → AnswerFault → Type 0) (known old : Option (List ℕ)) (failure : Failure) (fault : EngineFault) → fault ≡ plain_fault failure → IfSome known (λ text. IsSourceFault text (plain_fault failure)) → IfSome known (λ text. IsEnded may refuses text old old (Err fault))
unread_plain may refuses None old failure fault same is = tt
unread_plain may refuses (Some text) old failure fault same is = rw same (left may refuses text old (plain_fault failure) is)

-- of two texts
checks_left : (may : Problem → Said → Type 0) (text given : List ℕ) (old : Option (List ℕ)) (fault : EngineFault) → IsSourcesFault text given fault → IsLeft may (CheckRefuses given) text old old fault
checks_left may text given old faults.Read is = Keeps-refl old
checks_left may text given old (faults.File fault) is = (is, Keeps-refl old)
checks_left may text given old (faults.Answer fault) is = (is, Keeps-refl old)
checks_left may text given old faults.Memory is = Keeps-refl old
checks_left may text given old faults.Write never = absurd never

pub checks_unread : (may : List ℕ → Problem → Said → Type 0) (known other old : Option (List ℕ)) (failure : Failure) → IfSome known (λ text. IfSome other (λ given. IsSourcesFault text given (plain_fault failure)))
    → IfSome known (λ text. IfSome other (λ given. IsEnded (may given) (CheckRefuses given) text old old (plain (Err failure))))
checks_unread may None other old failure is = tt
checks_unread may (Some text) None old failure is = tt
checks_unread may (Some text) (Some given) old failure is = checks_left (may given) text given old (plain_fault failure) is

pub checks_unread_plain : (may : List ℕ → Problem → Said → Type 0) (known other old : Option (List ℕ)) (failure : Failure) (fault : EngineFault) → fault ≡ plain_fault failure → IfSome known (λ text. IfSome other (λ given. IsSourcesFault text given (plain_fault failure)))
    → IfSome known (λ text. IfSome other (λ given. IsEnded (may given) (CheckRefuses given) text old old (Err fault)))
checks_unread_plain may None other old failure fault same is = tt
checks_unread_plain may (Some text) None old failure fault same is = tt
checks_unread_plain may (Some text) (Some given) old failure fault same is = rw same (checks_left (may given) text given old (plain_fault failure) is)

-- ---- where it wrote, or couldn't

stopped : (may : Problem → Said → Type 0) (refuses : Problem → AnswerFault → Type 0) (text : List ℕ) (old new : Option (List ℕ)) (problem : Problem) (ignored : ℕ) → IsProblemOf text problem ignored → (fault : EngineFault) → IsStoppedOf (may problem) old new fault → IsLeft may refuses text old new fault
stopped may refuses text old new problem ignored read faults.Write begun = record { problem = problem; ignored = ignored; read = read; begun = begun }
stopped may refuses text old new problem ignored read faults.Memory kept = kept
stopped may refuses text old new problem ignored read faults.Read never = absurd never
stopped may refuses text old new problem ignored read (faults.File fault) never = absurd never
stopped may refuses text old new problem ignored read (faults.Answer fault) never = absurd never

wrote : (may : Problem → Said → Type 0) (refuses : Problem → AnswerFault → Type 0) (text : List ℕ) (old new : Option (List ℕ)) (problem : Problem) (ignored : ℕ) (r : Result Written EngineFault) → IsProblemOf text problem ignored → IsOutputOf (may problem) old new (status_in r) → IsEnded may refuses text old new (plain (ended ignored r))
wrote may refuses text old new problem ignored (Ok written) read output = record { problem = problem; read = read; says = output }
wrote may refuses text old new problem ignored (Err fault) read output = stopped may refuses text old new problem ignored read fault output

pub ends_written : (may : Problem → Said → Type 0) (refuses : Problem → AnswerFault → Type 0) (known old new : Option (List ℕ)) (problem : Problem) (ignored : ℕ) (r : Result Written EngineFault) (result : Result EngineEnd Failure) → result ≡ ended ignored r → IfSome known (λ text. IsProblemOf text problem ignored) → IsOutputOf (may problem) old new (status_in r)
    → IfSome known (λ text. IsEnded may refuses text old new (plain result))
ends_written may refuses None old new problem ignored r result is read output = tt
ends_written may refuses (Some text) old new problem ignored r result is read output = rw is (wrote may refuses text old new problem ignored r read output)

-- of the answer that the other text gives
may_check : (given : List ℕ) (fuel : Option ℕ) (time : Option TimeLimit) (problem : Problem) (answer : Answer) (old new : Option (List ℕ)) (r : Result ℕ EngineFault) → IsAnswerOf given problem answer → IsOutputOf (MayCheck problem answer fuel time) old new r → IsOutputOf (CheckSaysWithin given fuel time problem) old new r
may_check given fuel time problem answer old new (Ok status) is output = record { what = output.what; may_be = record { given = answer; answered = is; is = output.may_be }; is = output.is }
may_check given fuel time problem answer old new (Err faults.Write) is begun = record { what = begun.what; may_be = record { given = answer; answered = is; is = begun.may_be }; written = begun.written }
may_check given fuel time problem answer old new (Err faults.Memory) is kept = kept
may_check given fuel time problem answer old new (Err faults.Read) is never = absurd never
may_check given fuel time problem answer old new (Err (faults.File fault)) is never = absurd never
may_check given fuel time problem answer old new (Err (faults.Answer fault)) is never = absurd never

pub checks_written : (fuel : Option ℕ) (time : Option TimeLimit) (known other old new : Option (List ℕ)) (problem : Problem) (answer : Answer) (ignored : ℕ) (r : Result Written EngineFault) (result : Result EngineEnd Failure) → result ≡ ended ignored r → IfSome known (λ text. IsProblemOf text problem ignored) → IfSome other (λ given. IsAnswerOf given problem answer)
    → IsOutputOf (MayCheck problem answer fuel time) old new (status_in r) → IfSome known (λ text. IfSome other (λ given. IsEnded (CheckSaysWithin given fuel time) (CheckRefuses given) text old new (plain result)))
checks_written fuel time None other old new problem answer ignored r result is read answered output = tt
checks_written fuel time (Some text) None old new problem answer ignored r result is read answered output = tt
checks_written fuel time (Some text) (Some given) old new problem answer ignored r result is read answered output =
    rw is (wrote (CheckSaysWithin given fuel time) (CheckRefuses given) text old new problem ignored r read (may_check given fuel time problem answer old new (status_in r) answered output))

told : (may : Said → Type 0) (text : List ℕ) (old new : Option (List ℕ)) (ignored : ℕ) (r : Result Written EngineFault) → IsOutputOf may old new (status_in r) → IfErr (ended ignored r) (Tells text)
told may text old new ignored (Ok written) output = tt
told may text old new ignored (Err faults.Write) output = tt
told may text old new ignored (Err faults.Memory) output = tt
told may text old new ignored (Err faults.Read) never = absurd never
told may text old new ignored (Err (faults.File fault)) never = absurd never
told may text old new ignored (Err (faults.Answer fault)) never = absurd never

pub told_written : (may : Said → Type 0) (known old new : Option (List ℕ)) (ignored : ℕ) (r : Result Written EngineFault) (result : Result EngineEnd Failure) → result ≡ ended ignored r → IsOutputOf may old new (status_in r) → IfSome known (λ text. IfErr result (Tells text))
told_written may None old new ignored r result is output = tt
told_written may (Some text) old new ignored r result is output = rw is (told may text old new ignored r output)

-- ---- what the result tells

not_ok : {X E : Type 0} (r : Result X E) (x : X) (fault : E) → r ≡ Ok x → r ≡ Err fault → ⊥
not_ok r x fault is e = absurd (cc)

same_fault : {X : Type 0} (r : Result X EngineFault) (fault other : EngineFault) → r ≡ Err fault → r ≡ Err other → fault ≡ other
same_fault r fault other is e = cc

is_other : (r : Result EngineEnd Failure) (fault : EngineFault) (which : Unread) → r ≡ Err (failures.Other fault) → r ≡ Err (failures.Unread which) → ⊥
is_other r fault which is e = absurd (cc)

-- a fault of writing is one of the engine
pub write_failed : (failed : Type 0) (ignored : ℕ) (r : Result Written EngineFault) (result : Result EngineEnd Failure) → result ≡ ended ignored r → (r ≡ Err faults.Write → failed) → plain result ≡ Err faults.Write → failed
write_failed failed ignored (Ok written) result is h e = absurd (not_ok (plain result) _ faults.Write (ap (λ r. plain r) is) e)
write_failed failed ignored (Err fault) result is h e = h (ap Err (same_fault (plain result) fault faults.Write (ap (λ r. plain r) is) e))

-- no fault of writing is one of reading
no_read : (failed : Type 0) (may : Said → Type 0) (old new : Option (List ℕ)) (fault : EngineFault) → IsStoppedOf may old new fault → fault ≡ faults.Read → failed
no_read failed may old new fault output e = absurd (rw e at output)

pub read_well : (failed : Type 0) (may : Said → Type 0) (old new : Option (List ℕ)) (ignored : ℕ) (r : Result Written EngineFault) (result : Result EngineEnd Failure) → result ≡ ended ignored r → IsOutputOf may old new (status_in r) → plain result ≡ Err faults.Read → failed
read_well failed may old new ignored (Ok written) result is output e = absurd (not_ok (plain result) _ faults.Read (ap (λ r. plain r) is) e)
read_well failed may old new ignored (Err fault) result is output e = no_read failed may old new fault output (same_fault (plain result) fault faults.Read (ap (λ r. plain r) is) e)

-- nor says which input can't be read
pub not_unread : (failed : Type 0) (which : Unread) (ignored : ℕ) (r : Result Written EngineFault) (result : Result EngineEnd Failure) → result ≡ ended ignored r → result ≡ Err (failures.Unread which) → failed
not_unread failed which ignored (Ok written) result is e = absurd (not_ok result _ (failures.Unread which) is e)
not_unread failed which ignored (Err fault) result is e = absurd (is_other result fault which is e)

-- it says why there is no answer, if there is none
why_of : (fuel : Option ℕ) (time : Option TimeLimit) (text : List ℕ) (problem : Problem) (ignored : ℕ) (r : Result Written EngineFault) → IsProblemOf text problem ignored → IfOk r (λ written. SaysWhy (IsUnanswered (IsLimited time) problem fuel) written.status written.why) → IfOk (ended ignored r) (SaysWhyOf fuel time text)
why_of fuel time text problem ignored (Ok written) read why = record { problem = problem; read = read; why = why }
why_of fuel time text problem ignored (Err fault) read why = tt

pub says_why : (fuel : Option ℕ) (time : Option TimeLimit) (known : Option (List ℕ)) (problem : Problem) (ignored : ℕ) (r : Result Written EngineFault) (result : Result EngineEnd Failure) → result ≡ ended ignored r → IfSome known (λ text. IsProblemOf text problem ignored)
    → IfOk r (λ written. SaysWhy (IsUnanswered (IsLimited time) problem fuel) written.status written.why) → IfSome known (λ text. IfOk result (SaysWhyOf fuel time text))
says_why fuel time None problem ignored r result is read why = tt
says_why fuel time (Some text) problem ignored r result is read why = rw is (why_of fuel time text problem ignored r read why)
