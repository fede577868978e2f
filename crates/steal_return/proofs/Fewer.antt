-- Aborts reach no more thieves than own children were out.
use Rattle.std.proofs.Common.{◌≡◌, ℕ, suc, ◌+◌, ◌≤◌, Bool, true, false, cond, length, List, [], ◌∷◌, refl, sym, ap, arith, length-append, true≢false}
use Rattle.std.proofs.lemmas.List.Sums.{sum_by-cons}
use Rattle.spawn_frame.specs.Aborts.{Reached, reached, reached_one}
use Rattle.spawn_frame.specs.Tables.{is_out, outs_of}
use Rattle.spawn_frame.specs.Units.{Entry}
use Rattle.spawn_frame.specs.declared.site.ChildName.{ChildName}
use Rattle.spawn_frame.specs.declared.status.Status.{Status}
use Rattle.spawn_frame.specs.declared.status.Status.TheVariants.{Aborted, Out}
use Rattle.spawn_frame.specs.declared.unit.Unit.{Unit as WorkUnit}
use Rattle.steal_return.proofs.Marking.{NoMoreOut, redo_no_more, result_no_more}
use Rattle.steal_return.specs.Finishing.{Appends, FinishesFrame}
use Rattle.steal_return.specs.Guests.{DropsGuest}
use Rattle.steal_return.specs.Ledger.{Ledger}
use Rattle.steal_return.specs.Members.{LearnsMembers}
use Rattle.steal_return.specs.Steals.{is_older}

outs_step : (x : Entry) (xs : List Entry) → outs_of (x ∷ xs) ≡ cond (is_out x.status) 1 0 + outs_of xs
outs_step x xs = sum_by-cons (λ c. cond (is_out c.status) 1 0) x xs

one_few : (k a : ℕ) (s t : Status) → length (reached_one k a s t) ≤ cond (is_out s) 1 0
one_few k a (Out thief) Aborted = omega arith
one_few k a (Out thief) _ = omega arith
one_few k a _ _ = omega arith

pub reached_few : (k : ℕ) (xs ys : List Entry) → length (reached k xs ys) ≤ outs_of xs
reached_few k [] ys = omega arith
reached_few k (x ∷ xs) [] = omega arith
reached_few k (x ∷ xs) (y ∷ ys) =
    let split = length-append (reached_one k x.attempt x.status y.status) (reached (suc k) xs ys) in
    omega (arith, split, outs_step x xs, one_few k x.attempt x.status y.status, reached_few (suc k) xs ys)

one_more : (b d : Bool) → (d ≡ true → b ≡ true) → cond d 1 0 ≤ cond b 1 0
one_more b false h = omega arith
one_more true true h = omega arith
one_more false true h = absurd (true≢false (sym (h refl)))

outs_fewer : (xs ys : List Entry) → NoMoreOut xs ys → outs_of ys ≤ outs_of xs
outs_fewer [] [] h = omega arith
outs_fewer [] (y ∷ ys) h = absurd h
outs_fewer (x ∷ xs) [] h = absurd h
outs_fewer (x ∷ xs) (y ∷ ys) h = omega (arith, outs_step x xs, outs_step y ys, one_more (is_out x.status) (is_out y.status) h.0, outs_fewer xs ys h.1)

few : (xs ys zs : List Entry) (outs : List Reached) → NoMoreOut xs ys → outs ≡ reached 0 ys zs → length outs ≤ outs_of xs
few xs ys zs outs h e = omega (arith, ap length e, reached_few 0 ys zs, outs_fewer xs ys h)

pub finished_few : (old new : Ledger) (unit : WorkUnit) (outs : List Reached) → FinishesFrame old unit outs new → length outs ≤ outs_of old.own
finished_few old new unit outs h = few old.own _ h.own outs (result_no_more old.table unit h.result) h.reaches

pub dropped_few : (old new : Ledger) (name : ChildName) (attempt : ℕ) (outs : List Reached) → DropsGuest old name attempt outs new → length outs ≤ outs_of old.own
dropped_few old new name attempt outs h = omega (arith, ap length h.reaches, reached_few 0 old.own h.own)

pub learnt_few : (old new : Ledger) (incarnations : List ℕ) (outs : List Reached) → LearnsMembers old incarnations outs new → length outs ≤ outs_of old.own
learnt_few old new incarnations outs h = few old.own _ h.own outs (redo_no_more (is_older h.known) old.own) h.reaches

-- what was appended to a list is as few
pub appended_few : (old new : List Reached) (P : List Reached → Type 0) (n : ℕ) → ((outs : List Reached) → P outs → length outs ≤ n) → Appends old new P → length new ≤ length old + n
appended_few old new P n few h = omega (arith, ap length h.1, length-append old h.0, few h.0 h.2)
