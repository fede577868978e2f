-- No child of a ledger comes to be out to an earlier incarnation than is known.
use Rattle.std.proofs.Common.{◌≡◌, ℕ, zero, suc, Bool, true, false, ◌&&◌, ◌++◌, cond, map, List, [], ◌∷◌, OnErr, OnOk, Result, Ok, Err, refl, sym, ap, subst, ◌∙◌}
use Rattle.abort_tree.specs.Below.{aborted}
use Rattle.spawn_frame.specs.Aborts.{is_open}
use Rattle.spawn_frame.specs.Splits.{new_child, split_into, with_result}
use Rattle.spawn_frame.specs.Units.{Entry, GuestEntry, Table, change_at, redone, table_gets, table_guests, table_own, with_status}
use Rattle.spawn_frame.specs.declared.child_result.ChildResult.{ChildResult}
use Rattle.spawn_frame.specs.declared.site.Site.{Site}
use Rattle.spawn_frame.specs.declared.status.Status.{Status}
use Rattle.spawn_frame.specs.declared.status.Status.TheVariants.{Aborted, Out, Ready, Split}
use Rattle.spawn_frame.specs.declared.unit.Unit.{Unit as WorkUnit}
use Rattle.spawn_frame.specs.declared.unit.Unit.TheVariants.{Guest, Own}
use Rattle.steal_return.specs.Invariant.{IsLedger, NoneOutrun}
use Rattle.steal_return.specs.Ledger.{Ledger, ledger_table}
use Rattle.steal_return.specs.Members.{is_out_to, redo_if, redo_lost}
use Rattle.steal_return.specs.Steals.{is_older}

-- ---- lists of own children

change_keeps : (known : List ℕ) (f : Entry → Entry) (own : List Entry) (k : ℕ) → ((c : Entry) → is_out_to (is_older known) (f c).status ≡ false)
    → NoneOutrun known own → NoneOutrun known (change_at f own k)
change_keeps known f [] k e h = tt
change_keeps known f (c ∷ cs) zero e h = (e c, h.1)
change_keeps known f (c ∷ cs) (suc k) e h = (h.0, change_keeps known f cs k e h.1)

news : (known : List ℕ) (unit : WorkUnit) (prefixes : List (List ℕ)) → NoneOutrun known (map (λ p. new_child unit p) prefixes)
news known unit [] = tt
news known unit (p ∷ ps) = (refl, news known unit ps)

append_keeps : (known : List ℕ) (unit : WorkUnit) (own : List Entry) (prefixes : List (List ℕ)) → NoneOutrun known own
    → NoneOutrun known (own ++ map (λ p. new_child unit p) prefixes)
append_keeps known unit [] ps h = news known unit ps
append_keeps known unit (c ∷ cs) ps h = (h.0, append_keeps known unit cs ps h.1)

aborted_one : (known : List ℕ) (b : Bool) (c : Entry) → is_out_to (is_older known) c.status ≡ false
    → is_out_to (is_older known) (cond b (with_status Aborted c) c).status ≡ false
aborted_one known true c e = refl
aborted_one known false c e = e

abort_keeps : (known : List ℕ) (marks : List Bool) (own : List Entry) → NoneOutrun known own → NoneOutrun known (aborted marks own)
abort_keeps known [] own h = h
abort_keeps known (m ∷ ms) [] h = tt
abort_keeps known (m ∷ ms) (c ∷ cs) h = (aborted_one known (m && is_open c.status) c h.0, abort_keeps known ms cs h.1)

redone_one : (lost : Site → Bool) (c : Entry) (s : Status) → c.status ≡ s → is_out_to lost (redo_if lost c s).status ≡ false
redone_one lost c (Out thief) e = by (lost thief) refl
  where
    by : (b : Bool) → lost thief ≡ b → is_out_to lost (cond b (redone c) c).status ≡ false
    by true l = refl
    by false l = ap (is_out_to lost) e ∙ l
redone_one lost c Ready e = ap (is_out_to lost) e
redone_one lost c _ e = ap (is_out_to lost) e

pub redo_leaves : (known : List ℕ) (own : List Entry) → NoneOutrun known (redo_lost (is_older known) own)
redo_leaves known [] = tt
redo_leaves known (c ∷ cs) = (redone_one (is_older known) c c.status refl, redo_leaves known cs)

-- ---- ledgers

pub gets_keeps : (ledger : Ledger) → IsLedger ledger → (unit : WorkUnit) (status : Status) → is_out_to (is_older ledger.known) status ≡ false
    → IsLedger (ledger_table ledger (table_gets ledger.table unit status))
gets_keeps ledger h (Own k) status e = record { each = h.each; within = h.within; none_outrun = change_keeps ledger.known (with_status status) ledger.own k (λ c. e) h.none_outrun }
gets_keeps ledger h (Guest name attempt) status e = record { each = h.each; within = h.within; none_outrun = h.none_outrun }

pub gets : (ledger : Ledger) → IsLedger ledger → (unit : WorkUnit) (status : Status) → is_out_to (is_older ledger.known) status ≡ false
    → (table : Table) → table ≡ table_gets ledger.table unit status → IsLedger (ledger_table ledger table)
gets ledger h unit status e table is = subst (λ t. IsLedger (ledger_table ledger t)) (sym is) (gets_keeps ledger h unit status e)

pub ends : (ledger : Ledger) → IsLedger ledger → (unit : WorkUnit) (result : ChildResult)
    → (table : Table) → table ≡ table_gets ledger.table unit (with_result unit result) → IsLedger (ledger_table ledger table)
ends ledger h (Own k) result table is = gets ledger h (Own k) (with_result (Own k) result) refl table is
ends ledger h (Guest name attempt) result table is = gets ledger h (Guest name attempt) (with_result (Guest name attempt) result) refl table is

pub splits : (ledger : Ledger) → IsLedger ledger → (unit : WorkUnit) (prefixes : List (List ℕ))
    → IsLedger (ledger_table ledger (split_into ledger.table unit prefixes))
splits ledger h (Own k) ps =
    let split = gets_keeps ledger h (Own k) Split refl in
    record { each = h.each; within = h.within; none_outrun = append_keeps ledger.known (Own k) (table_gets ledger.table (Own k) Split).own ps split.none_outrun }
splits ledger h (Guest name attempt) ps =
    record { each = h.each; within = h.within; none_outrun = append_keeps ledger.known (Guest name attempt) ledger.own ps h.none_outrun }

pub spawns : {E : Type 0} (ledger : Ledger) → IsLedger ledger → (table : Table) (first : Result ℕ E) (unit : WorkUnit) (prefixes : List (List ℕ))
    → OnOk first (table ≡ split_into ledger.table unit prefixes) → OnErr first (table ≡ ledger.table) → IsLedger (ledger_table ledger table)
spawns ledger h table (Ok first) unit ps is err = subst (λ t. IsLedger (ledger_table ledger t)) (sym is) (splits ledger h unit ps)
spawns ledger h table (Err e) unit ps ok is = subst (λ t. IsLedger (ledger_table ledger t)) (sym is) h

pub redoes : (ledger : Ledger) → IsLedger ledger → (k : ℕ) → (table : Table) → table ≡ table_own ledger.table (change_at redone ledger.own k)
    → IsLedger (ledger_table ledger table)
redoes ledger h k table is = subst (λ t. IsLedger (ledger_table ledger t)) (sym is)
    (record { each = h.each; within = h.within; none_outrun = change_keeps ledger.known redone ledger.own k (λ c. refl) h.none_outrun })

pub aborts : (ledger : Ledger) → IsLedger ledger → (marks : List Bool) (table : Table) → table ≡ table_own ledger.table (aborted marks ledger.own)
    → IsLedger (ledger_table ledger table)
aborts ledger h marks table is = subst (λ t. IsLedger (ledger_table ledger t)) (sym is)
    (record { each = h.each; within = h.within; none_outrun = abort_keeps ledger.known marks ledger.own h.none_outrun })

-- what is learnt, redone, dropped and aborted
pub learns : (known : List ℕ) (old first second third : Table) (guests : List GuestEntry) (marks : List Bool)
    → first ≡ table_own old (redo_lost (is_older known) old.own) → second ≡ table_guests first guests → third ≡ table_own second (aborted marks second.own)
    → NoneOutrun known third.own
learns known old first second third guests marks redo drop abort =
    let own : second.own ≡ redo_lost (is_older known) old.own = ap (λ t. t.own) drop ∙ ap (λ t. t.own) redo in
    subst (λ t. NoneOutrun known t.own) (sym abort)
    (abort_keeps known marks second.own (subst (NoneOutrun known) (sym own) (redo_leaves known old.own)))
