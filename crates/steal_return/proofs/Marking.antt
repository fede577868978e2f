-- Marks of what is below, while statuses and attempts change.
use Rattle.std.proofs.Common.{◌≡◌, ℕ, zero, suc, ◌≤◌, Bool, true, false, ◌&&◌, ◌||◌, cond, length, map, List, [], ◌∷◌, Option, refl, sym, ap, ◌∙◌, arith, length-append, true≢false}
use Rattle.abort_tree.specs.Below.{abort_if, aborted, is_among, outs_from}
use Rattle.spawn_frame.specs.Aborts.{is_open, reached, reached_one}
use Rattle.spawn_frame.specs.Names.{same_unit}
use Rattle.spawn_frame.specs.Splits.{with_result}
use Rattle.spawn_frame.specs.Tables.{is_out}
use Rattle.spawn_frame.specs.Units.{Entry, Table, change_at, table_gets, table_own, with_status}
use Rattle.spawn_frame.specs.declared.child_result.ChildResult.{ChildResult}
use Rattle.spawn_frame.specs.declared.site.Site.{Site}
use Rattle.spawn_frame.specs.declared.status.Status.{Status}
use Rattle.spawn_frame.specs.declared.status.Status.TheVariants.{Aborted, Out, Ready}
use Rattle.spawn_frame.specs.declared.unit.Unit.{Unit as WorkUnit}
use Rattle.spawn_frame.specs.declared.unit.Unit.TheVariants.{Guest, Own}
use Rattle.steal_return.specs.Members.{redo_if, redo_lost}

-- the parents of the own children, by serial
abbrev pub parents : List Entry → List (Option WorkUnit)
parents own = map (λ c. c.parent) own

pub parents_change : (s : Status) (own : List Entry) (k : ℕ) → parents own ≡ parents (change_at (with_status s) own k)
parents_change s [] k = refl
parents_change s (c ∷ cs) zero = refl
parents_change s (c ∷ cs) (suc k) = ap (λ l. c.parent ∷ l) (parents_change s cs k)

pub parents_gets : (table : Table) (unit : WorkUnit) (s : Status) → parents table.own ≡ parents (table_gets table unit s).own
parents_gets table (Own k) s = parents_change s table.own k
parents_gets table (Guest name attempt) s = refl

pub parents_length : (xs ys : List Entry) → parents xs ≡ parents ys → length xs ≡ length ys
parents_length [] [] e = refl
parents_length [] (y ∷ ys) e = absurd (cc)
parents_length (x ∷ xs) [] e = absurd (cc)
parents_length (x ∷ xs) (y ∷ ys) e = ap suc (parents_length xs ys (let p : parents xs ≡ parents ys = cc in p))

-- among one unit is that unit
pub one_top : (unit : WorkUnit) → is_among (unit ∷ []) ≡ same_unit unit
one_top unit = λ i u. or_false (same_unit unit u) i
  where
    or_false : (b : Bool) → (b || false) ≡ b
    or_false true = refl
    or_false false = refl

-- only the own children are others
pub only_own : (mid end : Table) (own : List Entry) → end ≡ table_own mid own → end ≡ table_own mid end.own
only_own mid end own e = e ∙ ap (table_own mid) (sym (ap (λ t. t.own) e))

-- ---- room for what an abort reaches

-- what is out now was out before
abbrev pub NoMoreOut : List Entry → List Entry → Type 0
NoMoreOut [] [] = Unit {0}
NoMoreOut [] (y ∷ ys) = ⊥
NoMoreOut (x ∷ xs) [] = ⊥
NoMoreOut (x ∷ xs) (y ∷ ys) = (is_out y.status ≡ true → is_out x.status ≡ true) × NoMoreOut xs ys

pub same_out : (xs : List Entry) → NoMoreOut xs xs
same_out [] = tt
same_out (x ∷ xs) = ((λ h. h), same_out xs)

status_if : (b : Bool) (c : Entry) → (cond b (with_status Aborted c) c).status ≡ cond b Aborted c.status
status_if true c = refl
status_if false c = refl

counts : (k a : ℕ) (m : Bool) (s : Status) → length (reached_one k a s (cond (m && is_open s) Aborted s)) ≡ cond (m && is_out s) 1 0
counts k a true (Out thief) = refl
counts k a false (Out thief) = refl
counts k a true Ready = refl
counts k a false Ready = refl
counts k a true _ = refl
counts k a false _ = refl

one_out : (k : ℕ) (m : Bool) (c : Entry) → length (reached_one k c.attempt c.status (abort_if m c).status) ≡ cond (m && is_out c.status) 1 0
one_out k m c = ap (λ s. length (reached_one k c.attempt c.status s)) (status_if (m && is_open c.status) c) ∙ counts k c.attempt m c.status

no_more : (m b d : Bool) → (d ≡ true → b ≡ true) → cond (m && d) 1 0 ≤ cond (m && b) 1 0
no_more false b d h = omega arith
no_more true true true h = omega arith
no_more true true false h = omega arith
no_more true false false h = omega arith
no_more true false true h = absurd (true≢false (sym (h refl)))

unmarked_none : (k : ℕ) (own : List Entry) → length (reached k own own) ≡ 0
unmarked_none k [] = refl
unmarked_none k (c ∷ cs) =
    length-append (reached_one k c.attempt c.status c.status) (reached (suc k) cs cs)
    ∙ (let one : length (reached_one k c.attempt c.status c.status) ≡ 0 = counts k c.attempt false c.status in
    let others : length (reached (suc k) cs cs) ≡ 0 = unmarked_none (suc k) cs in omega (arith, one, others))

-- so the abort reaches no more
pub no_more_reached : (k : ℕ) (marks : List Bool) (xs ys : List Entry) → NoMoreOut xs ys → length (outs_from k marks ys) ≤ length (outs_from k marks xs)
no_more_reached k [] xs ys h = (let none : length (reached k ys ys) ≡ 0 = unmarked_none k ys in omega (arith, none))
no_more_reached k (m ∷ ms) [] [] h = omega arith
no_more_reached k (m ∷ ms) [] (y ∷ ys) h = absurd h
no_more_reached k (m ∷ ms) (x ∷ xs) [] h = omega arith
no_more_reached k (m ∷ ms) (x ∷ xs) (y ∷ ys) h =
    let split_y = length-append (reached_one k y.attempt y.status (abort_if m y).status) (reached (suc k) ys (aborted ms ys)) in
    let split_x = length-append (reached_one k x.attempt x.status (abort_if m x).status) (reached (suc k) xs (aborted ms xs)) in
    let first = no_more m (is_out x.status) (is_out y.status) h.0 in
    let others = no_more_reached (suc k) ms xs ys h.1 in
    omega (arith, split_x, split_y, one_out k m x, one_out k m y, first, others)

-- ---- after which changes no more are out

gets_no_more : (s : Status) (own : List Entry) (k : ℕ) → is_out s ≡ false → NoMoreOut own (change_at (with_status s) own k)
gets_no_more s [] k e = tt
gets_no_more s (c ∷ cs) zero e = ((λ h. absurd (true≢false (sym h ∙ e))), same_out cs)
gets_no_more s (c ∷ cs) (suc k) e = ((λ h. h), gets_no_more s cs k e)

result_not_out : (unit : WorkUnit) (result : ChildResult) → is_out (with_result unit result) ≡ false
result_not_out (Own k) result = refl
result_not_out (Guest name attempt) result = refl

pub result_no_more : (table : Table) (unit : WorkUnit) (result : ChildResult) → NoMoreOut table.own (table_gets table unit (with_result unit result)).own
result_no_more table (Own k) result = gets_no_more (with_result (Own k) result) table.own k refl
result_no_more table (Guest name attempt) result = same_out table.own

redo_out : (lost : Site → Bool) (c : Entry) (s : Status) → c.status ≡ s → is_out (redo_if lost c s).status ≡ true → is_out c.status ≡ true
redo_out lost c (Out thief) e h = ap is_out e
redo_out lost c Ready e h = h
redo_out lost c _ e h = h

pub redo_no_more : (lost : Site → Bool) (own : List Entry) → NoMoreOut own (redo_lost lost own)
redo_no_more lost [] = tt
redo_no_more lost (c ∷ cs) = (redo_out lost c c.status refl, redo_no_more lost cs)
