-- Units at their places, changed and looked up.
use Rattle.std.proofs.Common.{◌≡◌, ℕ, zero, suc, ◌<◌, ◌≤◌, Bool, true, false, cond, List, [], ◌∷◌, length, get_or, slice_set, slice_get, position, nat_lt, not, Some, None, refl, sym, ap, ◌∙◌, arith}
use Rattle.std.proofs.lemmas.Bool.{cond-true, cond-false, ltb-false, not-true}
use Rattle.std.proofs.lemmas.Option.{none-some}
use Rattle.std.proofs.lemmas.List.{get_or_default}
use Rattle.std.proofs.lemmas.List.Quantifiers.{position-Some}
use Rattle.std.proofs.lemmas.List.Sums.{prefix_len_passes}
use Rattle.std.specs.List.{position_or_len}
use Rattle.spawn_frame.specs.Units.{is_guest}
use Rattle.spawn_frame.specs.Works.{change_child, change_work, guest_entry, guest_work}
use Rattle.spawn_frame.specs.declared.child.Child.{Child}
use Rattle.spawn_frame.specs.declared.guest.Guest.{Guest}
use Rattle.spawn_frame.specs.declared.site.ChildName.{ChildName}
use Rattle.spawn_frame.specs.declared.work.Work.{Work}
use Rattle.spawn_frame.proofs.Lookups.{guest_with, with_work}

pub child_set : (f : Work → Work) (own : List Child) (k : ℕ) (c : Child) → k < length own → c ≡ get_or own k c → slice_set own k (with_work f c) ≡ change_child f own k
child_set f [] k c h at = absurd (omega (arith, h))
child_set f (x ∷ xs) zero c h at = ap (λ y. with_work f y ∷ xs) at
child_set f (x ∷ xs) (suc k) c h at = ap (λ l. x ∷ l) (child_set f xs k c (omega (arith, h)) at)

-- a child whose work is written again
pub work_written : (f : Work → Work) (own : List Child) (k : ℕ) (c : Child) (w : Work) → k < length own → c ≡ get_or own k c → w ≡ f c.work
    → slice_set own k (record { parent = c.parent; option = c.option; work = w }) ≡ change_child f own k
work_written f own k c w within at is = ap (λ (v : Work). slice_set own k (record { parent = c.parent; option = c.option; work = v })) is ∙ child_set f own k c within at

pub child_past : (f : Work → Work) (own : List Child) (k : ℕ) → length own ≤ k → own ≡ change_child f own k
child_past f [] k h = refl
child_past f (x ∷ xs) zero h = absurd (omega (arith, h))
child_past f (x ∷ xs) (suc k) h = ap (λ l. x ∷ l) (child_past f xs k (omega (arith, h)))

pub child_get : (own : List Child) (k : ℕ) (c : Child) → k < length own → c ≡ get_or own k c → slice_get own k ≡ Some c
child_get [] k c h at = absurd (omega (arith, h))
child_get (x ∷ xs) zero c h at = ap Some (sym at)
child_get (x ∷ xs) (suc k) c h at = child_get xs k c (omega (arith, h)) at

-- the guest at place i is the first of its name and attempt
pub record IsPlace (gs : List Guest) (name : ChildName) (attempt : ℕ) (i : ℕ) (g : Guest) : Type 0 where
  pub within : i < length gs
  pub passes : is_guest name attempt (guest_entry g) ≡ true
  pub before : (k : ℕ) → k < i → is_guest name attempt (guest_entry (get_or gs k g)) ≡ false

pub place_is : (gs : List Guest) (name : ChildName) (attempt : ℕ) (i : ℕ) (g : Guest) → Some i ≡ position (λ h. is_guest name attempt (guest_entry h)) gs → g ≡ get_or gs i g → IsPlace gs name attempt i g
place_is gs name attempt i g e at =
    let h = position-Some (λ x. is_guest name attempt (guest_entry x)) gs i g (sym e) in
    record { within = h.0; passes = ap (λ x. is_guest name attempt (guest_entry x)) at ∙ h.1; before = h.2 }

behind_first : (x : Guest) (xs : List Guest) (name : ChildName) (attempt : ℕ) (i : ℕ) (g : Guest) → IsPlace (x ∷ xs) name attempt (suc i) g → IsPlace xs name attempt i g
behind_first x xs name attempt i g p = record { within = omega (arith, p.within); passes = p.passes; before = λ k h. p.before (suc k) (omega arith) }

pub guest_set : (f : Work → Work) (gs : List Guest) (name : ChildName) (attempt : ℕ) (i : ℕ) (g : Guest) → IsPlace gs name attempt i g → g ≡ get_or gs i g
    → slice_set gs i (guest_with f g) ≡ change_work f gs name attempt
guest_set f [] name attempt i g p at = absurd (omega (arith, p.within))
guest_set f (x ∷ xs) name attempt zero g p at =
    ap (λ y. guest_with f y ∷ xs) at
    ∙ sym (cond-true (is_guest name attempt (guest_entry x)) (guest_with f x ∷ xs) (x ∷ change_work f xs name attempt) (ap (λ y. is_guest name attempt (guest_entry y)) (sym at) ∙ p.passes))
guest_set f (x ∷ xs) name attempt (suc i) g p at =
    ap (λ l. x ∷ l) (guest_set f xs name attempt i g (behind_first x xs name attempt i g p) at)
    ∙ sym (cond-false (is_guest name attempt (guest_entry x)) (guest_with f x ∷ xs) (x ∷ change_work f xs name attempt) (p.before 0 (omega arith)))

pub guest_get : (gs : List Guest) (name : ChildName) (attempt : ℕ) (i : ℕ) (g : Guest) → IsPlace gs name attempt i g → g ≡ get_or gs i g → guest_work gs name attempt ≡ Some g.work
guest_get [] name attempt i g p at = absurd (omega (arith, p.within))
guest_get (x ∷ xs) name attempt zero g p at =
    cond-true (is_guest name attempt (guest_entry x)) (Some x.work) (guest_work xs name attempt) (ap (λ y. is_guest name attempt (guest_entry y)) (sym at) ∙ p.passes)
    ∙ ap (λ y. Some y.work) (sym at)
guest_get (x ∷ xs) name attempt (suc i) g p at =
    cond-false (is_guest name attempt (guest_entry x)) (Some x.work) (guest_work xs name attempt) (p.before 0 (omega arith))
    ∙ guest_get xs name attempt i g (behind_first x xs name attempt i g p) at

-- ---- no guest of the name and attempt

pub record IsNowhere (gs : List Guest) (name : ChildName) (attempt : ℕ) : Type 0 where
  pub each : (k : ℕ) (g : Guest) → k < length gs → is_guest name attempt (guest_entry (get_or gs k g)) ≡ false

pub nowhere_is : (gs : List Guest) (name : ChildName) (attempt : ℕ) → None ≡ position (λ h. is_guest name attempt (guest_entry h)) gs → IsNowhere gs name attempt
nowhere_is gs name attempt e = go (nat_lt (position_or_len test gs) (length gs)) refl e
  where
    test : Guest → Bool
    test g = is_guest name attempt (guest_entry g)

    go : (b : Bool) → nat_lt (position_or_len test gs) (length gs) ≡ b → None ≡ cond b (Some (position_or_len test gs)) None → IsNowhere gs name attempt
    go true t q = absurd (none-some (position_or_len test gs) q)
    go false t q =
        let past = ltb-false (position_or_len test gs) (length gs) t in
        record { each = λ k g l. not-true (test (get_or gs k g)) (prefix_len_passes (λ x. not (test x)) gs k g (omega (arith, past, l))) }

pub guest_past : (f : Work → Work) (gs : List Guest) (name : ChildName) (attempt : ℕ) → IsNowhere gs name attempt → gs ≡ change_work f gs name attempt
guest_past f [] name attempt h = refl
guest_past f (x ∷ xs) name attempt h =
    ap (λ l. x ∷ l) (guest_past f xs name attempt (record { each = λ k g l. h.each (suc k) g (omega (arith, l)) }))
    ∙ sym (cond-false (is_guest name attempt (guest_entry x)) (guest_with f x ∷ xs) (x ∷ change_work f xs name attempt) (h.each 0 x (omega arith)))

pub guest_none : (gs : List Guest) (name : ChildName) (attempt : ℕ) → IsNowhere gs name attempt → guest_work gs name attempt ≡ None
guest_none [] name attempt h = refl
guest_none (x ∷ xs) name attempt h =
    cond-false (is_guest name attempt (guest_entry x)) (Some x.work) (guest_work xs name attempt) (h.each 0 x (omega arith))
    ∙ guest_none xs name attempt (record { each = λ k g l. h.each (suc k) g (omega (arith, l)) })

-- ---- writes at a place

pub child_write : (f : Work → Work) (own : List Child) (k : ℕ) (c : Child) → k < length own → slice_set own k (with_work f (get_or own k c)) ≡ change_child f own k
child_write f own k c h = child_set f own k (get_or own k c) h (get_or_default own k c (get_or own k c) h)

pub child_read : (own : List Child) (k : ℕ) (c : Child) → k < length own → slice_get own k ≡ Some (get_or own k c)
child_read own k c h = child_get own k (get_or own k c) h (get_or_default own k c (get_or own k c) h)

pub place_read : (gs : List Guest) (name : ChildName) (attempt : ℕ) (i : ℕ) (g : Guest) → Some i ≡ position (λ h. is_guest name attempt (guest_entry h)) gs → IsPlace gs name attempt i (get_or gs i g)
place_read gs name attempt i g e =
    let within : i < length gs = (position-Some (λ h. is_guest name attempt (guest_entry h)) gs i g (sym e)).0 in
    place_is gs name attempt i (get_or gs i g) e (get_or_default gs i g (get_or gs i g) within)

pub guest_write : (f : Work → Work) (gs : List Guest) (name : ChildName) (attempt : ℕ) (i : ℕ) (g : Guest) → Some i ≡ position (λ h. is_guest name attempt (guest_entry h)) gs
    → slice_set gs i (guest_with f (get_or gs i g)) ≡ change_work f gs name attempt
guest_write f gs name attempt i g e =
    let p = place_read gs name attempt i g e in
    guest_set f gs name attempt i (get_or gs i g) p (get_or_default gs i g (get_or gs i g) p.within)

pub guest_read : (gs : List Guest) (name : ChildName) (attempt : ℕ) (i : ℕ) (g : Guest) → Some i ≡ position (λ h. is_guest name attempt (guest_entry h)) gs
    → guest_work gs name attempt ≡ Some (get_or gs i g).work
guest_read gs name attempt i g e =
    let p = place_read gs name attempt i g e in
    guest_get gs name attempt i (get_or gs i g) p (get_or_default gs i g (get_or gs i g) p.within)

pub guest_unwritten : (f : Work → Work) (gs : List Guest) (name : ChildName) (attempt : ℕ) → None ≡ position (λ h. is_guest name attempt (guest_entry h)) gs → gs ≡ change_work f gs name attempt
guest_unwritten f gs name attempt e = guest_past f gs name attempt (nowhere_is gs name attempt e)

pub guest_unread : (gs : List Guest) (name : ChildName) (attempt : ℕ) → None ≡ position (λ h. is_guest name attempt (guest_entry h)) gs → guest_work gs name attempt ≡ None
guest_unread gs name attempt e = guest_none gs name attempt (nowhere_is gs name attempt e)
