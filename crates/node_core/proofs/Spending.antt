-- Children that would have to be redone and stand at their last attempt.
use Rattle.std.proofs.Common.{◌≡◌, ℕ, zero, suc, ◌<◌, Bool, true, false, ◌&&◌, ◌||◌, List, [], ◌∷◌, Some, slice_get, refl, sym, ap, subst, ◌∙◌, ⊎_elim, true≢false}
use Rattle.std.specs.Prelude.{nat_le}
use Rattle.std.proofs.lemmas.Bool.{and_cases, and_right, leb-false, lt-leb, or_from, or_left, or_parts, or_right}
use Rattle.std.proofs.lemmas.Option.{none-some, same_Some}
use Rattle.node_core.specs.Refusal.{any_spent}
use Rattle.spawn_frame.specs.Units.{Entry, last_attempt}
use Rattle.spawn_frame.specs.declared.site.Site.{Site}
use Rattle.spawn_frame.specs.declared.status.Status.{Status}
use Rattle.spawn_frame.specs.declared.status.Status.TheVariants.{Out, Ready}
use Rattle.steal_return.specs.Members.{IsRedoable, IsSpent, is_out_to, is_spent_at}

-- a child that can be redone where it has to be is not spent
not_spent : (lost : Site → Bool) (c : Entry) → ((thief : Site) → c.status ≡ Out thief → lost thief ≡ true → c.attempt < last_attempt) → (s : Status) → c.status ≡ s → (nat_le last_attempt c.attempt && is_out_to lost s) ≡ false
not_spent lost c able (Out thief) is = by (lost thief) refl
  where
    by : (b : Bool) → lost thief ≡ b → (nat_le last_attempt c.attempt && b) ≡ false
    by true l = ap (λ b. b && true) (lt-leb last_attempt c.attempt (able thief is l))
    by false l = and_right (nat_le last_attempt c.attempt) false refl
not_spent lost c able Ready is = and_right (nat_le last_attempt c.attempt) false refl
not_spent lost c able _ is = and_right (nat_le last_attempt c.attempt) false refl

-- where each child can be redone that has to be, none is spent
pub none_spent : (lost : Site → Bool) (own : List Entry) → IsRedoable lost own → any_spent lost own ≡ false
none_spent lost [] able = refl
none_spent lost (c ∷ cs) able =
    or_from (is_spent_at lost (Some c)) (any_spent lost cs)
    (not_spent lost c (λ thief is l. able 0 c thief refl is l) c.status refl)
    (none_spent lost cs (λ k entry thief at is l. able (suc k) entry thief at is l))

-- and where none is, each can be
pub all_redoable : (lost : Site → Bool) (own : List Entry) → any_spent lost own ≡ false → IsRedoable lost own
all_redoable lost [] none k entry thief at is l = absurd (none-some entry at)
all_redoable lost (c ∷ cs) none zero entry thief at is l =
    let same : c ≡ entry = same_Some c entry at in
    let out : is_out_to lost c.status ≡ true = ap (λ s. is_out_to lost s) (ap (λ e. e.status) same ∙ is) ∙ l in
    ⊎_elim
    (λ (early : nat_le last_attempt c.attempt ≡ false). subst (λ e. e.attempt < last_attempt) same (leb-false last_attempt c.attempt early))
    (λ (in_place : is_out_to lost c.status ≡ false). absurd (true≢false (sym out ∙ in_place)))
    (and_cases (nat_le last_attempt c.attempt) (is_out_to lost c.status) (or_parts (is_spent_at lost (Some c)) (any_spent lost cs) none).0)
all_redoable lost (c ∷ cs) none (suc k) entry thief at is l =
    all_redoable lost cs (or_parts (is_spent_at lost (Some c)) (any_spent lost cs) none).1 k entry thief at is l

-- ---- the same by a serial

-- where a child is spent, some child is
pub spent_any : (lost : Site → Bool) (own : List Entry) (k : ℕ) → is_spent_at lost (slice_get own k) ≡ true → any_spent lost own ≡ true
spent_any lost [] k is = absurd (true≢false (sym is))
spent_any lost (c ∷ cs) zero is = or_left (is_spent_at lost (Some c)) (any_spent lost cs) is
spent_any lost (c ∷ cs) (suc k) is = or_right (is_spent_at lost (Some c)) (any_spent lost cs) (spent_any lost cs k is)

-- and where some child is, there is one
pub any_is_spent : (lost : Site → Bool) (own : List Entry) → any_spent lost own ≡ true → IsSpent lost own
any_is_spent lost [] any = absurd (true≢false (sym any))
any_is_spent lost (c ∷ cs) any = by (is_spent_at lost (Some c)) refl (any_is_spent lost cs)
  where
    by : (b : Bool) → is_spent_at lost (Some c) ≡ b → (any_spent lost cs ≡ true → IsSpent lost cs) → IsSpent lost (c ∷ cs)
    by true is later = record { serial = 0; spent = is }
    by false is later =
        let there = later (ap (λ b. b || any_spent lost cs) (sym is) ∙ any) in
        record { serial = suc there.serial; spent = there.spent }
