-- A walk over the guests from the first, and the one that it finds.
use Rattle.std.proofs.Common.{◌≡◌, ℕ, zero, suc, ◌+◌, true, false, cond, List, [], ◌∷◌, Some, None, length, drop, find, slice_get, refl, sym, ap, ◌∙◌, arith}
use Rattle.std.proofs.lemmas.Option.{none-some, same_Some}
use Rattle.cover_world.specs.Views.{is_here_guest}
use Rattle.spawn_frame.specs.Units.{GuestEntry}

pub here_found : (guests : List GuestEntry) (k : ℕ) (g : GuestEntry) → slice_get guests k ≡ Some g → is_here_guest g ≡ true
    → find is_here_guest (drop k guests) ≡ Some g
here_found [] k g at h = absurd (none-some g at)
here_found (c ∷ cs) zero g at h =
    let same = same_Some c g at in
    let here : is_here_guest c ≡ true = ap is_here_guest same ∙ h in
    ap (λ b. cond b (Some c) (find is_here_guest cs)) here ∙ ap Some same
here_found (c ∷ cs) (suc k) g at h = here_found cs k g at h

passed_at : (guests : List GuestEntry) (k : ℕ) (g : GuestEntry) → slice_get guests k ≡ Some g → is_here_guest g ≡ false
    → find is_here_guest (drop k guests) ≡ find is_here_guest (drop (suc k) guests)
passed_at [] k g at h = absurd (none-some g at)
passed_at (c ∷ cs) zero g at h =
    let here : is_here_guest c ≡ false = ap is_here_guest (same_Some c g at) ∙ h in
    ap (λ b. cond b (Some c) (find is_here_guest cs)) here
passed_at (c ∷ cs) (suc k) g at h = passed_at cs k g at h

pub here_passed : (guests : List GuestEntry) (k : ℕ) (g : GuestEntry) → slice_get guests k ≡ Some g → is_here_guest g ≡ false
    → find is_here_guest (drop (k + 1) guests) ≡ find is_here_guest (drop k guests)
here_passed guests k g at h =
    let more : k + 1 ≡ suc k = omega arith in
    ap (λ n. find is_here_guest (drop n guests)) more ∙ sym (passed_at guests k g at h)

pub here_none : (guests : List GuestEntry) (k : ℕ) → k ≡ length guests → find is_here_guest (drop k guests) ≡ None
here_none guests k e = ap (λ n. find is_here_guest (drop n guests)) e ∙ past guests
  where
    past : (guests : List GuestEntry) → find is_here_guest (drop (length guests) guests) ≡ None
    past [] = refl
    past (c ∷ cs) = past cs
