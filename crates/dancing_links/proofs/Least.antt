-- The least of some keys.
use Rattle.std.proofs.Common.{◌≡◌, ℕ, zero, suc, ◌+◌, ◌-◌, ◌<◌, ◌≤◌, List, [], ◌∷◌, ◌++◌, length, nat_lt, get_or, take, drop, if◌then◌else◌, refl, arith, sym, ap, ◌∙◌, inl, inr, add-one}
use Rattle.std.proofs.Math.Seq.{take-suc}
use Rattle.std.proofs.lemmas.List.{get_or-drop, get_or-take, length-drop, length-take-le}
use Rattle.std.proofs.lemmas.Bool.{cases_lt, lt-ltb, le-ltb}
use Rattle.dancing_links.specs.Keys.{least_from}

pub least_low : (ks : List ℕ) (best : ℕ) → least_from best ks ≤ best
least_low [] best = omega arith
least_low (k ∷ ks) best = elim (cases_lt k best) [
  | inl less ↦ rw (lt-ltb k best less) (omega (arith, least_low ks k, less))
  | inr more ↦ rw (le-ltb k best more) (least_low ks best)
]

-- none is less
pub least_at : (ks : List ℕ) (best j : ℕ) → j < length ks → least_from best ks ≤ get_or ks j 0
least_at [] best j h = absurd (omega (arith, h))
least_at (k ∷ ks) best zero h = elim (cases_lt k best) [
  | inl less ↦ rw (lt-ltb k best less) (least_low ks k)
  | inr more ↦ rw (le-ltb k best more) (omega (arith, least_low ks best, more))
]
least_at (k ∷ ks) best (suc j) h = elim (cases_lt k best) [
  | inl less ↦ rw (lt-ltb k best less) (least_at ks k j (omega (arith, h)))
  | inr more ↦ rw (le-ltb k best more) (least_at ks best j (omega (arith, h)))
]

-- where it is
abbrev pub IsAt : List ℕ → ℕ → ℕ → Type 0
IsAt ks least j = (j < length ks) × (get_or ks j 0 ≡ least)

pub least_is : (ks : List ℕ) (best : ℕ) → least_from best ks < best → (j : ℕ) × IsAt ks (least_from best ks) j
least_is [] best h = absurd (omega (arith, h))
least_is (k ∷ ks) best h = elim (cases_lt k best) [
  | inr more ↦
      let at = least_is ks best (rw (le-ltb k best more) at h) in
      rw (le-ltb k best more) (suc at.0, (omega (arith, at.1.0), at.1.1))
  | inl less ↦ elim (cases_lt (least_from k ks) k) [
    | inl lower ↦ let at = least_is ks k lower in rw (lt-ltb k best less) (suc at.0, (omega (arith, at.1.0), at.1.1))
    | inr same ↦ rw (lt-ltb k best less) (0, (omega arith, omega (arith, same, least_low ks k)))
  ]
]

least_push : (ks : List ℕ) (k best : ℕ) → least_from best (ks ++ k ∷ []) ≡ (if nat_lt k (least_from best ks) then k else least_from best ks)
least_push [] k best = refl
least_push (x ∷ ks) k best = least_push ks k (if nat_lt x best then x else best)

-- one step of the pass over the keys
pub least_step : (ks : List ℕ) (i key start least new : ℕ) → i < length ks → key ≡ get_or ks i 0 → least ≡ least_from start (take i ks) → new ≡ (if nat_lt key least then key else least) → new ≡ least_from start (take (i + 1) ks)
least_step ks i key start least new inside own so_far e =
    let more : take (i + 1) ks ≡ take i ks ++ get_or ks i 0 ∷ [] = ap (λ n. take n ks) (add-one i) ∙ take-suc ks i 0 inside in
    e ∙ ap (λ k. if nat_lt k least then k else least) own ∙ ap (λ n. if nat_lt (get_or ks i 0) n then get_or ks i 0 else n) so_far
    ∙ sym (least_push (take i ks) (get_or ks i 0) start) ∙ ap (least_from start) (sym more)

-- a bound of a number and of some keys is one of the least of them
least_met : (ks : List ℕ) (best m : ℕ) → m ≤ best → ((j : ℕ) → j < length ks → m ≤ get_or ks j 0) → m ≤ least_from best ks
least_met ks best m low all = elim (cases_lt (least_from best ks) best) [
  | inl less ↦ let at = least_is ks best less in omega (arith, at.1.1, all at.0 at.1.0)
  | inr same ↦ omega (arith, same, low)
]

-- a piece of some keys
piece_length : (ks : List ℕ) (d n : ℕ) → d + n ≤ length ks → length (take n (drop d ks)) ≡ n
piece_length ks d n inside = length-take-le n (drop d ks) (omega (arith, inside, length-drop d ks))

piece_at : (ks : List ℕ) (d n j : ℕ) → j < n → get_or (take n (drop d ks)) j 0 ≡ get_or ks (d + j) 0
piece_at ks d n j below = get_or-take n (drop d ks) j 0 below ∙ get_or-drop d ks j 0

-- keys from the first on and those to the last, of which none is left out
pub least_both : (ks : List ℕ) (best whole start count : ℕ) → start ≤ whole → whole ≤ length ks → start + count ≡ length ks → least_from (least_from best (take whole ks)) (take count (drop start ks)) ≡ least_from best ks
least_both ks best whole start count before inside end =
    let front : ℕ = least_from best (take whole ks) in
    let back : List ℕ = take count (drop start ks) in
    let both : ℕ = least_from front back in
    let low : both ≤ front = least_low back front in
    let all = least_from best ks in
    let front_length : length (take whole ks) ≡ whole = piece_length ks 0 whole (omega (arith, inside)) in
    let back_length : length back ≡ count = piece_length ks start count (omega (arith, end)) in
    let in_front : (j : ℕ) → j < whole → get_or (take whole ks) j 0 ≡ get_or ks j 0 = λ j h. get_or-take whole ks j 0 h in
    let under : both ≤ all = least_met ks best both (omega (arith, low, least_low (take whole ks) best)) (λ j h. elim (cases_lt j whole) [
      | inl here ↦ omega (arith, low, least_at (take whole ks) best j (omega (arith, here, front_length)), in_front j here)
      | inr later ↦
          let step : start + (j - start) ≡ j = omega (arith, before, later) in
          let at : j - start < count = omega (arith, h, end, before, later) in
          omega (arith, least_at back front (j - start) (omega (arith, at, back_length)), piece_at ks start count (j - start) at, ap (λ k. get_or ks k 0) step)
    ]) in
    let of_front : all ≤ front = least_met (take whole ks) best all (least_low ks best) (λ j h.
    let here : j < whole = omega (arith, h, front_length) in
    omega (arith, least_at ks best j (omega (arith, here, inside)), in_front j here)) in
    let over : all ≤ both = least_met back front all of_front (λ j h.
    let at : j < count = omega (arith, h, back_length) in
    omega (arith, least_at ks best (start + j) (omega (arith, at, end)), piece_at ks start count j at)) in
    omega (arith, under, over)
