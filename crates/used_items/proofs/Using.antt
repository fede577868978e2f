-- Room that is just enough: without that of an item which a cover leaves out it would be too little for the cover's options.
use Rattle.std.proofs.Common.{◌≡◌, ℕ, ◌*◌, ◌<◌, ◌≤◌, Bool, true, ◌&&◌, ◌||◌, ◌==◌, nat_le, List, [], ◌∷◌, length, set, refl, sym, ap, ◌∙◌, inl, inr, arith}
use Rattle.std.specs.List.{list_all, sum, sum_by}
use Rattle.std.proofs.lemmas.Bool.{cases_eq, cases_lt, and_parts, and_from, or_cases, or_left, or_right, eq-eqb, eqb-true, leb-true}
use Rattle.std.proofs.lemmas.List.{get_or_past, length-set, get_or-set_other}
use Rattle.std.proofs.lemmas.List.Sums.{sum_by-cons, sum_by-set}
use Rattle.cover_problem.specs.ExactCover.{IsExactCover, uses}
use Rattle.cover_problem.specs.Numbers.{is_in}
use Rattle.cover_problem.specs.Problem.{Problem, IsProblem, items_of, names_item, colour_of, option_numbers}
use Rattle.cover_problem.proofs.Among.{all_at, range_in}
use Rattle.cover_problem.proofs.Sets.{count_positive, count_some}
use Rattle.cover_reasons.specs.Room.{Room, amount_of, option_amount, is_plain, fits}
use Rattle.cover_reasons.proofs.Rooming.{none_fits}
use Rattle.used_items.specs.Enough.{is_just_enough}

sum_same : (f g : ℕ → ℕ) (xs : List ℕ) → ((x : ℕ) → is_in xs x ≡ true → f x ≡ g x) → sum_by f xs ≡ sum_by g xs
sum_same f g [] h = refl
sum_same f g (x ∷ xs) h =
    omega (arith, sum_by-cons f x xs, sum_by-cons g x xs, h x (or_left (x == x) _ (eq-eqb x x refl)), sum_same f g xs (λ y e. h y (or_right (x == y) _ e)))

-- ---- what was tested

module _ (p : Problem) (r : Room) (ok : is_just_enough p r ≡ true) where
  outer : (nat_le (length r.needs) p.primary && nat_le (length r.rooms) (length p.names) && nat_le (sum r.rooms) (sum r.needs) ≡ true) × (list_all (λ o. fits p r o) (option_numbers p) ≡ true)
  outer = and_parts _ _ ok

  middle : (nat_le (length r.needs) p.primary && nat_le (length r.rooms) (length p.names) ≡ true) × (nat_le (sum r.rooms) (sum r.needs) ≡ true)
  middle = and_parts _ _ outer.0

  inner : (nat_le (length r.needs) p.primary ≡ true) × (nat_le (length r.rooms) (length p.names) ≡ true)
  inner = and_parts _ _ middle.0

  few_needs : length r.needs ≤ p.primary
  few_needs = leb-true (length r.needs) p.primary inner.0

  few_rooms : length r.rooms ≤ length p.names
  few_rooms = leb-true (length r.rooms) (length p.names) inner.1

  enough : sum r.rooms ≤ sum r.needs
  enough = leb-true (sum r.rooms) (sum r.needs) middle.1

  fit : (o : ℕ) → is_in (option_numbers p) o ≡ true → (nat_le (option_amount p r.needs o) (option_amount p r.rooms o) ≡ true) × (is_plain p r.rooms o ≡ true)
  fit o h = and_parts _ _ (all_at (λ x. fits p r x) (option_numbers p) o outer.1 h)

  -- no option gives a colour to an item that has room
  pub plain : (o i : ℕ) → is_in (option_numbers p) o ≡ true → names_item p o i ≡ true → (amount_of r.rooms i ≡ 0 → ⊥) → colour_of p o i ≡ 0
  plain o i h named some =
      elim (or_cases (amount_of r.rooms i == 0) (colour_of p o i == 0) (all_at (λ j. (amount_of r.rooms j == 0) || (colour_of p o j == 0)) (items_of p o) i (fit o h).1 named)) [
        | inl none ↦ absurd (some (eqb-true (amount_of r.rooms i) 0 none))
        | inr none ↦ eqb-true (colour_of p o i) 0 none
      ]

-- ---- an exact cover

module _ (p : Problem) (r : Room) (chosen : ℕ → Bool) (ok : is_just_enough p r ≡ true) (cover : IsExactCover p chosen) where
  numbered : (o : ℕ) → chosen o ≡ true → is_in (option_numbers p) o ≡ true
  numbered o e = range_in 0 (length p.options) o (omega arith) (omega (arith, cover.in_range o e))

  -- the cover names each item that needs something once
  once : (i : ℕ) → uses p chosen i * amount_of r.needs i ≡ amount_of r.needs i
  once i =
      elim (cases_lt i p.primary) [
        | inl low ↦ ap (λ n. n * amount_of r.needs i) (cover.primary i low) ∙ omega arith
        | inr high ↦
            let nothing : amount_of r.needs i ≡ 0 = get_or_past r.needs i 0 (let short = few_needs p r ok in omega (arith, short, high)) in
            omega (arith, nothing, ap (λ n. uses p chosen i * n) nothing)
      ]

  -- and at most once each item that has room
  few : (i : ℕ) → (amount_of r.rooms i ≡ 0 → ⊥) → uses p chosen i ≤ 1
  few i some =
      elim (cases_lt i p.primary) [
        | inl low ↦ omega (arith, cover.primary i low)
        | inr high ↦ elim (cover.secondary i (omega (arith, high))) [
          | inl h ↦ h
          | inr one ↦ elim (cases_lt 1 (uses p chosen i)) [
            | inl more ↦
                let w = count_some (λ o. chosen o && names_item p o i) (option_numbers p) (omega (arith, more)) in
                let both = and_parts (chosen w.0) (names_item p w.0 i) w.2 in
                let same = one.each w.0 both.0 both.1 in
                let none = plain p r ok w.0 i w.1 both.1 some in
                let least = one.some in
                absurd (omega (arith, same, none, least))
            | inr h ↦ h
          ]
        ]
      ]

-- ---- an item that has room, where the cover leaves it out

module _ (p : Problem) (r : Room) (chosen : ℕ → Bool) (lawful : IsProblem p) (ok : is_just_enough p r ≡ true) (cover : IsExactCover p chosen) (s : ℕ) (some : 1 ≤ amount_of r.rooms s) (out : uses p chosen s ≡ 0) where
  abbrev less : Room
  less = record { needs = r.needs; rooms = set r.rooms s 0 }

  inside : s < length r.rooms
  inside = elim (cases_lt s (length r.rooms)) [
    | inl h ↦ h
    | inr past ↦ let nothing : amount_of r.rooms s ≡ 0 = get_or_past r.rooms s 0 past in absurd (omega (arith, nothing, some))
  ]

  too_little : sum (set r.rooms s 0) < sum r.needs
  too_little = omega (arith, sum_by-set (λ x. x) r.rooms s 0 0 inside, enough p r ok, some)

  other : (i : ℕ) → (i ≡ s → ⊥) → amount_of (set r.rooms s 0) i ≡ amount_of r.rooms i
  other i apart = get_or-set_other r.rooms s i 0 0 apart

  unnamed : (o : ℕ) → chosen o ≡ true → names_item p o s ≡ true → ⊥
  unnamed o e named = let one = count_positive (λ x. chosen x && names_item p x s) (option_numbers p) o (numbered p r chosen ok cover o e) (and_from (chosen o) (names_item p o s) e named) in omega (arith, one, out)

  fitting : (o : ℕ) → chosen o ≡ true → option_amount p r.needs o ≤ option_amount p (set r.rooms s 0) o
  fitting o e =
      let same : option_amount p (set r.rooms s 0) o ≡ option_amount p r.rooms o =
      sum_same (amount_of (set r.rooms s 0)) (amount_of r.rooms) (items_of p o) (λ i on_o. other i (λ is. unnamed o e (ap (is_in (items_of p o)) (sym is) ∙ on_o))) in
      let old = leb-true (option_amount p r.needs o) (option_amount p r.rooms o) (fit p r ok o (numbered p r chosen ok cover o e)).0 in
      omega (arith, old, same)

  fewer : (i : ℕ) → (amount_of (set r.rooms s 0) i ≡ 0 → ⊥) → uses p chosen i ≤ 1
  fewer i own = elim (cases_eq i s) [
    | inl is ↦ let none : uses p chosen i ≡ 0 = ap (uses p chosen) is ∙ out in omega (arith, none)
    | inr apart ↦ few p r chosen ok cover i (λ nothing. own (other i apart ∙ nothing))
  ]

  no_cover : ⊥
  no_cover = none_fits p less chosen lawful (few_needs p r ok) (omega (arith, few_rooms p r ok, length-set r.rooms s 0)) too_little cover.in_range fitting (once p r chosen ok cover) fewer

pub used : (p : Problem) (r : Room) (chosen : ℕ → Bool) → IsProblem p → is_just_enough p r ≡ true → IsExactCover p chosen → (s : ℕ) → 1 ≤ amount_of r.rooms s → uses p chosen s ≡ 1
used p r chosen lawful ok cover s some =
    let most = few p r chosen ok cover s (λ nothing. absurd (omega (arith, nothing, some))) in
    elim (cases_lt (uses p chosen s) 1) [
      | inl less ↦ absurd (no_cover p r chosen lawful ok cover s some (omega (arith, less)))
      | inr h ↦ omega (arith, h, most)
    ]
