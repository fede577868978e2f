-- Room that is too little for an exact cover: its options would need what all items need, and have no more room than all have.
use Rattle.std.proofs.Common.{◌≡◌, ℕ, zero, suc, ◌*◌, ◌<◌, ◌≤◌, Bool, true, ◌&&◌, ◌||◌, ◌==◌, cond, nat_le, nat_lt, List, [], ◌∷◌, length, Option, Some, None, refl, ap, ◌∙◌, inl, inr, arith}
use Rattle.std.specs.List.{list_all, range_with_len, sum, sum_by}
use Rattle.std.proofs.lemmas.Bool.{cases_Bool, cases_lt, cases_eq, and_parts, or_cases, or_left, or_right, eqb-true, eq-eqb, leb-true, ltb-true}
use Rattle.std.proofs.lemmas.List.{get_or_past}
use Rattle.std.proofs.lemmas.List.Sums.{sum_by-cons}
use Rattle.cover_problem.specs.ExactCover.{IsExactCover, IsInOneColour, uses}
use Rattle.cover_problem.specs.Numbers.{is_in}
use Rattle.cover_problem.specs.Prefix.{IsCoverOver}
use Rattle.cover_problem.specs.Problem.{Problem, IsProblem, items_of, names_item, colour_of, option_numbers}
use Rattle.cover_problem.specs.Search.{first}
use Rattle.cover_problem.proofs.Among.{all_at, range_in}
use Rattle.cover_reasons.specs.Room.{Room, amount_of, option_amount, is_plain, fits, is_too_little}
use Rattle.cover_reasons.proofs.Sums.{sum_none, sum_same, sum_in, sum_by_columns, sum_listed}

sum_less : (f g : ℕ → ℕ) (xs : List ℕ) → ((x : ℕ) → is_in xs x ≡ true → f x ≤ g x) → sum_by f xs ≤ sum_by g xs
sum_less f g [] h = omega arith
sum_less f g (x ∷ xs) h =
    omega (arith, sum_by-cons f x xs, sum_by-cons g x xs, h x (or_left (x == x) _ (eq-eqb x x refl)), sum_less f g xs (λ y e. h y (or_right (x == y) _ e)))

at_most_once : (n a : ℕ) → n ≤ 1 → n * a ≤ a
at_most_once zero a h = omega arith
at_most_once (suc zero) a h = omega arith
at_most_once (suc (suc n)) a h = absurd (omega (arith, h))

-- ---- a set of options, each of which needs no more than it has room for, that names each item that needs something once, and each item that
-- has room at most once

module _ (p : Problem) (r : Room) (chosen : ℕ → Bool) (lawful : IsProblem p) (few_needs : length r.needs ≤ p.primary) (few_rooms : length r.rooms ≤ length p.names) (more : sum r.rooms < sum r.needs)
    (in_range : (o : ℕ) → chosen o ≡ true → o < length p.options) (fitting : (o : ℕ) → chosen o ≡ true → option_amount p r.needs o ≤ option_amount p r.rooms o)
    (once : (i : ℕ) → uses p chosen i * amount_of r.needs i ≡ amount_of r.needs i) (few : (i : ℕ) → (amount_of r.rooms i ≡ 0 → ⊥) → uses p chosen i ≤ 1) where
  abbrev all : ℕ
  all = length p.names

  abbrev items : List ℕ
  items = range_with_len 0 all

  -- what a list says of an option, taken from all items
  by_items : (ws : List ℕ) (o : ℕ) → o < length p.options → sum_by (λ i. cond (names_item p o i) (amount_of ws i) 0) items ≡ option_amount p ws o
  by_items ws o low =
      sum_in (amount_of ws) all (items_of p o) (lawful.each_distinct o [] low)
      (λ i on_o. ltb-true i all (all_at (λ j. nat_lt j all) (items_of p o) i (lawful.each_named o [] low) on_o))

  -- what it says of an option of the set, and nothing for another
  abbrev of_set : List ℕ → ℕ → ℕ
  of_set ws o = cond (chosen o) (sum_by (λ i. cond (names_item p o i) (amount_of ws i) 0) items) 0

  taken : (ws : List ℕ) (o : ℕ) → chosen o ≡ true → of_set ws o ≡ option_amount p ws o
  taken ws o e = ap (λ b. cond b (sum_by (λ i. cond (names_item p o i) (amount_of ws i) 0) items) 0) e ∙ by_items ws o (in_range o e)

  each_fits : (o : ℕ) → is_in (option_numbers p) o ≡ true → of_set r.needs o ≤ of_set r.rooms o
  each_fits o h =
      elim (cases_Bool (chosen o)) [
        | inl e ↦ omega (arith, fitting o e, taken r.needs o e, taken r.rooms o e)
        | inr e ↦
            let nothing : of_set r.needs o ≡ 0 = ap (λ b. cond b (sum_by (λ i. cond (names_item p o i) (amount_of r.needs i) 0) items) 0) e in
            omega (arith, nothing)
      ]

  at_most : (i : ℕ) → uses p chosen i * amount_of r.rooms i ≤ amount_of r.rooms i
  at_most i =
      elim (cases_eq (amount_of r.rooms i) 0) [
        | inl nothing ↦ omega (arith, nothing, ap (λ n. uses p chosen i * n) nothing)
        | inr some ↦ at_most_once (uses p chosen i) (amount_of r.rooms i) (few i some)
      ]

  needed : sum_by (of_set r.needs) (option_numbers p) ≡ sum r.needs
  needed =
      sum_by_columns (amount_of r.needs) (names_item p) chosen items (option_numbers p)
      ∙ sum_same (λ i. uses p chosen i * amount_of r.needs i) (amount_of r.needs) items (λ i h. once i)
      ∙ sum_listed (amount_of r.needs) 0 all r.needs (omega (arith, few_needs, lawful.primary)) (λ k. ap (amount_of r.needs) (omega arith))

  had : sum_by (of_set r.rooms) (option_numbers p) ≤ sum r.rooms
  had =
      let columns = sum_by_columns (amount_of r.rooms) (names_item p) chosen items (option_numbers p) in
      let less = sum_less (λ i. uses p chosen i * amount_of r.rooms i) (amount_of r.rooms) items (λ i h. at_most i) in
      let listed = sum_listed (amount_of r.rooms) 0 all r.rooms few_rooms (λ k. ap (amount_of r.rooms) (omega arith)) in
      omega (arith, columns, less, listed)

  pub none_fits : ⊥
  none_fits = let fits_all = sum_less (of_set r.needs) (of_set r.rooms) (option_numbers p) each_fits in omega (arith, fits_all, needed, had, more)

-- ---- an exact cover is one

module _ (p : Problem) (r : Room) (chosen : ℕ → Bool) (lawful : IsProblem p) (ok : is_too_little p r ≡ true) (cover : IsExactCover p chosen) where
  outer : (nat_le (length r.needs) p.primary && nat_le (length r.rooms) (length p.names) && nat_lt (sum r.rooms) (sum r.needs) ≡ true) × (list_all (λ o. fits p r o) (option_numbers p) ≡ true)
  outer = and_parts _ _ ok

  middle : (nat_le (length r.needs) p.primary && nat_le (length r.rooms) (length p.names) ≡ true) × (nat_lt (sum r.rooms) (sum r.needs) ≡ true)
  middle = and_parts _ _ outer.0

  inner : (nat_le (length r.needs) p.primary ≡ true) × (nat_le (length r.rooms) (length p.names) ≡ true)
  inner = and_parts _ _ middle.0

  few_needs : length r.needs ≤ p.primary
  few_needs = leb-true (length r.needs) p.primary inner.0

  few_rooms : length r.rooms ≤ length p.names
  few_rooms = leb-true (length r.rooms) (length p.names) inner.1

  more : sum r.rooms < sum r.needs
  more = ltb-true (sum r.rooms) (sum r.needs) middle.1

  fit : (o : ℕ) → is_in (option_numbers p) o ≡ true → (nat_le (option_amount p r.needs o) (option_amount p r.rooms o) ≡ true) × (is_plain p r.rooms o ≡ true)
  fit o h = and_parts _ _ (all_at (λ x. fits p r x) (option_numbers p) o outer.1 h)

  fitting : (o : ℕ) → chosen o ≡ true → option_amount p r.needs o ≤ option_amount p r.rooms o
  fitting o e = leb-true (option_amount p r.needs o) (option_amount p r.rooms o) (fit o (range_in 0 (length p.options) o (omega arith) (omega (arith, cover.in_range o e)))).0

  -- the cover names each item that needs something once
  once : (i : ℕ) → uses p chosen i * amount_of r.needs i ≡ amount_of r.needs i
  once i =
      elim (cases_lt i p.primary) [
        | inl low ↦ ap (λ n. n * amount_of r.needs i) (cover.primary i low) ∙ omega arith
        | inr high ↦
            let nothing : amount_of r.needs i ≡ 0 = get_or_past r.needs i 0 (omega (arith, few_needs, high)) in
            omega (arith, nothing, ap (λ n. uses p chosen i * n) nothing)
      ]

  -- an item that has room has no colour in any option of the cover
  uncoloured : (i : ℕ) → (amount_of r.rooms i ≡ 0 → ⊥) → IsInOneColour p chosen i → uses p chosen i ≡ 0
  uncoloured i some one = sum_none (λ o. cond (chosen o && names_item p o i) 1 0) (option_numbers p) unnamed
    where
      unnamed : (o : ℕ) → is_in (option_numbers p) o ≡ true → ◌≡◌ {A = ℕ} (cond (chosen o && names_item p o i) 1 0) 0
      unnamed o h =
          elim (cases_Bool (chosen o && names_item p o i)) [
            | inl e ↦
                let parts = and_parts (chosen o) (names_item p o i) e in
                let same = one.each o parts.0 parts.1 in
                let plain = all_at (λ j. (amount_of r.rooms j == 0) || (colour_of p o j == 0)) (items_of p o) i (fit o h).1 parts.1 in
                absurd (elim (or_cases (amount_of r.rooms i == 0) (colour_of p o i == 0) plain) [
                  | inl none ↦ some (eqb-true (amount_of r.rooms i) 0 none)
                  | inr none ↦ let zero_colour = eqb-true (colour_of p o i) 0 none in let least = one.some in omega (arith, same, zero_colour, least)
                ])
            | inr e ↦ ap (λ b. cond b 1 0) e
          ]

  -- and at most once each item that has room
  few : (i : ℕ) → (amount_of r.rooms i ≡ 0 → ⊥) → uses p chosen i ≤ 1
  few i some =
      elim (cases_lt i p.primary) [
        | inl low ↦ omega (arith, cover.primary i low)
        | inr high ↦ elim (cover.secondary i (omega (arith, high))) [ inl h ↦ h | inr one ↦ omega (arith, uncoloured i some one) ]
      ]

  pub none : ⊥
  none = none_fits p r chosen lawful few_needs few_rooms more cover.in_range fitting once few

-- so a search finds none
pub none_found : (p : Problem) (r : Room) → IsProblem p → is_too_little p r ≡ true → ((cover : List ℕ) → first p [] ≡ Some cover → IsCoverOver p [] cover) → first p [] ≡ None
none_found p r lawful ok found = go (first p []) refl
  where
    go : (r : Option (List ℕ)) → first p [] ≡ r → first p [] ≡ None
    go None e = e
    go (Some cover) e = absurd (none p r (is_in cover) lawful ok (found cover e).cover)
