-- A problem with its items in another order, some more of them primary, is a problem and has the same exact covers.
use Rattle.std.proofs.Common.{◌≡◌, ℕ, ◌<◌, ◌≤◌, Bool, true, false, not, ◌&&◌, ◌||◌, ◌==◌, ◌⊎◌, cond, nat_le, nat_lt, List, [], length, map, get_or, count_by, refl, sym, ap, ◌∙◌, subst, inl, inr, arith}
use Rattle.std.specs.List.{list_all, range_with_len, sum, sum_by}
use Rattle.std.proofs.lemmas.Bool.{and_parts, cases_Bool, cases_lt, cond-false, cond-true, eqb-true, false_from_ne_true, leb-true, lt-ltb, ltb-true, not-true, or_cases, or_left, both_ways}
use Rattle.std.proofs.lemmas.List.{get_or_past}
use Rattle.std.proofs.lemmas.List.FromFn.{fill_by_all, get_or-map-range_with_len, length-map-range_with_len}
use Rattle.std.proofs.lemmas.List.Sums.{sum-map}
use Rattle.cover_problem.specs.ExactCover.{IsExactCover, IsInOneColour, uses}
use Rattle.cover_problem.specs.Numbers.{is_in, is_distinct, some_below, are_below}
use Rattle.cover_problem.specs.Problem.{Problem, IsProblem, items_of, colours_of, colour_beside, names_item, colour_of, option_numbers, is_name}
use Rattle.cover_problem.proofs.Among.{all_at, range_high, range_in, some_with}
use Rattle.cover_problem.proofs.Counts.{count_none}
use Rattle.cover_problem.proofs.Sets.{count_same}
use Rattle.cover_reasons.specs.Room.{Room, amount_of}
use Rattle.used_items.specs.Covers.{HaveSameCovers}
use Rattle.used_items.specs.Enough.{is_just_enough}
use Rattle.used_items.specs.Orders.{Order, item_at, place_of, stands, is_taken, is_order, is_sorted, promotes, name_at, places_in, reordered}
use Rattle.used_items.proofs.Lists.{in_renamed, renamed_distinct, beside_renamed, all_renamed, any_renamed, beside_none, renamed_long, other_name, differ_by}
use Rattle.used_items.proofs.Using.{plain, used}

module _ (p : Problem) (r : Room) (o : Order) (lawful : IsProblem p) (ok : promotes p r o ≡ true) where
  abbrev all : ℕ
  all = length p.names

  abbrev made : Problem
  made = reordered p o

  -- ---- what was tested

  outer : (nat_le o.primary all && is_order o all && list_all (λ i. is_sorted p r o i) (range_with_len 0 all) ≡ true) × (is_just_enough p r ≡ true)
  outer = and_parts _ _ ok

  middle : (nat_le o.primary all && is_order o all ≡ true) × (list_all (λ i. is_sorted p r o i) (range_with_len 0 all) ≡ true)
  middle = and_parts _ _ outer.0

  inner : (nat_le o.primary all ≡ true) × (is_order o all ≡ true)
  inner = and_parts _ _ middle.0

  ordered : (list_all (λ i. stands o all i) (range_with_len 0 all) ≡ true) × (list_all (λ j. is_taken o all j) (range_with_len 0 all) ≡ true)
  ordered = and_parts _ _ inner.1

  few : o.primary ≤ all
  few = leb-true o.primary all inner.0

  each_at : (test : ℕ → Bool) (i : ℕ) → list_all test (range_with_len 0 all) ≡ true → i < all → test i ≡ true
  each_at test i each low = all_at test (range_with_len 0 all) i each (range_in 0 all i (omega arith) (omega (arith, low)))

  place_low : (i : ℕ) → i < all → place_of o i < all
  place_low i low = ltb-true (place_of o i) all (and_parts (nat_lt (place_of o i) all) (item_at o (place_of o i) == i) (each_at (λ x. stands o all x) i ordered.0 low)).0

  item_placed : (i : ℕ) → i < all → item_at o (place_of o i) ≡ i
  item_placed i low = eqb-true (item_at o (place_of o i)) i (and_parts (nat_lt (place_of o i) all) (item_at o (place_of o i) == i) (each_at (λ x. stands o all x) i ordered.0 low)).1

  item_low : (j : ℕ) → j < all → item_at o j < all
  item_low j low = ltb-true (item_at o j) all (and_parts (nat_lt (item_at o j) all) (place_of o (item_at o j) == j) (each_at (λ x. is_taken o all x) j ordered.1 low)).0

  place_there : (j : ℕ) → j < all → place_of o (item_at o j) ≡ j
  place_there j low = eqb-true (place_of o (item_at o j)) j (and_parts (nat_lt (item_at o j) all) (place_of o (item_at o j) == j) (each_at (λ x. is_taken o all x) j ordered.1 low)).1

  apart : (i j : ℕ) → i < all → j < all → place_of o i ≡ place_of o j → i ≡ j
  apart i j low inside e = sym (item_placed i low) ∙ ap (item_at o) e ∙ item_placed j inside

  -- which items come first
  abbrev counts : ℕ → Bool
  counts i = nat_lt i p.primary || not (amount_of r.rooms i == 0)

  sorted : (i : ℕ) → i < all → cond (counts i) (nat_lt (place_of o i) o.primary) (nat_le o.primary (place_of o i)) ≡ true
  sorted i low = each_at (λ x. is_sorted p r o x) i middle.1 low

  comes_first : (i : ℕ) → i < all → counts i ≡ true → place_of o i < o.primary
  comes_first i low e = ltb-true (place_of o i) o.primary (sym (cond-true (counts i) (nat_lt (place_of o i) o.primary) (nat_le o.primary (place_of o i)) e) ∙ sorted i low)

  comes_later : (i : ℕ) → i < all → counts i ≡ false → o.primary ≤ place_of o i
  comes_later i low e = leb-true o.primary (place_of o i) (sym (cond-false (counts i) (nat_lt (place_of o i) o.primary) (nat_le o.primary (place_of o i)) e) ∙ sorted i low)

  primary_first : (i : ℕ) → i < p.primary → place_of o i < o.primary
  primary_first i low = let within = lawful.primary in comes_first i (omega (arith, low, within)) (or_left (nat_lt i p.primary) (not (amount_of r.rooms i == 0)) (lt-ltb i p.primary low))

  -- an item that comes first is primary or has room
  first_counts : (i : ℕ) → i < all → place_of o i < o.primary → (i < p.primary) ⊎ (amount_of r.rooms i ≡ 0 → ⊥)
  first_counts i low first = elim (cases_Bool (counts i)) [
    | inl e ↦ elim (or_cases (nat_lt i p.primary) (not (amount_of r.rooms i == 0)) e) [
      | inl h ↦ inl (ltb-true i p.primary h)
      | inr h ↦ inr (λ nothing. both_ways (amount_of r.rooms i == 0) (not-true (amount_of r.rooms i == 0) h) (eq_true i nothing))
    ]
    | inr e ↦ let later = comes_later i low e in absurd (omega (arith, later, first))
  ]
    where
      eq_true : (k : ℕ) → amount_of r.rooms k ≡ 0 → (amount_of r.rooms k == 0) ≡ true
      eq_true k e = rw e refl

  -- ---- its options

  options_long : length made.options ≡ length p.options
  options_long = length-map-range_with_len (places_in p o) 0 (length p.options)

  items_made : (k : ℕ) → k < length p.options → items_of made k ≡ map (place_of o) (items_of p k)
  items_made k low = get_or-map-range_with_len (places_in p o) 0 (length p.options) k k [] low (omega arith)

  numbered : (k : ℕ) → is_in (option_numbers p) k ≡ true → k < length p.options
  numbered k h = let high = range_high 0 (length p.options) k h in omega (arith, high)

  items_low : (k : ℕ) → k < length p.options → (x : ℕ) → is_in (items_of p k) x ≡ true → x < all
  items_low k low x e = ltb-true x all (all_at (λ y. nat_lt y all) (items_of p k) x (lawful.each_named k [] low) e)

  named_made : (k i : ℕ) → k < length p.options → i < all → names_item made k (place_of o i) ≡ names_item p k i
  named_made k i low inside = ap (λ xs. is_in xs (place_of o i)) (items_made k low) ∙ in_renamed (place_of o) all apart (items_of p k) i (items_low k low) inside

  colour_made : (k i : ℕ) → k < length p.options → i < all → colour_of made k (place_of o i) ≡ colour_of p k i
  colour_made k i low inside =
      ap (λ xs. colour_beside xs (colours_of p k) (place_of o i)) (items_made k low) ∙ beside_renamed (place_of o) all apart (items_of p k) (colours_of p k) i (items_low k low) inside

  uses_made : (chosen : ℕ → Bool) (i : ℕ) → i < all → uses made chosen (place_of o i) ≡ uses p chosen i
  uses_made chosen i inside =
      ap (λ n. count_by (λ k. chosen k && names_item made k (place_of o i)) (range_with_len 0 n)) options_long
      ∙ count_same (λ k. chosen k && names_item made k (place_of o i)) (λ k. chosen k && names_item p k i) (option_numbers p) (λ k h. ap (λ b. chosen k && b) (named_made k i (numbered k h) inside))

  uses_at : (chosen : ℕ → Bool) (j : ℕ) → j < all → uses made chosen j ≡ uses p chosen (item_at o j)
  uses_at chosen j low = ap (uses made chosen) (sym (place_there j low)) ∙ uses_made chosen (item_at o j) (item_low j low)

  -- what is no item is named by no option
  past : (chosen : ℕ → Bool) (i : ℕ) → all ≤ i → uses p chosen i ≡ 0
  past chosen i high = count_none (λ k. chosen k && names_item p k i) (option_numbers p) (λ k h. false_from_ne_true (chosen k && names_item p k i) (λ e.
      let inside = items_low k (numbered k h) i (and_parts (chosen k) (names_item p k i) e).1 in
      omega (arith, inside, high)))

  past_made : (chosen : ℕ → Bool) (j : ℕ) → all ≤ j → uses made chosen j ≡ 0
  past_made chosen j high = count_none (λ k. chosen k && names_item made k j) (option_numbers made) (λ k h. false_from_ne_true (chosen k && names_item made k j) (λ e.
      let low : k < length p.options = let high = range_high 0 (length made.options) k h in omega (arith, high, options_long) in
      let named : is_in (map (place_of o) (items_of p k)) j ≡ true = ap (λ xs. is_in xs j) (sym (items_made k low)) ∙ (and_parts (chosen k) (names_item made k j) e).1 in
      let below : list_all (λ y. nat_lt y all) (map (place_of o) (items_of p k)) ≡ true = all_renamed (place_of o) (λ y. nat_lt y all) (items_of p k) (λ x on_k. lt-ltb (place_of o x) all (place_low x (items_low k low x on_k))) in
      let inside = ltb-true j all (all_at (λ y. nat_lt y all) (map (place_of o) (items_of p k)) j below named) in
      omega (arith, inside, high)))

  -- ---- its exact covers

  first_used : (chosen : ℕ → Bool) (i : ℕ) → IsExactCover p chosen → i < all → place_of o i < o.primary → uses p chosen i ≡ 1
  first_used chosen i cover low first = elim (first_counts i low first) [
    | inl h ↦ cover.primary i h
    | inr some ↦ used p r chosen lawful outer.1 cover i (elim (cases_lt 0 (amount_of r.rooms i)) [ inl h ↦ omega (arith, h) | inr h ↦ absurd (some (omega (arith, h))) ])
  ]

  one_colour_there : (chosen : ℕ → Bool) (j : ℕ) → IsExactCover p chosen → j < all → IsInOneColour p chosen (item_at o j) → IsInOneColour made chosen j
  one_colour_there chosen j cover low one = record {
    colour = one.colour;
    some = one.some;
    each = λ k e named.
        let inside = cover.in_range k e in
        let here = place_there j low in
        let named_here : names_item p k (item_at o j) ≡ true = sym (named_made k (item_at o j) inside (item_low j low)) ∙ ap (names_item made k) here ∙ named in
        ap (colour_of made k) (sym here) ∙ colour_made k (item_at o j) inside (item_low j low) ∙ one.each k e named_here;
  }

  pub there : (chosen : ℕ → Bool) → IsExactCover p chosen → IsExactCover made chosen
  there chosen cover = record {
    in_range = λ k e. subst (λ n. k < n) (sym options_long) (cover.in_range k e);
    primary = λ j first.
        let low : j < all = omega (arith, first, few) in
        let here : place_of o (item_at o j) < o.primary = subst (λ x. x < o.primary) (sym (place_there j low)) first in
        uses_at chosen j low ∙ first_used chosen (item_at o j) cover (item_low j low) here;
    secondary = λ j later. elim (cases_lt j all) [
      | inr high ↦ inl (let none = past_made chosen j high in omega (arith, none))
      | inl low ↦ elim (cases_lt (item_at o j) p.primary) [
        | inl first ↦ let here = primary_first (item_at o j) first in let same = place_there j low in absurd (omega (arith, here, same, later))
        | inr second ↦ elim (cover.secondary (item_at o j) second) [
          | inl h ↦ inl (let same = uses_at chosen j low in omega (arith, same, h))
          | inr one ↦ inr (one_colour_there chosen j cover low one)
        ]
      ]
    ];
  }

  one_colour_back : (chosen : ℕ → Bool) (i : ℕ) → IsExactCover made chosen → i < all → IsInOneColour made chosen (place_of o i) → IsInOneColour p chosen i
  one_colour_back chosen i cover low one = record {
    colour = one.colour;
    some = one.some;
    each = λ k e named.
        let inside : k < length p.options = subst (λ n. k < n) options_long (cover.in_range k e) in
        sym (colour_made k i inside low) ∙ one.each k e (named_made k i inside low ∙ named);
  }

  pub back : (chosen : ℕ → Bool) → IsExactCover made chosen → IsExactCover p chosen
  back chosen cover = record {
    in_range = λ k e. subst (λ n. k < n) options_long (cover.in_range k e);
    primary = λ i first. let within = lawful.primary in sym (uses_made chosen i (omega (arith, first, within))) ∙ cover.primary (place_of o i) (primary_first i first);
    secondary = λ i later. elim (cases_lt i all) [
      | inr high ↦ inl (let none = past chosen i high in omega (arith, none))
      | inl low ↦ elim (cases_lt (place_of o i) o.primary) [
        | inl first ↦ inl (let one = cover.primary (place_of o i) first in let same = uses_made chosen i low in omega (arith, one, same))
        | inr second ↦ elim (cover.secondary (place_of o i) second) [
          | inl h ↦ inl (let same = uses_made chosen i low in omega (arith, same, h))
          | inr one ↦ inr (one_colour_back chosen i cover low one)
        ]
      ]
    ];
  }

  pub same_covers : HaveSameCovers p made
  same_covers = record { options = options_long; there = there; back = back }

  -- ---- its rules

  names_long : length made.names ≡ all
  names_long = length-map-range_with_len (name_at p o) 0 all

  name_made : (j : ℕ) (d : List ℕ) → j < all → get_or made.names j d ≡ get_or p.names (item_at o j) []
  name_made j d low = get_or-map-range_with_len (name_at p o) 0 all j j d low (omega arith)

  option_made : (k : ℕ) (d : List ℕ) → k < length p.options → get_or made.options k d ≡ map (place_of o) (items_of p k)
  option_made k d low = get_or-map-range_with_len (places_in p o) 0 (length p.options) k k d low (omega arith)

  listed : p.options ≡ map (items_of p) (option_numbers p)
  listed = fill_by_all (items_of p) p.options (length p.options) [] refl (λ k h. refl)

  lengths : map length made.options ≡ map length p.options
  lengths = renamed_long (place_of o) (items_of p) (option_numbers p) ∙ ap (map length) (sym listed)

  occurring : sum_by length made.options ≡ sum_by length p.options
  occurring = sym (sum-map length made.options) ∙ ap sum lengths ∙ sum-map length p.options

  -- an item that comes first has no colour
  uncoloured : (k j : ℕ) → j < o.primary → colour_of made k j ≡ 0
  uncoloured k j first = elim (cases_lt k (length p.options)) [
    | inr high ↦ ap (λ xs. colour_beside xs (colours_of p k) j) (get_or_past made.options k [] (omega (arith, high, options_long)))
    | inl low ↦
        let inside : j < all = omega (arith, first, few) in
        let i : ℕ = item_at o j in
        let here : place_of o i ≡ j = place_there j inside in
        let same : colour_of made k j ≡ colour_of p k i = ap (colour_of made k) (sym here) ∙ colour_made k i low (item_low j inside) in
        let none : colour_of p k i ≡ 0 = elim (first_counts i (item_low j inside) (subst (λ x. x < o.primary) (sym here) first)) [
          | inl primary ↦ lawful.plain_primary k i primary
          | inr some ↦ elim (cases_Bool (names_item p k i)) [
            | inr off ↦ beside_none (items_of p k) (colours_of p k) i off
            | inl on_k ↦ plain_at k i low on_k some
          ]
        ] in
        same ∙ none
  ]
    where
      plain_at : (k i : ℕ) → k < length p.options → names_item p k i ≡ true → (amount_of r.rooms i ≡ 0 → ⊥) → colour_of p k i ≡ 0
      plain_at k i low named some = plain p r outer.1 k i (range_in 0 (length p.options) k (omega arith) (omega (arith, low))) named some

  pub is_problem : IsProblem made
  is_problem = record {
    some_primary = let first = primary_first 0 (let some = lawful.some_primary in omega (arith, some)) in omega (arith, first);
    primary = omega (arith, few, names_long);
    names = let most = lawful.names in omega (arith, most, names_long);
    options = let most = lawful.options in omega (arith, most, options_long);
    occurrences = let most = lawful.occurrences in omega (arith, most, occurring);
    each_name = λ j d low.
        let inside : j < all = omega (arith, low, names_long) in
        ap is_name (name_made j d inside) ∙ lawful.each_name (item_at o j) [] (item_low j inside);
    distinct_names = differ_by (name_at p o) 0 all (λ i j least less high.
        let inside : j < all = omega (arith, high) in
        let within : i < all = omega (arith, less, inside) in
        other_name p.names (item_at o i) (item_at o j) lawful.distinct_names (item_low i within) (item_low j inside) (λ e.
        let same : i ≡ j = sym (place_there i within) ∙ ap (place_of o) e ∙ place_there j inside in omega (arith, same, less)));
    each_primary = λ k d low.
        let inside : k < length p.options = omega (arith, low, options_long) in
        let found = some_with (λ i. nat_lt i p.primary) (items_of p k) (lawful.each_primary k [] inside) in
        ap (some_below o.primary) (option_made k d inside)
        ∙ any_renamed (place_of o) (λ j. nat_lt j o.primary) (items_of p k) found.0 found.1 (lt-ltb (place_of o found.0) o.primary (primary_first found.0 (ltb-true found.0 p.primary found.2)));
    each_named = λ k d low.
        let inside : k < length p.options = omega (arith, low, options_long) in
        ap (are_below (length made.names)) (option_made k d inside)
        ∙ all_renamed (place_of o) (λ j. nat_lt j (length made.names)) (items_of p k) (λ x on_k. lt-ltb (place_of o x) (length made.names) (let below = place_low x (items_low k inside x on_k) in omega (arith, below, names_long)));
    each_distinct = λ k d low.
        let inside : k < length p.options = omega (arith, low, options_long) in
        ap is_distinct (option_made k d inside) ∙ renamed_distinct (place_of o) all apart (items_of p k) (items_low k inside) (lawful.each_distinct k [] inside);
    each_coloured = lawful.each_coloured ∙ sym lengths;
    each_colour = lawful.each_colour;
    plain_primary = uncoloured;
    colour_names = lawful.colour_names;
    each_colour_name = lawful.each_colour_name;
    distinct_colour_names = lawful.distinct_colour_names;
  }
