-- A problem with a further secondary item, which options that clash by twos name, is a problem and has the same exact covers.
use Rattle.std.proofs.Common.{◌≡◌, ℕ, suc, ◌+◌, ◌<◌, ◌≤◌, Bool, true, false, not, ◌&&◌, ◌==◌, ◌⊎◌, nat_eq, nat_le, nat_lt, List, [], ◌∷◌, ◌++◌, length, map, get_or, count_by, refl, sym, ap, ◌∙◌, subst, inl, inr, arith}
use Rattle.std.specs.Cmp.Lexicographic.{pointwise}
use Rattle.std.specs.List.{list_any, range_with_len, sum_by}
use Rattle.std.proofs.lemmas.Bool.{and_parts, both_ways, cases_Bool, cases_eq, cases_lt, eqb-true, false_from_ne_true, leb-true, lt-ltb, ltb-true, not-true, or_cases}
use Rattle.std.proofs.lemmas.List.{get_or_past, length_push}
use Rattle.std.proofs.lemmas.List.FromFn.{fill_by_all, get_or-map-range_with_len, length-map-range_with_len}
use Rattle.cover_problem.specs.ExactCover.{IsExactCover, uses}
use Rattle.cover_problem.specs.Numbers.{is_in, is_distinct, are_below, some_below}
use Rattle.cover_problem.specs.Prefix.{are_options, clash}
use Rattle.cover_problem.specs.Problem.{Problem, IsProblem, items_of, colours_of, colour_beside, names_item, colour_of, option_numbers, is_name}
use Rattle.cover_problem.proofs.Among.{all_at, all_by, range_high}
use Rattle.cover_problem.proofs.Apart.{chosen_apart}
use Rattle.cover_problem.proofs.Colours.{colours_long, colours_below}
use Rattle.cover_problem.proofs.Counts.{count_at_most, count_none}
use Rattle.cover_problem.proofs.Sets.{count_same}
use Rattle.problem_copies.proofs.Growing.{as_long}
use Rattle.used_items.specs.Covers.{HaveSameCovers}
use Rattle.clash_cliques.specs.Cliques.{clashes_with, clash_by_twos, has_room_for, is_clique, items_with, colours_with, with_clique}
use Rattle.clash_cliques.specs.declared.clique.Clique.{Clique}
use Rattle.clash_cliques.proofs.Behind.{in_behind, in_front, distinct_behind, all_behind, any_front, beside_front, name_behind, each_behind, sum_longer}

-- two different options of a list that clash by twos
twos : (p : Problem) (os : List ℕ) (a b : ℕ) → clash_by_twos p os ≡ true → is_in os a ≡ true → is_in os b ≡ true → (a ≡ b → ⊥) → (clash p a b ≡ true) ⊎ (clash p b a ≡ true)
twos p [] a b h i j apart = absurd (cc)
twos p (o ∷ os) a b h i j apart =
    let parts = and_parts (clashes_with p o os) (clash_by_twos p os) h in
    elim (or_cases (o == a) (is_in os a) i) [
      | inl e ↦ elim (or_cases (o == b) (is_in os b) j) [
        | inl f ↦ absurd (apart (sym (eqb-true o a e) ∙ eqb-true o b f))
        | inr f ↦ inl (subst (λ x. clash p x b ≡ true) (eqb-true o a e) (all_at (λ x. clash p o x) os b parts.0 f))
      ]
      | inr e ↦ elim (or_cases (o == b) (is_in os b) j) [
        | inl f ↦ inr (subst (λ x. clash p x a ≡ true) (eqb-true o b f) (all_at (λ x. clash p o x) os a parts.0 e))
        | inr f ↦ twos p os a b parts.1 e f apart
      ]
    ]

-- an exact cover has at most one of them
pub chosen_once : (p : Problem) (os : List ℕ) (chosen : ℕ → Bool) (a b : ℕ) → clash_by_twos p os ≡ true → IsExactCover p chosen → is_in os a ≡ true → is_in os b ≡ true → chosen a ≡ true → chosen b ≡ true → a ≡ b
chosen_once p os chosen a b by_twos cover of_a of_b has_a has_b = elim (cases_eq a b) [
  | inl same ↦ same
  | inr apart ↦ absurd (elim (twos p os a b by_twos of_a of_b apart) [
    | inl e ↦ both_ways (clash p a b) (chosen_apart p chosen cover a b has_a has_b apart) e
    | inr e ↦ both_ways (clash p b a) (chosen_apart p chosen cover b a has_b has_a (λ f. apart (sym f))) e
  ])
]

module _ (p : Problem) (c : Clique) (lawful : IsProblem p) (ok : is_clique p c ≡ true) where
  abbrev name : List ℕ
  name = c.name

  abbrev clique : List ℕ
  clique = c.options

  abbrev all : ℕ
  all = length p.names

  abbrev made : Problem
  made = with_clique p c

  -- ---- what was tested

  outer : (has_room_for p c.name && are_options p c.options ≡ true) × (clash_by_twos p c.options ≡ true)
  outer = and_parts _ _ ok

  roomy : has_room_for p c.name ≡ true
  roomy = (and_parts (has_room_for p c.name) (are_options p c.options) outer.0).0

  third : (is_name c.name && not (list_any (pointwise nat_eq c.name) p.names) && nat_lt all 1000 ≡ true) × (nat_le (sum_by length p.options + length p.options) 200000 ≡ true)
  third = and_parts _ _ roomy

  second : (is_name c.name && not (list_any (pointwise nat_eq c.name) p.names) ≡ true) × (nat_lt all 1000 ≡ true)
  second = and_parts _ _ third.0

  first : (is_name c.name ≡ true) × (not (list_any (pointwise nat_eq c.name) p.names) ≡ true)
  first = and_parts _ _ second.0

  few : all < 1000
  few = ltb-true all 1000 second.1

  short : sum_by length p.options + length p.options ≤ 200000
  short = leb-true (sum_by length p.options + length p.options) 200000 third.1

  -- ---- its options

  options_long : length made.options ≡ length p.options
  options_long = length-map-range_with_len (items_with p clique) 0 (length p.options)

  items_made : (k : ℕ) → k < length p.options → items_of made k ≡ items_with p clique k
  items_made k low = get_or-map-range_with_len (items_with p clique) 0 (length p.options) k k [] low (omega arith)

  colours_made : (k : ℕ) → k < length p.options → colours_of made k ≡ colours_with p clique k
  colours_made k low = get_or-map-range_with_len (colours_with p clique) 0 (length p.options) k k [] low (omega arith)

  numbered : (k : ℕ) → is_in (option_numbers p) k ≡ true → k < length p.options
  numbered k h = let high = range_high 0 (length p.options) k h in omega (arith, high)

  items_low : (k : ℕ) → k < length p.options → (x : ℕ) → is_in (items_of p k) x ≡ true → x < all
  items_low k low x e = ltb-true x all (all_at (λ y. nat_lt y all) (items_of p k) x (lawful.each_named k [] low) e)

  -- the further item is new to each option
  fresh : (k : ℕ) → k < length p.options → is_in (items_of p k) all ≡ false
  fresh k low = false_from_ne_true (is_in (items_of p k) all) (λ e. let inside = items_low k low all e in omega (arith, inside))

  named_old : (k i : ℕ) → k < length p.options → (i ≡ all → ⊥) → names_item made k i ≡ names_item p k i
  named_old k i low apart = ap (λ xs. is_in xs i) (items_made k low) ∙ elim (cases_Bool (is_in clique k)) [
    | inl e ↦ rw e (in_front (items_of p k) all i apart)
    | inr e ↦ rw e refl
  ]

  named_new : (k : ℕ) → k < length p.options → names_item made k all ≡ is_in clique k
  named_new k low = ap (λ xs. is_in xs all) (items_made k low) ∙ elim (cases_Bool (is_in clique k)) [
    | inl e ↦ rw e (in_behind (items_of p k) all)
    | inr e ↦ rw e (fresh k low)
  ]

  colour_old : (k i : ℕ) → k < length p.options → (i ≡ all → ⊥) → colour_of made k i ≡ colour_of p k i
  colour_old k i low apart =
      ap (λ xs. colour_beside xs (colours_of made k) i) (items_made k low) ∙ ap (λ cs. colour_beside (items_with p clique k) cs i) (colours_made k low) ∙ elim (cases_Bool (is_in clique k)) [
        | inl e ↦ rw e (beside_front (items_of p k) (colours_of p k) all i (colours_long p k lawful) apart)
        | inr e ↦ rw e refl
      ]

  uses_old : (chosen : ℕ → Bool) (i : ℕ) → (i ≡ all → ⊥) → uses made chosen i ≡ uses p chosen i
  uses_old chosen i apart =
      ap (λ n. count_by (λ k. chosen k && names_item made k i) (range_with_len 0 n)) options_long
      ∙ count_same (λ k. chosen k && names_item made k i) (λ k. chosen k && names_item p k i) (option_numbers p) (λ k h. ap (λ b. chosen k && b) (named_old k i (numbered k h) apart))

  -- an exact cover has one option of the list at most
  once : (chosen : ℕ → Bool) → IsExactCover p chosen → uses made chosen all ≤ 1
  once chosen cover = count_at_most (λ k. chosen k && names_item made k all) 0 (length made.options) one
    where
      one : (a b : ℕ) → (chosen a && names_item made a all) ≡ true → (chosen b && names_item made b all) ≡ true → a ≡ b
      one a b h j =
          let left = and_parts (chosen a) (names_item made a all) h in
          let right = and_parts (chosen b) (names_item made b all) j in
          let of_a : is_in clique a ≡ true = sym (named_new a (cover.in_range a left.0)) ∙ left.1 in
          let of_b : is_in clique b ≡ true = sym (named_new b (cover.in_range b right.0)) ∙ right.1 in
          chosen_once p clique chosen a b outer.1 cover of_a of_b left.0 right.0

  old_item : (i : ℕ) → i < p.primary → i ≡ all → ⊥
  old_item i low e = let within = lawful.primary in omega (arith, low, within, e)

  pub there : (chosen : ℕ → Bool) → IsExactCover p chosen → IsExactCover made chosen
  there chosen cover = record {
    in_range = λ k e. let low = cover.in_range k e in omega (arith, low, options_long);
    primary = λ i low. uses_old chosen i (old_item i low) ∙ cover.primary i low;
    secondary = λ i later. elim (cases_eq i all) [
      | inl e ↦ inl (let few = once chosen cover in let same = ap (uses made chosen) e in omega (arith, few, same))
      | inr apart ↦ elim (cover.secondary i later) [
        | inl few ↦ inl (let same = uses_old chosen i apart in omega (arith, few, same))
        | inr one ↦ inr (record {
          colour = one.colour;
          some = one.some;
          each = λ k e named. let low = cover.in_range k e in colour_old k i low apart ∙ one.each k e (sym (named_old k i low apart) ∙ named);
        })
      ]
    ];
  }

  unnamed : (chosen : ℕ → Bool) → uses p chosen all ≡ 0
  unnamed chosen = count_none (λ k. chosen k && names_item p k all) (option_numbers p) (λ k h. ap (λ b. chosen k && b) (fresh k (numbered k h)) ∙ no (chosen k))
    where
      no : (b : Bool) → (b && false) ≡ false
      no true = refl
      no false = refl

  pub back : (chosen : ℕ → Bool) → IsExactCover made chosen → IsExactCover p chosen
  back chosen cover = record {
    in_range = λ k e. low_of k e;
    primary = λ i low. sym (uses_old chosen i (old_item i low)) ∙ cover.primary i low;
    secondary = λ i later. elim (cases_eq i all) [
      | inl e ↦ inl (let none = ap (uses p chosen) e ∙ unnamed chosen in omega (arith, none))
      | inr apart ↦ elim (cover.secondary i later) [
        | inl few ↦ inl (let same = uses_old chosen i apart in omega (arith, few, same))
        | inr one ↦ inr (record {
          colour = one.colour;
          some = one.some;
          each = λ k e named. sym (colour_old k i (low_of k e) apart) ∙ one.each k e (named_old k i (low_of k e) apart ∙ named);
        })
      ]
    ];
  }
    where
      low_of : (k : ℕ) → chosen k ≡ true → k < length p.options
      low_of k e = let low = cover.in_range k e in omega (arith, low, options_long)

  pub same_covers : HaveSameCovers p made
  same_covers = record { options = options_long; there = there; back = back }

  -- ---- its rules

  names_long : length made.names ≡ all + 1
  names_long = length_push p.names name

  option_made : (k : ℕ) (d : List ℕ) → k < length p.options → get_or made.options k d ≡ items_with p clique k
  option_made k d low = get_or-map-range_with_len (items_with p clique) 0 (length p.options) k k d low (omega arith)

  colouring_long : length made.colours ≡ length p.options
  colouring_long = length-map-range_with_len (colours_with p clique) 0 (length p.options)

  colouring_made : (k : ℕ) (d : List ℕ) → k < length p.options → get_or made.colours k d ≡ colours_with p clique k
  colouring_made k d low = get_or-map-range_with_len (colours_with p clique) 0 (length p.options) k k d low (omega arith)

  listed : p.options ≡ map (items_of p) (option_numbers p)
  listed = fill_by_all (items_of p) p.options (length p.options) [] refl (λ k h. refl)

  one_longer : (k : ℕ) → length (items_with p clique k) ≤ length (items_of p k) + 1
  one_longer k = elim (cases_Bool (is_in clique k)) [
    | inl e ↦ rw e (let long = length_push (items_of p k) all in omega (arith, long))
    | inr e ↦ rw e (omega arith)
  ]

  occurring : sum_by length made.options ≤ 200000
  occurring =
      let more = sum_longer (items_with p clique) (items_of p) (option_numbers p) one_longer in
      let same : sum_by length (map (items_of p) (option_numbers p)) ≡ sum_by length p.options = ap (sum_by length) (sym listed) in
      let count : length (option_numbers p) ≡ length p.options = numbers_long (length p.options) in
      omega (arith, more, same, count, short)
    where
      numbers_long : (n : ℕ) → length (range_with_len 0 n) ≡ n
      numbers_long n = sym (same_length (range_with_len 0 n)) ∙ length-map-range_with_len (λ i. i) 0 n
        where
          same_length : (xs : List ℕ) → length (map (λ i. i) xs) ≡ length xs
          same_length [] = refl
          same_length (x ∷ xs) = ap suc (same_length xs)

  colours_along : (k : ℕ) → length (colours_with p clique k) ≡ length (items_with p clique k)
  colours_along k = let own = colours_long p k lawful in elim (cases_Bool (is_in clique k)) [
    | inl e ↦ rw e (let long = length_push (items_of p k) all in let beside = length_push (colours_of p k) 0 in omega (arith, long, beside, own))
    | inr e ↦ rw e own
  ]

  uncoloured : (k i : ℕ) → i < p.primary → colour_of made k i ≡ 0
  uncoloured k i first = elim (cases_lt k (length p.options)) [
    | inr high ↦ ap (λ xs. colour_beside xs (colours_of made k) i) (get_or_past made.options k [] (omega (arith, high, options_long)))
    | inl low ↦ colour_old k i low (old_item i first) ∙ lawful.plain_primary k i first
  ]

  with_each : (test : List ℕ → Bool) (k : ℕ) → test (items_of p k) ≡ true → test (items_of p k ++ all ∷ []) ≡ true → test (items_with p clique k) ≡ true
  with_each test k old new = elim (cases_Bool (is_in clique k)) [ inl e ↦ rw e new | inr e ↦ rw e old ]

  with_each_colour : (test : List ℕ → Bool) (k : ℕ) → test (colours_of p k) ≡ true → test (colours_of p k ++ 0 ∷ []) ≡ true → test (colours_with p clique k) ≡ true
  with_each_colour test k old new = elim (cases_Bool (is_in clique k)) [ inl e ↦ rw e new | inr e ↦ rw e old ]

  pub is_problem : IsProblem made
  is_problem = record {
    some_primary = lawful.some_primary;
    primary = let within = lawful.primary in omega (arith, within, names_long);
    names = omega (arith, few, names_long);
    options = let most = lawful.options in omega (arith, most, options_long);
    occurrences = occurring;
    each_name = λ j d low. each_behind is_name p.names name d j (λ i inside. lawful.each_name i [] inside) first.0 low;
    distinct_names = name_behind p.names name lawful.distinct_names (not-true (list_any (pointwise nat_eq name) p.names) first.1);
    each_primary = λ k d low.
        let inside : k < length p.options = omega (arith, low, options_long) in
        let own = lawful.each_primary k [] inside in
        ap (some_below p.primary) (option_made k d inside) ∙ with_each (some_below p.primary) k own (any_front (λ i. nat_lt i p.primary) (items_of p k) all own);
    each_named = λ k d low.
        let inside : k < length p.options = omega (arith, low, options_long) in
        let own : are_below (length made.names) (items_of p k) ≡ true = all_by (λ i. nat_lt i (length made.names)) (items_of p k) (λ x on_k. lt-ltb x (length made.names) (let below = items_low k inside x on_k in omega (arith, below, names_long))) in
        ap (are_below (length made.names)) (option_made k d inside)
        ∙ with_each (are_below (length made.names)) k own (all_behind (λ i. nat_lt i (length made.names)) (items_of p k) all own (lt-ltb all (length made.names) (omega (arith, names_long))));
    each_distinct = λ k d low.
        let inside : k < length p.options = omega (arith, low, options_long) in
        let own = lawful.each_distinct k [] inside in
        ap is_distinct (option_made k d inside) ∙ with_each is_distinct k own (distinct_behind (items_of p k) all own (fresh k inside));
    each_coloured = as_long (colours_with p clique) (items_with p clique) (option_numbers p) colours_along;
    each_colour = λ k d low.
        let inside : k < length p.options = omega (arith, low, colouring_long) in
        let own = colours_below p k lawful inside in
        ap (are_below (length p.colour_names + 1)) (colouring_made k d inside)
        ∙ with_each_colour (are_below (length p.colour_names + 1)) k own (all_behind (λ c. nat_lt c (length p.colour_names + 1)) (colours_of p k) 0 own (lt-ltb 0 (length p.colour_names + 1) (omega arith)));
    plain_primary = uncoloured;
    colour_names = lawful.colour_names;
    each_colour_name = lawful.each_colour_name;
    distinct_colour_names = lawful.distinct_colour_names;
  }
