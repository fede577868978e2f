-- Once an option is chosen, options that clash with it can be copies of it: the problem keeps its rules, and the exact covers that have the option.
use Rattle.std.proofs.Common.{◌≡◌, ℕ, zero, suc, ◌+◌, ◌<◌, ◌≤◌, Bool, true, ◌&&◌, ◌||◌, List, [], ◌∷◌, length, map, get_or, count_by, Option, Some, None, refl, sym, ap, ◌∙◌, subst, inl, inr, arith}
use Rattle.std.specs.List.{All, list_all, range_with_len, sum_by}
use Rattle.std.proofs.lemmas.Bool.{and_from, and_parts, cases_Bool, cases_eq, cases_lt, leb-true, ltb-true, ne_eqb}
use Rattle.std.proofs.lemmas.List.{get_or_past}
use Rattle.std.proofs.lemmas.List.Elements.{All-cons, All-map, All-nil}
use Rattle.std.proofs.lemmas.List.FromFn.{get_or-map-range_with_len, length-map-range_with_len}
use Rattle.std.proofs.lemmas.Simd.{map-map}
use Rattle.cover_problem.specs.ExactCover.{IsExactCover, uses}
use Rattle.cover_problem.specs.Numbers.{is_in, is_distinct, are_below, some_below}
use Rattle.cover_problem.specs.Prefix.{AreOptions, IsCoverOver, clash}
use Rattle.cover_problem.specs.Problem.{Problem, IsProblem, problem_by, items_of, colours_of, colour_beside, names_item, colour_of, option_numbers}
use Rattle.cover_problem.specs.Search.{first}
use Rattle.cover_problem.proofs.Apart.{chosen_apart}
use Rattle.cover_problem.proofs.Colours.{colours_long, colours_below}
use Rattle.cover_problem.proofs.Sets.{count_same, count_some, in_filtered}
use Rattle.problem_copies.proofs.Growing.{as_long}
use Rattle.cover_reasons.specs.Reasons.{holds_of}
use Rattle.cover_reasons.specs.declared.reason.Reason.{Reason}
use Rattle.case_reasons.specs.Cases.{AreCases, after_choice, colours_after, has_room_after, is_case, items_after, options_with, stand_in}
use Rattle.case_reasons.specs.declared.case.Case.{Case}
use Rattle.case_reasons.specs.declared.case.Cases.{Cases}

-- an option stands for an option
stands_low : (p : Problem) (c k : ℕ) → c < length p.options → k < length p.options → stand_in p c k < length p.options
stands_low p c k inside low = elim (cases_Bool (clash p c k)) [ inl e ↦ rw e inside | inr e ↦ rw e low ]

module _ (p : Problem) (c : ℕ) (lawful : IsProblem p) where
  abbrev made : Problem
  made = after_choice p c

  options_long : length made.options ≡ length p.options
  options_long = length-map-range_with_len (items_after p c) 0 (length p.options)

  colouring_long : length made.colours ≡ length p.options
  colouring_long = length-map-range_with_len (colours_after p c) 0 (length p.options)

  option_made : (k : ℕ) (d : List ℕ) → k < length p.options → get_or made.options k d ≡ items_after p c k
  option_made k d low = get_or-map-range_with_len (items_after p c) 0 (length p.options) k k d low (omega arith)

  colouring_made : (k : ℕ) (d : List ℕ) → k < length p.options → get_or made.colours k d ≡ colours_after p c k
  colouring_made k d low = get_or-map-range_with_len (colours_after p c) 0 (length p.options) k k d low (omega arith)

  -- ---- the exact covers that have the option

  module _ (chosen : ℕ → Bool) (cover : IsExactCover p chosen) (has : chosen c ≡ true) where
    -- a chosen option stands for itself
    itself : (k : ℕ) → chosen k ≡ true → stand_in p c k ≡ k
    itself k taken = elim (cases_eq c k) [
      | inl same ↦ elim (cases_Bool (clash p c k)) [ inl e ↦ rw e same | inr e ↦ rw e refl ]
      | inr apart ↦ rw (chosen_apart p chosen cover c k has taken apart) refl
    ]

    items_same : (k : ℕ) → chosen k ≡ true → items_of made k ≡ items_of p k
    items_same k taken = option_made k [] (cover.in_range k taken) ∙ ap (items_of p) (itself k taken)

    colours_same : (k : ℕ) → chosen k ≡ true → colours_of made k ≡ colours_of p k
    colours_same k taken = colouring_made k [] (cover.in_range k taken) ∙ ap (colours_of p) (itself k taken)

    named_same : (k i : ℕ) → chosen k ≡ true → names_item made k i ≡ names_item p k i
    named_same k i taken = ap (λ xs. is_in xs i) (items_same k taken)

    colour_same : (k i : ℕ) → chosen k ≡ true → colour_of made k i ≡ colour_of p k i
    colour_same k i taken = ap (λ xs. colour_beside xs (colours_of made k) i) (items_same k taken) ∙ ap (λ cs. colour_beside (items_of p k) cs i) (colours_same k taken)

    uses_same : (i : ℕ) → uses made chosen i ≡ uses p chosen i
    uses_same i =
        ap (λ n. count_by (λ k. chosen k && names_item made k i) (range_with_len 0 n)) options_long
        ∙ count_same (λ k. chosen k && names_item made k i) (λ k. chosen k && names_item p k i) (option_numbers p) (λ k h. both k)
      where
        both : (k : ℕ) → (chosen k && names_item made k i) ≡ (chosen k && names_item p k i)
        both k = elim (cases_Bool (chosen k)) [
          | inl e ↦ ap (λ b. chosen k && b) (named_same k i e)
          | inr e ↦ rw e refl
        ]

    pub kept : IsExactCover made chosen
    kept = record {
      in_range = λ k e. let low = cover.in_range k e in omega (arith, low, options_long);
      primary = λ i low. uses_same i ∙ cover.primary i low;
      secondary = λ i later. elim (cover.secondary i later) [
        | inl few ↦ inl (let same = uses_same i in omega (arith, few, same))
        | inr one ↦ inr (record {
          colour = one.colour;
          some = one.some;
          each = λ k e named. colour_same k i e ∙ one.each k e (sym (named_same k i e) ∙ named);
        })
      ];
    }

  -- ---- its rules

  module _ (inside : c < length p.options) (roomy : has_room_after p c ≡ true) where
    uncoloured : (k i : ℕ) → i < p.primary → colour_of made k i ≡ 0
    uncoloured k i first = elim (cases_lt k (length p.options)) [
      | inr high ↦ ap (λ xs. colour_beside xs (colours_of made k) i) (get_or_past made.options k [] (omega (arith, high, options_long)))
      | inl low ↦
          ap (λ xs. colour_beside xs (colours_of made k) i) (option_made k [] low)
          ∙ ap (λ cs. colour_beside (items_after p c k) cs i) (colouring_made k [] low)
          ∙ lawful.plain_primary (stand_in p c k) i first
    ]

    pub is_problem : IsProblem made
    is_problem = record {
      some_primary = lawful.some_primary;
      primary = lawful.primary;
      names = lawful.names;
      options = let most = lawful.options in omega (arith, most, options_long);
      occurrences = leb-true (sum_by length made.options) 200000 roomy;
      each_name = lawful.each_name;
      distinct_names = lawful.distinct_names;
      each_primary = λ k d low.
          let here : k < length p.options = omega (arith, low, options_long) in
          ap (some_below p.primary) (option_made k d here) ∙ lawful.each_primary (stand_in p c k) [] (stands_low p c k inside here);
      each_named = λ k d low.
          let here : k < length p.options = omega (arith, low, options_long) in
          ap (are_below (length p.names)) (option_made k d here) ∙ lawful.each_named (stand_in p c k) [] (stands_low p c k inside here);
      each_distinct = λ k d low.
          let here : k < length p.options = omega (arith, low, options_long) in
          ap is_distinct (option_made k d here) ∙ lawful.each_distinct (stand_in p c k) [] (stands_low p c k inside here);
      each_coloured = as_long (colours_after p c) (items_after p c) (option_numbers p) (λ k. colours_long p (stand_in p c k) lawful);
      each_colour = λ k d low.
          let here : k < length p.options = omega (arith, low, colouring_long) in
          ap (are_below (length p.colour_names + 1)) (colouring_made k d here) ∙ colours_below p (stand_in p c k) lawful (stands_low p c k inside here);
      plain_primary = uncoloured;
      colour_names = lawful.colour_names;
      each_colour_name = lawful.each_colour_name;
      distinct_colour_names = lawful.distinct_colour_names;
    }

-- ---- the options that stand for others

pub stand_ins_are_options : (p : Problem) (c : ℕ) → c < length p.options → AreOptions p (map (stand_in p c) (option_numbers p))
stand_ins_are_options p c inside = All-map (λ o. o < length p.options) (stand_in p c) (option_numbers p) (each 0 (length p.options) (omega arith))
  where
    each : (start count : ℕ) → start + count ≤ length p.options → All (λ k. stand_in p c k < length p.options) (range_with_len start count)
    each start zero low = All-nil (λ k. stand_in p c k < length p.options)
    each start (suc count) low = All-cons (λ k. stand_in p c k < length p.options) start (range_with_len (start + 1) count) (stands_low p c start inside (omega (arith, low))) (each (start + 1) count (omega (arith, low)))

pub items_stand : (p : Problem) (c : ℕ) (list : List ℕ) → list ≡ map (stand_in p c) (option_numbers p) → map (items_of p) list ≡ map (items_after p c) (option_numbers p)
items_stand p c list is = ap (map (items_of p)) is ∙ map-map (items_of p) (stand_in p c) (option_numbers p)

pub colours_stand : (p : Problem) (c : ℕ) (list : List ℕ) → list ≡ map (stand_in p c) (option_numbers p) → map (colours_of p) list ≡ map (colours_after p c) (option_numbers p)
colours_stand p c list is = ap (map (colours_of p)) is ∙ map-map (colours_of p) (stand_in p c) (option_numbers p)

-- the problem of copies of the options that stand for others
pub made_problem : (p : Problem) (c : ℕ) (list : List ℕ) (names : List (List ℕ)) (primary : ℕ) (options colours colour_names : List (List ℕ)) → IsProblem (after_choice p c) → list ≡ map (stand_in p c) (option_numbers p) → names ≡ p.names → primary ≡ p.primary → options ≡ map (items_of p) list → colours ≡ map (colours_of p) list → colour_names ≡ p.colour_names → IsProblem (problem_by names primary options colours colour_names)
made_problem p c list names primary options colours colour_names lawful is named first itemed coloured called =
    let items : options ≡ map (items_after p c) (option_numbers p) = itemed ∙ items_stand p c list is in
    let own : colours ≡ map (colours_after p c) (option_numbers p) = coloured ∙ colours_stand p c list is in
    subst IsProblem (sym (ap (λ xs. problem_by xs primary options colours colour_names) named ∙ ap (λ n. problem_by p.names n options colours colour_names) first ∙ ap (λ xs. problem_by p.names p.primary xs colours colour_names) items ∙ ap (λ xs. problem_by p.names p.primary (map (items_after p c) (option_numbers p)) xs colour_names) own ∙ ap (λ xs. problem_by p.names p.primary (map (items_after p c) (option_numbers p)) (map (colours_after p c) (option_numbers p)) xs) called)) lawful

-- ---- cases

-- what the law of reasons says
abbrev pub Excluding : Type 0
Excluding = (problem : Problem) (reason : Reason) (chosen : ℕ → Bool) → IsProblem problem → holds_of problem reason ≡ true → IsExactCover problem chosen → ⊥

-- no exact cover has the option of a case
excluded : Excluding → (p : Problem) (case : Case) (chosen : ℕ → Bool) → IsProblem p → is_case p case ≡ true → IsExactCover p chosen → chosen case.option ≡ true → ⊥
excluded law p case chosen lawful ok cover has =
    let outer = and_parts _ _ ok in
    let inner = and_parts _ _ outer.0 in
    let inside = ltb-true case.option (length p.options) inner.0 in
    law (after_choice p case.option) case.reason chosen (is_problem p case.option lawful inside inner.1) outer.1 (kept p case.option lawful chosen cover has)

-- nor one of a list of cases
none_of : Excluding → (p : Problem) (list : List Case) (chosen : ℕ → Bool) (option : ℕ) → IsProblem p → list_all (is_case p) list ≡ true → IsExactCover p chosen → is_in (map (λ case. case.option) list) option ≡ true → chosen option ≡ true → ⊥
none_of law p [] chosen option lawful ok cover of has = absurd (cc)
none_of law p (case ∷ list) chosen option lawful ok cover of has =
    let parts = and_parts (is_case p case) (list_all (is_case p) list) ok in
    elim (cases_eq case.option option) [
      | inl same ↦ excluded law p case chosen lawful parts.0 cover (ap chosen same ∙ has)
      | inr apart ↦ none_of law p list chosen option lawful parts.1 cover (later (map (λ case. case.option) list) case.option option apart of) has
    ]
  where
    later : (xs : List ℕ) (x y : ℕ) → (x ≡ y → ⊥) → is_in (x ∷ xs) y ≡ true → is_in xs y ≡ true
    later xs x y apart e = sym (ap (λ b. b || is_in xs y) (ne_eqb x y apart)) ∙ e

pub no_cover : Excluding → (p : Problem) (cases : Cases) (chosen : ℕ → Bool) → IsProblem p → AreCases p cases → IsExactCover p chosen → ⊥
no_cover law p cases chosen lawful are cover =
    let once = cover.primary cases.item are.primary in
    let some = count_some (λ k. chosen k && names_item p k cases.item) (option_numbers p) (omega (arith, once)) in
    let both = and_parts (chosen some.0) (names_item p some.0 cases.item) some.2 in
    let of : is_in (options_with p cases.item) some.0 ≡ true = in_filtered (λ k. names_item p k cases.item) (option_numbers p) some.0 ∙ and_from (names_item p some.0 cases.item) (is_in (option_numbers p) some.0) both.1 some.1 in
    none_of law p cases.list.items chosen some.0 lawful are.hold cover (ap (λ xs. is_in xs some.0) are.each ∙ of) both.0

pub none_found : Excluding → (p : Problem) (cases : Cases) → IsProblem p → AreCases p cases → ((cover : List ℕ) → first p [] ≡ Some cover → IsCoverOver p [] cover) → first p [] ≡ None
none_found law p cases lawful are found = go (first p []) refl
  where
    go : (r : Option (List ℕ)) → first p [] ≡ r → first p [] ≡ None
    go None e = e
    go (Some cover) e = absurd (no_cover law p cases (is_in cover) lawful are (found cover e).cover)
