-- A prefix with one more live option.
use Rattle.std.proofs.Common.{◌≡◌, ℕ, ◌+◌, ◌<◌, ◌≤◌, List, [], ◌∷◌, ◌++◌, length, Bool, true, false, not, ◌&&◌, ◌||◌, Some, None, refl, sym, ◌∙◌, arith, nat_lt, inl, inr, ◌==◌, filter}
use Rattle.std.proofs.lemmas.List.FromFn.{length-range_with_len}
use Rattle.std.specs.List.{range_with_len}
use Rattle.std.proofs.lemmas.Bool.{or_parts, or_cases, cases_Bool, eq-eqb, and_parts, and_from, or_left, or_right, not-true, not_from_false, not_from_true, false_from_ne_true, both_ways, ltb-true, lt-ltb}
use Rattle.std.proofs.lemmas.List.Folds.{list_any-append, list_all-append}
use Rattle.std.proofs.lemmas.List.Sums.{AllPass-from_list_all}
use Rattle.cover_problem.specs.Problem.{Problem, items_of, names_item, IsProblem}
use Rattle.cover_problem.specs.Numbers.{is_in}
use Rattle.cover_problem.specs.Prefix.{agree, clash, is_covered, is_live, are_apart, are_options, is_prefix, AreOptions}
use Rattle.cover_problem.specs.Branching.{is_choice, live_options, open_items, fewest_of, branch_item}
use Rattle.cover_problem.proofs.Among.{range_high, all_at, all_by, filter_fewer_by, in_filter, some_with, range_in}
use Rattle.cover_problem.specs.Branching.{IsOpen}
use Rattle.cover_problem.proofs.Sets.{in_filtered}
use Rattle.cover_problem.proofs.Clashes.{clash_agree, agree_clash, clash_primary, clash_both}

-- a primary item of a live option is not covered
pub live_at : (p : Problem) (xs : List ℕ) (o i : ℕ) → i < p.primary → is_live p xs o ≡ true → names_item p o i ≡ true → is_covered p xs i ≡ false
live_at p xs o i l live named =
    false_from_ne_true (is_covered p xs i) (λ h.
    let w = some_with (λ q. names_item p q i) xs h in
    both_ways (clash p w.0 o) (not-true (clash p w.0 o) (all_at (λ q. not (clash p q o)) xs w.0 live w.1)) (clash_primary p w.0 o i l w.2 named))

-- a live option agrees with those of the prefix on each item that both name
pub live_agree : (p : Problem) (xs : List ℕ) (o q item : ℕ) → is_live p xs o ≡ true → is_in xs q ≡ true → names_item p q item ≡ true → names_item p o item ≡ true → agree p q o item ≡ true
live_agree p xs o q item live here on_q on_o =
    clash_agree p q o item (not-true (clash p q o) (all_at (λ r. not (clash p r o)) xs q live here)) on_q on_o

-- and one that does is live
pub agree_live : (p : Problem) (xs : List ℕ) (o : ℕ) → ((q item : ℕ) → is_in xs q ≡ true → names_item p q item ≡ true → names_item p o item ≡ true → agree p q o item ≡ true) → is_live p xs o ≡ true
agree_live p xs o each =
    all_by (λ q. not (clash p q o)) xs (λ q here. not_from_false (clash p q o) (agree_clash p q o (λ item on_q on_o. each q item here on_q on_o)))

pub covered_more : (p : Problem) (xs : List ℕ) (o i : ℕ) → is_covered p (xs ++ o ∷ []) i ≡ (is_covered p xs i || (names_item p o i || false))
covered_more p xs o i = list_any-append (λ q. names_item p q i) xs (o ∷ [])

pub apart_more : (p : Problem) (xs : List ℕ) (o : ℕ) → are_apart p xs ≡ true → is_live p xs o ≡ true → are_apart p (xs ++ o ∷ []) ≡ true
apart_more p [] o apart live = refl
apart_more p (y ∷ ys) o apart live =
    let parts = and_parts (is_live p ys y) (are_apart p ys) apart in
    let here = and_parts (not (clash p y o)) (is_live p ys o) live in
    let back = not_from_false (clash p o y) (clash_both p y o (not-true (clash p y o) here.0)) in
    and_from (is_live p (ys ++ o ∷ []) y) (are_apart p (ys ++ o ∷ []))
    (list_all-append (λ q. not (clash p q y)) ys (o ∷ []) ∙ and_from (is_live p ys y) (not (clash p o y) && true) parts.0 (and_from (not (clash p o y)) true back refl))
    (apart_more p ys o parts.1 here.1)

pub prefix_more : (p : Problem) (xs : List ℕ) (i o : ℕ) → is_prefix p xs ≡ true → o < length p.options → is_choice p xs i o ≡ true → is_prefix p (xs ++ o ∷ []) ≡ true
prefix_more p xs i o pre within choice =
    let parts = and_parts (are_options p xs) (are_apart p xs) pre in
    let live = and_parts (is_live p xs o) (names_item p o i) choice in
    and_from (are_options p (xs ++ o ∷ [])) (are_apart p (xs ++ o ∷ []))
    (list_all-append (λ x. nat_lt x (length p.options)) xs (o ∷ []) ∙ and_from (are_options p xs) (nat_lt o (length p.options) && true) parts.0 (and_from (nat_lt o (length p.options)) true (lt-ltb o (length p.options) within) refl))
    (apart_more p xs o parts.1 live.0)

pub prefix_options : (p : Problem) (xs : List ℕ) → is_prefix p xs ≡ true → AreOptions p xs
prefix_options p xs pre = options_each xs (and_parts (are_options p xs) (are_apart p xs) pre).0
  where
    options_each : (xs : List ℕ) → are_options p xs ≡ true → AreOptions p xs
    options_each xs h = λ k d lt. ltb-true _ _ (AllPass-from_list_all (λ x. nat_lt x (length p.options)) xs h k d lt)

-- the branch item is open
fewest_among : (p : Problem) (xs : List ℕ) (is : List ℕ) (best : ℕ) (i : ℕ) → fewest_of p xs (Some best) is ≡ Some i → is_in (best ∷ is) i ≡ true
fewest_among p xs [] best i e = let same : best ≡ i = cc in or_left (best == i) false (eq-eqb best i same)
fewest_among p xs (j ∷ is) best i e =
    elim (cases_Bool (nat_lt (length (live_options p xs j)) (length (live_options p xs best)))) [
      | inl less ↦ let e' : fewest_of p xs (Some j) is ≡ Some i = rw less at e in
          or_right (best == i) (is_in (j ∷ is) i) (fewest_among p xs is j i e')
      | inr more ↦ let e' : fewest_of p xs (Some best) is ≡ Some i = rw more at e in
          elim (or_cases (best == i) (is_in is i) (fewest_among p xs is best i e')) [
            | inl h ↦ or_left (best == i) (is_in (j ∷ is) i) h
            | inr h ↦ or_right (best == i) (is_in (j ∷ is) i) (or_right (j == i) (is_in is i) h)
          ]
    ]

fewest_some : (p : Problem) (xs : List ℕ) (is : List ℕ) (i : ℕ) → fewest_of p xs None is ≡ Some i → is_in is i ≡ true
fewest_some p xs [] i e = cc
fewest_some p xs (j ∷ is) i e = fewest_among p xs is j i e

pub branch_open : (p : Problem) (xs : List ℕ) (i : ℕ) → branch_item p xs ≡ Some i → is_in (open_items p xs) i ≡ true
unfolding branch_item
branch_open p xs i e = fewest_some p xs (open_items p xs) i e

pub open_means : (p : Problem) (xs : List ℕ) (i : ℕ) → is_in (open_items p xs) i ≡ true → IsOpen p xs i
unfolding open_items
open_means p xs i h =
    let both = in_filter (λ j. not (is_covered p xs j)) (range_with_len 0 p.primary) i h in
    let high = range_high 0 p.primary i both.0 in
    record { primary = omega (arith, high); uncovered = not-true (is_covered p xs i) both.1 }

pub open_in : (p : Problem) (xs : List ℕ) (i : ℕ) → IsOpen p xs i → is_in (open_items p xs) i ≡ true
unfolding open_items
open_in p xs i h =
    let l = h.primary in
    in_filtered (λ j. not (is_covered p xs j)) (range_with_len 0 p.primary) i
    ∙ and_from (not (is_covered p xs i)) (is_in (range_with_len 0 p.primary) i) (not_from_false (is_covered p xs i) h.uncovered) (range_in 0 p.primary i (omega arith) (omega (arith, l)))

pub branch_is_open : (p : Problem) (xs : List ℕ) (i : ℕ) → branch_item p xs ≡ Some i → IsOpen p xs i
branch_is_open p xs i e = open_means p xs i (branch_open p xs i e)

-- an option that names an open item leaves fewer open
pub open_fewer : (p : Problem) (xs : List ℕ) (i o : ℕ) → branch_item p xs ≡ Some i → is_choice p xs i o ≡ true → length (open_items p (xs ++ o ∷ [])) < length (open_items p xs)
unfolding open_items
open_fewer p xs i o e choice =
    let both = in_filter (λ j. not (is_covered p xs j)) (range_with_len 0 p.primary) i (branch_open p xs i e) in
    let named = (and_parts (is_live p xs o) (names_item p o i) choice).1 in
    filter_fewer_by (λ j. not (is_covered p xs j)) (λ j. not (is_covered p (xs ++ o ∷ []) j))
    (λ j h. not_from_false (is_covered p xs j) (or_parts (is_covered p xs j) (names_item p o j || false) (sym (covered_more p xs o j) ∙ not-true (is_covered p (xs ++ o ∷ []) j) h)).0)
    (range_with_len 0 p.primary) i both.0 both.1
    (not_from_true (is_covered p (xs ++ o ∷ []) i) (covered_more p xs o i ∙ or_right (is_covered p xs i) (names_item p o i || false) (or_left (names_item p o i) false named)))

pub open_few : (p : Problem) (xs : List ℕ) → length (open_items p xs) ≤ p.primary
unfolding open_items
open_few p xs = omega (arith, kept_short (λ i. not (is_covered p xs i)) (range_with_len 0 p.primary), length-range_with_len 0 p.primary)
  where
    kept_short : (test : ℕ → Bool) (xs : List ℕ) → length (filter test xs) ≤ length xs
    kept_short test [] = omega arith
    kept_short test (x ∷ xs) = let rest = kept_short test xs in elim (cases_Bool (test x)) [ inl t ↦ rw t (omega arith) | inr f ↦ rw f (omega arith) ]

-- a prefix and what is open after it are no more than the primary items
pub prefix_short : (p : Problem) (xs : List ℕ) → IsProblem p → is_prefix p xs ≡ true → length xs + length (open_items p xs) ≤ p.primary
unfolding open_items
prefix_short p [] problem pre = let few = open_few p [] in omega (arith, few)
prefix_short p (o ∷ os) problem pre =
    let parts = and_parts (are_options p (o ∷ os)) (are_apart p (o ∷ os)) pre in
    let numbers = and_parts (nat_lt o (length p.options)) (are_options p os) parts.0 in
    let apart = and_parts (is_live p os o) (are_apart p os) parts.1 in
    let rest = prefix_short p os problem (and_from (are_options p os) (are_apart p os) numbers.1 apart.1) in
    let found = some_with (λ i. nat_lt i p.primary) (items_of p o) (problem.each_primary o [] (ltb-true o (length p.options) numbers.0)) in
    let small = ltb-true found.0 p.primary found.2 in
    let fewer = filter_fewer_by (λ j. not (is_covered p os j)) (λ j. not (is_covered p (o ∷ os) j))
    (λ j h. not_from_false (is_covered p os j) (or_parts (names_item p o j) (is_covered p os j) (not-true (is_covered p (o ∷ os) j) h)).1)
    (range_with_len 0 p.primary) found.0 (range_in 0 p.primary found.0 (omega arith) (omega (arith, small)))
    (not_from_false (is_covered p os found.0) (live_at p os o found.0 small apart.0 found.1))
    (not_from_true (is_covered p (o ∷ os) found.0) (or_left (names_item p o found.0) (is_covered p os found.0) found.1)) in
    omega (arith, rest, fewer)
