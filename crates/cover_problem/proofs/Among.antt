-- Tests of each element of a list of numbers, by whether a number is among them.
use Rattle.std.proofs.Common.{◌≡◌, ℕ, zero, suc, ◌+◌, ◌<◌, ◌≤◌, List, [], ◌∷◌, length, Bool, true, false, ◌==◌, filter, find, Some, None, refl, sym, ◌∙◌, ap, arith, inl, inr, subst}
use Rattle.std.specs.List.{list_any, list_all, range_with_len}
use Rattle.std.proofs.lemmas.Bool.{and_parts, and_from, or_cases, or_left, or_right, eqb-true, eq-eqb, cases_Bool, both_ways, cases_eq}
use Rattle.cover_problem.specs.Numbers.{is_in}

pub all_at : (test : ℕ → Bool) (xs : List ℕ) (x : ℕ) → list_all test xs ≡ true → is_in xs x ≡ true → test x ≡ true
all_at test [] x all in_it = cc
all_at test (y ∷ ys) x all in_it =
    let parts = and_parts (test y) (list_all test ys) all in
    elim (or_cases (y == x) (is_in ys x) in_it) [
      | inl h ↦ let P : ℕ → Type 0 = λ n. test n ≡ true in subst P (eqb-true y x h) parts.0
      | inr h ↦ all_at test ys x parts.1 h
    ]

pub all_by : (test : ℕ → Bool) (xs : List ℕ) → ((x : ℕ) → is_in xs x ≡ true → test x ≡ true) → list_all test xs ≡ true
all_by test [] each = refl
all_by test (y ∷ ys) each =
    and_from (test y) (list_all test ys) (each y (or_left (y == y) (is_in ys y) (eq-eqb y y refl)))
    (all_by test ys (λ x h. each x (or_right (y == x) (is_in ys x) h)))

-- a stricter filter keeps no more
pub filter_fewer : (p q : ℕ → Bool) → ((x : ℕ) → q x ≡ true → p x ≡ true) → (xs : List ℕ) → length (filter q xs) ≤ length (filter p xs)
filter_fewer p q stricter [] = omega arith
filter_fewer p q stricter (y ∷ ys) =
    let rest = filter_fewer p q stricter ys in
    elim (cases_Bool (q y)) [
      | inl passes ↦ rw (passes, stricter y passes) (omega arith)
      | inr fails ↦ elim (cases_Bool (p y)) [ inl kept ↦ rw (fails, kept) (omega arith) | inr gone ↦ rw (fails, gone) rest ]
    ]

-- and fewer where it leaves out one that the other keeps
pub filter_fewer_by : (p q : ℕ → Bool) → ((x : ℕ) → q x ≡ true → p x ≡ true) → (xs : List ℕ) (x : ℕ) → is_in xs x ≡ true → p x ≡ true → q x ≡ false → length (filter q xs) < length (filter p xs)
filter_fewer_by p q stricter [] x in_it kept gone = absurd (both_ways false refl in_it)
filter_fewer_by p q stricter (y ∷ ys) x in_it kept gone =
    elim (or_cases (y == x) (is_in ys x) in_it) [
      | inl h ↦ let same = eqb-true y x h in
          let kept' : p y ≡ true = rw same kept in
          let gone' : q y ≡ false = rw same gone in
          let rest = filter_fewer p q stricter ys in rw (kept', gone') (omega arith)
      | inr h ↦ let rest = filter_fewer_by p q stricter ys x h kept gone in
          elim (cases_Bool (q y)) [
            | inl passes ↦ rw (passes, stricter y passes) (omega arith)
            | inr fails ↦ elim (cases_Bool (p y)) [ inl k ↦ rw (fails, k) (omega arith) | inr g ↦ rw (fails, g) rest ]
          ]
    ]

pub in_filter : (p : ℕ → Bool) (xs : List ℕ) (x : ℕ) → is_in (filter p xs) x ≡ true → (is_in xs x ≡ true) × (p x ≡ true)
in_filter p [] x h = absurd (both_ways false refl h)
in_filter p (y ∷ ys) x h =
    elim (cases_Bool (p y)) [
      | inl passes ↦ let h' : is_in (y ∷ filter p ys) x ≡ true = rw passes at h in
          elim (or_cases (y == x) (is_in (filter p ys) x) h') [
            | inl e ↦ (or_left (y == x) (is_in ys x) e, let P : ℕ → Type 0 = λ n. p n ≡ true in subst P (eqb-true y x e) passes)
            | inr r ↦ let both = in_filter p ys x r in (or_right (y == x) (is_in ys x) both.0, both.1)
          ]
      | inr fails ↦ let h' : is_in (filter p ys) x ≡ true = rw fails at h in
          let both = in_filter p ys x h' in (or_right (y == x) (is_in ys x) both.0, both.1)
    ]

pub any_at : (test : ℕ → Bool) (xs : List ℕ) (x : ℕ) → is_in xs x ≡ true → test x ≡ true → list_any test xs ≡ true
any_at test [] x h t = absurd (both_ways false refl h)
any_at test (y ∷ ys) x h t =
    elim (or_cases (y == x) (is_in ys x) h) [
      | inl e ↦ or_left (test y) (list_any test ys) (ap test (eqb-true y x e) ∙ t)
      | inr e ↦ or_right (test y) (list_any test ys) (any_at test ys x e t)
    ]

pub some_with : (test : ℕ → Bool) (xs : List ℕ) → list_any test xs ≡ true → (x : ℕ) × (is_in xs x ≡ true) × (test x ≡ true)
some_with test [] h = absurd (both_ways false refl h)
some_with test (x ∷ xs) h =
    elim (or_cases (test x) (list_any test xs) h) [
      | inl here ↦ (x, or_left (x == x) (is_in xs x) (eq-eqb x x refl), here)
      | inr there ↦ let found = some_with test xs there in (found.0, or_right (x == found.0) (is_in xs found.0) found.1, found.2)
    ]

-- ---- the first number that passes a test

pub find_none_at : (test : ℕ → Bool) (xs : List ℕ) (x : ℕ) → find test xs ≡ None → is_in xs x ≡ true → test x ≡ false
find_none_at test [] x none here = absurd (both_ways false refl here)
find_none_at test (y ∷ ys) x none here =
    elim (cases_Bool (test y)) [
      | inl passes ↦ let found : find test (y ∷ ys) ≡ Some y = rw passes refl in absurd (let clash : Some y ≡ None = sym found ∙ none in cc)
      | inr fails ↦ let later : find test ys ≡ None = rw fails at none in
          elim (or_cases (y == x) (is_in ys x) here) [
            | inl same ↦ ap test (sym (eqb-true y x same)) ∙ fails
            | inr there ↦ find_none_at test ys x later there
          ]
    ]

pub find_none_by : (test : ℕ → Bool) (xs : List ℕ) → ((x : ℕ) → is_in xs x ≡ true → test x ≡ false) → find test xs ≡ None
find_none_by test [] each = refl
find_none_by test (y ∷ ys) each =
    let fails : test y ≡ false = each y (or_left (y == y) (is_in ys y) (eq-eqb y y refl)) in
    rw fails (find_none_by test ys (λ x there. each x (or_right (y == x) (is_in ys x) there)))

pub find_some_in : (test : ℕ → Bool) (xs : List ℕ) (x : ℕ) → find test xs ≡ Some x → is_in xs x ≡ true
find_some_in test [] x found = absurd (cc)
find_some_in test (y ∷ ys) x found =
    elim (cases_Bool (test y)) [
      | inl passes ↦ let here : Some y ≡ Some x = rw passes at found in
          let same : y ≡ x = cc in
          or_left (y == x) (is_in ys x) (eq-eqb y x same)
      | inr fails ↦ let later : find test ys ≡ Some x = rw fails at found in
          or_right (y == x) (is_in ys x) (find_some_in test ys x later)
    ]

-- ---- the numbers of a range

pub range_in : (start count x : ℕ) → start ≤ x → x < start + count → is_in (range_with_len start count) x ≡ true
range_in start zero x low high = absurd (omega arith)
range_in start (suc count) x low high =
    elim (cases_eq start x) [
      | inl e ↦ or_left (start == x) (is_in (range_with_len (start + 1) count) x) (eq-eqb start x e)
      | inr ne ↦ or_right (start == x) (is_in (range_with_len (start + 1) count) x) (range_in (start + 1) count x (omega arith) (omega arith))
    ]

pub range_low : (start count x : ℕ) → is_in (range_with_len start count) x ≡ true → start ≤ x
range_low start zero x h = absurd (both_ways false refl h)
range_low start (suc count) x h =
    elim (or_cases (start == x) (is_in (range_with_len (start + 1) count) x) h) [
      | inl e ↦ let same = eqb-true start x e in omega arith
      | inr r ↦ let low = range_low (start + 1) count x r in omega arith
    ]

pub range_high : (start count x : ℕ) → is_in (range_with_len start count) x ≡ true → x < start + count
range_high start zero x h = absurd (both_ways false refl h)
range_high start (suc count) x h =
    elim (or_cases (start == x) (is_in (range_with_len (start + 1) count) x) h) [
      | inl e ↦ let same = eqb-true start x e in omega arith
      | inr r ↦ let below = range_high (start + 1) count x r in omega arith
    ]
