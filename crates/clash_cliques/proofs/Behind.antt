-- Lists with one more element behind them.
use Rattle.std.proofs.Common.{◌≡◌, ℕ, zero, suc, ◌+◌, ◌<◌, ◌≤◌, Bool, true, false, not, ◌==◌, nat_eq, List, [], ◌∷◌, ◌++◌, length, map, get_or, refl, sym, ap, ◌∙◌, inl, inr, arith}
use Rattle.std.specs.Cmp.Lexicographic.{pointwise}
use Rattle.std.specs.List.{list_all, list_any, sum_by}
use Rattle.std.proofs.lemmas.Bool.{and_parts, and_from, cases_lt, eq-eqb, ne_eqb, not-true, not_from_false, or_cases, or_from, or_left, or_parts, or_right}
use Rattle.std.proofs.lemmas.Cmp.{nat_list_eq_equiv}
use Rattle.std.proofs.lemmas.List.{get_or_append_left, get_or_push, length_push}
use Rattle.std.proofs.lemmas.List.Sums.{sum_by-cons}
use Rattle.cover_problem.specs.Numbers.{is_in, is_distinct}
use Rattle.cover_problem.specs.Problem.{colour_beside, names_differ}

-- the number behind is in the list
pub in_behind : (xs : List ℕ) (n : ℕ) → is_in (xs ++ n ∷ []) n ≡ true
in_behind [] n = or_left (n == n) false (eq-eqb n n refl)
in_behind (x ∷ xs) n = or_right (x == n) (is_in (xs ++ n ∷ []) n) (in_behind xs n)

-- any other is in the list where it was before
pub in_front : (xs : List ℕ) (n i : ℕ) → (i ≡ n → ⊥) → is_in (xs ++ n ∷ []) i ≡ is_in xs i
in_front [] n i apart = or_from (n == i) false (ne_eqb n i (λ e. apart (sym e))) refl
in_front (x ∷ xs) n i apart = rw (in_front xs n i apart) refl

pub distinct_behind : (xs : List ℕ) (n : ℕ) → is_distinct xs ≡ true → is_in xs n ≡ false → is_distinct (xs ++ n ∷ []) ≡ true
distinct_behind [] n h fresh = refl
distinct_behind (x ∷ xs) n h fresh =
    let parts = and_parts (not (is_in xs x)) (is_distinct xs) h in
    let off = or_parts (x == n) (is_in xs n) fresh in
    let apart : x ≡ n → ⊥ = λ e. absurd (let clash : false ≡ true = sym off.0 ∙ eq-eqb x n e in cc) in
    and_from (not (is_in (xs ++ n ∷ []) x)) (is_distinct (xs ++ n ∷ []))
    (not_from_false (is_in (xs ++ n ∷ []) x) (in_front xs n x apart ∙ not-true (is_in xs x) parts.0))
    (distinct_behind xs n parts.1 off.1)

pub all_behind : (test : ℕ → Bool) (xs : List ℕ) (n : ℕ) → list_all test xs ≡ true → test n ≡ true → list_all test (xs ++ n ∷ []) ≡ true
all_behind test [] n h t = and_from (test n) true t refl
all_behind test (x ∷ xs) n h t = let parts = and_parts (test x) (list_all test xs) h in and_from (test x) (list_all test (xs ++ n ∷ [])) parts.0 (all_behind test xs n parts.1 t)

pub any_front : (test : ℕ → Bool) (xs : List ℕ) (n : ℕ) → list_any test xs ≡ true → list_any test (xs ++ n ∷ []) ≡ true
any_front test [] n h = absurd (cc)
any_front test (x ∷ xs) n h = elim (or_cases (test x) (list_any test xs) h) [
  | inl here ↦ or_left (test x) (list_any test (xs ++ n ∷ [])) here
  | inr there ↦ or_right (test x) (list_any test (xs ++ n ∷ [])) (any_front test xs n there)
]

-- colours keep their places
pub beside_front : (xs cs : List ℕ) (n i : ℕ) → length cs ≡ length xs → (i ≡ n → ⊥) → colour_beside (xs ++ n ∷ []) (cs ++ 0 ∷ []) i ≡ colour_beside xs cs i
beside_front [] [] n i long apart = rw (ne_eqb n i (λ e. apart (sym e))) refl
beside_front [] (c ∷ cs) n i long apart = absurd (omega (arith, long))
beside_front (x ∷ xs) [] n i long apart = absurd (omega (arith, long))
beside_front (x ∷ xs) (c ∷ cs) n i long apart = rw (beside_front xs cs n i (omega (arith, long)) apart) refl

-- a name that no other is
pub name_behind : (names : List (List ℕ)) (name : List ℕ) → names_differ names ≡ true → list_any (pointwise nat_eq name) names ≡ false → names_differ (names ++ name ∷ []) ≡ true
name_behind [] name h fresh = refl
name_behind (first ∷ names) name h fresh =
    let parts = and_parts (not (list_any (pointwise nat_eq first) names)) (names_differ names) h in
    let apart = or_parts (pointwise nat_eq name first) (list_any (pointwise nat_eq name) names) fresh in
    and_from (not (list_any (pointwise nat_eq first) (names ++ name ∷ []))) (names_differ (names ++ name ∷ []))
    (not_from_false (list_any (pointwise nat_eq first) (names ++ name ∷ [])) (none_more names (not-true (list_any (pointwise nat_eq first) names) parts.0)))
    (name_behind names name parts.1 apart.1)
  where
    other : pointwise nat_eq first name ≡ false
    other = nat_list_eq_equiv.symm first name ∙ (or_parts (pointwise nat_eq name first) (list_any (pointwise nat_eq name) names) fresh).0

    none_more : (others : List (List ℕ)) → list_any (pointwise nat_eq first) others ≡ false → list_any (pointwise nat_eq first) (others ++ name ∷ []) ≡ false
    none_more [] e = or_from (pointwise nat_eq first name) false other refl
    none_more (own ∷ others) e =
        let two = or_parts (pointwise nat_eq first own) (list_any (pointwise nat_eq first) others) e in
        or_from (pointwise nat_eq first own) (list_any (pointwise nat_eq first) (others ++ name ∷ [])) two.0 (none_more others two.1)

-- ---- elements of a list, and the one behind it

pub each_behind : (test : List ℕ → Bool) (xs : List (List ℕ)) (x d : List ℕ) (k : ℕ) → ((j : ℕ) → j < length xs → test (get_or xs j []) ≡ true) → test x ≡ true → k < length (xs ++ x ∷ []) → test (get_or (xs ++ x ∷ []) k d) ≡ true
each_behind test xs x d k each last low = elim (cases_lt k (length xs)) [
  | inl inside ↦ ap test (get_or_append_left xs (x ∷ []) d k inside ∙ same xs k d [] inside) ∙ each k inside
  | inr past ↦ let here : length xs ≡ k = omega (arith, past, low, length_push xs x) in ap test (get_or_push xs x d k here) ∙ last
]
  where
    same : (ys : List (List ℕ)) (j : ℕ) (a b : List ℕ) → j < length ys → get_or ys j a ≡ get_or ys j b
    same [] j a b h = absurd (omega arith)
    same (y ∷ ys) zero a b h = refl
    same (y ∷ ys) (suc j) a b h = same ys j a b (omega (arith, h))

-- ---- lists that are made by functions

-- each one longer at most
pub sum_longer : (f g : ℕ → List ℕ) (os : List ℕ) → ((o : ℕ) → length (f o) ≤ length (g o) + 1) → sum_by length (map f os) ≤ sum_by length (map g os) + length os
sum_longer f g [] each = omega arith
sum_longer f g (o ∷ os) each = omega (arith, sum_by-cons length (f o) (map f os), sum_by-cons length (g o) (map g os), each o, sum_longer f g os each)
