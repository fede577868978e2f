-- Lists of numbers that are renamed, each to one of its own; and lists of names that differ.
use Rattle.std.proofs.Common.{◌≡◌, ℕ, zero, suc, ◌+◌, ◌<◌, ◌≤◌, Bool, true, false, not, ◌==◌, nat_eq, List, [], ◌∷◌, length, map, get_or, refl, ap, ◌∙◌, inl, inr, arith}
use Rattle.std.specs.Cmp.Lexicographic.{pointwise}
use Rattle.std.specs.List.{list_all, list_any, range_with_len}
use Rattle.std.proofs.lemmas.Bool.{and_parts, and_from, cases_order, eqb-true, eq-eqb, not-true, not_from_false, or_cases, or_from, or_left, or_parts, or_right}
use Rattle.std.proofs.lemmas.Cmp.{nat_list_eq_equiv}
use Rattle.std.proofs.lemmas.List.{length-map}
use Rattle.cover_problem.specs.Numbers.{is_in, is_distinct}
use Rattle.cover_problem.specs.Problem.{colour_beside, names_differ}
use Rattle.cover_problem.proofs.Basics.{same_truth}

-- ---- numbers that are renamed

module _ (f : ℕ → ℕ) (n : ℕ) (apart : (i j : ℕ) → i < n → j < n → f i ≡ f j → i ≡ j) where
  same : (x i : ℕ) → x < n → i < n → (f x == f i) ≡ (x == i)
  same x i low inside = same_truth (f x == f i) (x == i) (λ e. eq-eqb x i (apart x i low inside (eqb-true (f x) (f i) e))) (λ e. eq-eqb (f x) (f i) (ap f (eqb-true x i e)))

  pub in_renamed : (xs : List ℕ) (i : ℕ) → ((x : ℕ) → is_in xs x ≡ true → x < n) → i < n → is_in (map f xs) (f i) ≡ is_in xs i
  in_renamed [] i low inside = refl
  in_renamed (x ∷ xs) i low inside =
      let here = same x i (low x (or_left (x == x) _ (eq-eqb x x refl))) inside in
      let rest = in_renamed xs i (λ y e. low y (or_right (x == y) _ e)) inside in
      rw (here, rest) refl

  pub renamed_distinct : (xs : List ℕ) → ((x : ℕ) → is_in xs x ≡ true → x < n) → is_distinct xs ≡ true → is_distinct (map f xs) ≡ true
  renamed_distinct [] low h = refl
  renamed_distinct (x ∷ xs) low h =
      let parts = and_parts (not (is_in xs x)) (is_distinct xs) h in
      let later : (y : ℕ) → is_in xs y ≡ true → y < n = λ y e. low y (or_right (x == y) _ e) in
      let fresh : is_in (map f xs) (f x) ≡ false = in_renamed xs x later (low x (or_left (x == x) _ (eq-eqb x x refl))) ∙ not-true (is_in xs x) parts.0 in
      and_from (not (is_in (map f xs) (f x))) (is_distinct (map f xs)) (not_from_false (is_in (map f xs) (f x)) fresh) (renamed_distinct xs later parts.1)

  pub beside_renamed : (xs cs : List ℕ) (i : ℕ) → ((x : ℕ) → is_in xs x ≡ true → x < n) → i < n → colour_beside (map f xs) cs (f i) ≡ colour_beside xs cs i
  beside_renamed [] cs i low inside = refl
  beside_renamed (x ∷ xs) [] i low inside = refl
  beside_renamed (x ∷ xs) (c ∷ cs) i low inside =
      let here = same x i (low x (or_left (x == x) _ (eq-eqb x x refl))) inside in
      let rest = beside_renamed xs cs i (λ y e. low y (or_right (x == y) _ e)) inside in
      rw (here, rest) refl

pub all_renamed : (f : ℕ → ℕ) (test : ℕ → Bool) (xs : List ℕ) → ((x : ℕ) → is_in xs x ≡ true → test (f x) ≡ true) → list_all test (map f xs) ≡ true
all_renamed f test [] each = refl
all_renamed f test (x ∷ xs) each =
    and_from (test (f x)) (list_all test (map f xs)) (each x (or_left (x == x) (is_in xs x) (eq-eqb x x refl))) (all_renamed f test xs (λ y e. each y (or_right (x == y) (is_in xs y) e)))

pub any_renamed : (f : ℕ → ℕ) (test : ℕ → Bool) (xs : List ℕ) (x : ℕ) → is_in xs x ≡ true → test (f x) ≡ true → list_any test (map f xs) ≡ true
any_renamed f test [] x h t = absurd (cc)
any_renamed f test (y ∷ ys) x h t =
    elim (or_cases (y == x) (is_in ys x) h) [
      | inl e ↦ or_left (test (f y)) (list_any test (map f ys)) (ap (λ z. test (f z)) (eqb-true y x e) ∙ t)
      | inr e ↦ or_right (test (f y)) (list_any test (map f ys)) (any_renamed f test ys x e t)
    ]

-- an item that stands in no list has no colour there
pub beside_none : (xs cs : List ℕ) (i : ℕ) → is_in xs i ≡ false → colour_beside xs cs i ≡ 0
beside_none [] cs i h = refl
beside_none (x ∷ xs) [] i h = refl
beside_none (x ∷ xs) (c ∷ cs) i h = let parts = or_parts (x == i) (is_in xs i) h in rw parts.0 (beside_none xs cs i parts.1)

-- lists that are renamed stay as long
pub renamed_long : (f : ℕ → ℕ) (g : ℕ → List ℕ) (os : List ℕ) → map length (map (λ o. map f (g o)) os) ≡ map length (map g os)
renamed_long f g [] = refl
renamed_long f g (o ∷ os) = let here : length (map f (g o)) ≡ length (g o) = length-map (g o) f in rw (here, renamed_long f g os) refl

-- ---- names

none_at : (first : List ℕ) (names : List (List ℕ)) (item : ℕ) → list_any (pointwise nat_eq first) names ≡ false → item < length names → pointwise nat_eq first (get_or names item []) ≡ false
none_at first [] item e h = absurd (omega arith)
none_at first (name ∷ names) zero e h = (or_parts (pointwise nat_eq first name) (list_any (pointwise nat_eq first) names) e).0
none_at first (name ∷ names) (suc item) e h = none_at first names item (or_parts (pointwise nat_eq first name) (list_any (pointwise nat_eq first) names) e).1 (omega arith)

before : (names : List (List ℕ)) (i j : ℕ) → names_differ names ≡ true → i < j → j < length names → pointwise nat_eq (get_or names i []) (get_or names j []) ≡ false
before [] i j h less inside = absurd (omega arith)
before (name ∷ names) i zero h less inside = absurd (omega (arith, less))
before (name ∷ names) zero (suc j) h less inside =
    none_at name names j (not-true (list_any (pointwise nat_eq name) names) (and_parts (not (list_any (pointwise nat_eq name) names)) (names_differ names) h).0) (omega arith)
before (name ∷ names) (suc i) (suc j) h less inside = before names i j (and_parts (not (list_any (pointwise nat_eq name) names)) (names_differ names) h).1 (omega arith) (omega arith)

-- two names of a list whose names differ
pub other_name : (names : List (List ℕ)) (i j : ℕ) → names_differ names ≡ true → i < length names → j < length names → (i ≡ j → ⊥) → pointwise nat_eq (get_or names i []) (get_or names j []) ≡ false
other_name names i j h inside within apart = elim (cases_order i j) [
  | inl is ↦ absurd (apart is)
  | inr order ↦ elim order [
    | inl less ↦ before names i j h less within
    | inr more ↦ nat_list_eq_equiv.symm (get_or names i []) (get_or names j []) ∙ before names j i h more inside
  ]
]

none_in : (first : List ℕ) (f : ℕ → List ℕ) (start count : ℕ) → ((j : ℕ) → start ≤ j → j < start + count → pointwise nat_eq first (f j) ≡ false) → list_any (pointwise nat_eq first) (map f (range_with_len start count)) ≡ false
none_in first f start zero each = refl
none_in first f start (suc count) each =
    or_from (pointwise nat_eq first (f start)) (list_any (pointwise nat_eq first) (map f (range_with_len (start + 1) count)))
    (each start (omega arith) (omega arith))
    (none_in first f (start + 1) count (λ j low high. each j (omega (arith, low)) (omega (arith, high))))

-- names that are given by places differ where those of any two places do
pub differ_by : (f : ℕ → List ℕ) (start count : ℕ) → ((i j : ℕ) → start ≤ i → i < j → j < start + count → pointwise nat_eq (f i) (f j) ≡ false) → names_differ (map f (range_with_len start count)) ≡ true
differ_by f start zero each = refl
differ_by f start (suc count) each =
    and_from (not (list_any (pointwise nat_eq (f start)) (map f (range_with_len (start + 1) count)))) (names_differ (map f (range_with_len (start + 1) count)))
    (not_from_false (list_any (pointwise nat_eq (f start)) (map f (range_with_len (start + 1) count))) (none_in (f start) f (start + 1) count (λ j low high. each start j (omega arith) (omega (arith, low)) (omega (arith, high)))))
    (differ_by f (start + 1) count (λ i j low less high. each i j (omega (arith, low)) less (omega (arith, high))))
