-- Counting and membership in lists of numbers.
use Rattle.std.proofs.Common.{◌≡◌, ℕ, suc, ◌+◌, ◌<◌, ◌≤◌, Bool, true, false, ◌&&◌, ◌||◌, cond, ◌==◌, List, [], ◌∷◌, map, filter, length, count_by, Some, slice_get, refl, sym, ap, ◌∙◌, ⊎_elim, arith}
use Rattle.std.proofs.lemmas.Bool.{eqb-true, eq-eqb, or_cases, or_left, or_right, true≢false}
use Rattle.std.proofs.lemmas.List.Sums.{sum_by-cons}
use Rattle.std.proofs.Math.Bool.{and-false}
use Rattle.cover_problem.specs.Problem.{Problem, option_numbers}
use Rattle.cover_problem.specs.Numbers.{is_in}
use Rattle.cover_problem.specs.ExactCover.{in_order}
use Rattle.cover_problem.proofs.Among.{range_in}

-- at one element that passes, and at one that does not
kept_cell : (t q r f : Bool) → (q ≡ true → true ≡ t) → f ≡ (t && r) → (q || f) ≡ (t && (q || r))
kept_cell t true r f h e = h refl ∙ sym (and_true t)
  where
    and_true : (b : Bool) → (b && true) ≡ b
    and_true true = refl
    and_true false = refl
kept_cell t false r f h e = e

left_cell : (t q r f : Bool) → (q ≡ true → false ≡ t) → f ≡ (t && r) → f ≡ (t && (q || r))
left_cell true true r f h e = absurd (true≢false (sym (h refl)))
left_cell false true r f h e = e
left_cell t false r f h e = e

pub in_filtered : (test : ℕ → Bool) (xs : List ℕ) (o : ℕ) → is_in (filter test xs) o ≡ (test o && is_in xs o)
in_filtered test [] o = sym (and-false (test o))
in_filtered test (x ∷ xs) o = go (test x) refl (in_filtered test xs o)
  where
    go : (b : Bool) → test x ≡ b → is_in (filter test xs) o ≡ (test o && is_in xs o) → is_in (cond b (x ∷ filter test xs) (filter test xs)) o ≡ (test o && (x == o || is_in xs o))
    go true e h = kept_cell (test o) (x == o) (is_in xs o) (is_in (filter test xs) o) (λ q. sym e ∙ ap test (eqb-true x o q)) h
    go false e h = left_cell (test o) (x == o) (is_in xs o) (is_in (filter test xs) o) (λ q. sym e ∙ ap test (eqb-true x o q)) h

-- ---- counts

pub count_filter : {X : Type 0} (q p : X → Bool) (xs : List X) → count_by q (filter p xs) ≡ count_by (λ x. p x && q x) xs
count_filter q p [] = refl
count_filter q p (x ∷ xs) = go (p x) (count_filter q p xs) ∙ sym (sum_by-cons (λ y. cond (p y && q y) 1 0) x xs)
  where
    go : (b : Bool) → count_by q (filter p xs) ≡ count_by (λ x. p x && q x) xs → count_by q (cond b (x ∷ filter p xs) (filter p xs)) ≡ cond (b && q x) 1 0 + count_by (λ x. p x && q x) xs
    go true h = sum_by-cons (λ y. cond (q y) 1 0) x (filter p xs) ∙ ap (λ n. cond (q x) 1 0 + n) h
    go false h = omega (arith, h)

pub count_map : {X Y : Type 0} (q : Y → Bool) (f : X → Y) (xs : List X) → count_by q (map f xs) ≡ count_by (λ x. q (f x)) xs
count_map q f [] = refl
count_map q f (x ∷ xs) =
    sum_by-cons (λ y. cond (q y) 1 0) (f x) (map f xs) ∙ ap (λ n. cond (q (f x)) 1 0 + n) (count_map q f xs) ∙ sym (sum_by-cons (λ y. cond (q (f y)) 1 0) x xs)

-- tests that agree on the list count alike
pub count_same : (p q : ℕ → Bool) (xs : List ℕ) → ((x : ℕ) → is_in xs x ≡ true → p x ≡ q x) → count_by p xs ≡ count_by q xs
count_same p q [] h = refl
count_same p q (x ∷ xs) h =
    sum_by-cons (λ y. cond (p y) 1 0) x xs
    ∙ (ap (λ b. cond b 1 0 + count_by p xs) (h x (or_left (x == x) _ (eq-eqb x x refl)))
    ∙ (ap (λ n. cond (q x) 1 0 + n) (count_same p q xs (λ y e. h y (or_right (x == y) _ e)))
    ∙ sym (sum_by-cons (λ y. cond (q y) 1 0) x xs)))

pub count_positive : (p : ℕ → Bool) (xs : List ℕ) (a : ℕ) → is_in xs a ≡ true → p a ≡ true → 1 ≤ count_by p xs
count_positive p [] a h e = absurd (cc)
count_positive p (x ∷ xs) a h e =
    ⊎_elim
    (λ (q : (x == a) ≡ true).
    let one : ◌≡◌ {A = ℕ} (cond (p x) 1 0) 1 = ap (λ b. cond b 1 0) (ap p (eqb-true x a q) ∙ e) in
    omega (arith, sum_by-cons (λ y. cond (p y) 1 0) x xs, one))
    (λ (q : is_in xs a ≡ true). let l = count_positive p xs a q e in omega (arith, sum_by-cons (λ y. cond (p y) 1 0) x xs, l))
    (or_cases (x == a) (is_in xs a) h)

-- at most one passes, so two that pass are one
pub count_one : (p : ℕ → Bool) (xs : List ℕ) → count_by p xs ≤ 1 → (a b : ℕ) → is_in xs a ≡ true → is_in xs b ≡ true → p a ≡ true → p b ≡ true → a ≡ b
count_one p [] l a b ha hb pa pb = absurd (cc)
count_one p (x ∷ xs) l a b ha hb pa pb =
    ⊎_elim
    (λ (qa : (x == a) ≡ true). ⊎_elim
    (λ (qb : (x == b) ≡ true). sym (eqb-true x a qa) ∙ eqb-true x b qb)
    (λ (qb : is_in xs b ≡ true). absurd (clash a qa pa (count_positive p xs b qb pb)))
    (or_cases (x == b) (is_in xs b) hb))
    (λ (qa : is_in xs a ≡ true). ⊎_elim
    (λ (qb : (x == b) ≡ true). absurd (clash b qb pb (count_positive p xs a qa pa)))
    (λ (qb : is_in xs b ≡ true). count_one p xs (omega (arith, sum_by-cons (λ y. cond (p y) 1 0) x xs, l)) a b qa qb pa pb)
    (or_cases (x == b) (is_in xs b) hb))
    (or_cases (x == a) (is_in xs a) ha)
  where
    clash : (c : ℕ) → (x == c) ≡ true → p c ≡ true → 1 ≤ count_by p xs → ⊥
    clash c q e m =
        let one : ◌≡◌ {A = ℕ} (cond (p x) 1 0) 1 = ap (λ t. cond t 1 0) (ap p (eqb-true x c q) ∙ e) in
        omega (arith, sum_by-cons (λ y. cond (p y) 1 0) x xs, one, m, l)

pub in_order_same : (problem : Problem) (options : List ℕ) (o : ℕ) → (is_in options o ≡ true → o < length problem.options) → is_in (in_order problem options) o ≡ is_in options o
in_order_same problem options o h = in_filtered (λ p. is_in options p) (option_numbers problem) o ∙ go (is_in options o) refl
  where
    go : (b : Bool) → is_in options o ≡ b → (is_in options o && is_in (option_numbers problem) o) ≡ is_in options o
    go true e = ap (λ b. b && is_in (option_numbers problem) o) e ∙ range_in 0 (length problem.options) o (omega arith) (let l = h e in omega (arith, l)) ∙ sym e
    go false e = ap (λ b. b && is_in (option_numbers problem) o) e ∙ sym e

pub count_some : (p : ℕ → Bool) (xs : List ℕ) → 1 ≤ count_by p xs → (x : ℕ) × (is_in xs x ≡ true) × (p x ≡ true)
count_some p [] h = absurd (omega arith)
count_some p (y ∷ ys) h = go (p y) refl (λ l. count_some p ys l)
  where
    go : (b : Bool) → p y ≡ b → (1 ≤ count_by p ys → (x : ℕ) × (is_in ys x ≡ true) × (p x ≡ true)) → (x : ℕ) × (is_in (y ∷ ys) x ≡ true) × (p x ≡ true)
    go true e later = (y, or_left (y == y) (is_in ys y) (eq-eqb y y refl), e)
    go false e later =
        let none : ◌≡◌ {A = ℕ} (cond (p y) 1 0) 0 = ap (λ b. cond b 1 0) e in
        let w = later (omega (arith, sum_by-cons (λ z. cond (p z) 1 0) y ys, none, h)) in
        (w.0, or_right (y == w.0) (is_in ys w.0) w.1, w.2)

pub count_witness : {X : Type 0} (p : X → Bool) (xs : List X) → 1 ≤ count_by p xs → (k : ℕ) × (x : X) × (slice_get xs k ≡ Some x) × (p x ≡ true)
count_witness p [] h = absurd (omega arith)
count_witness {X} p (y ∷ ys) h = go (p y) refl (λ l. count_witness p ys l)
  where
    go : (b : Bool) → p y ≡ b → (1 ≤ count_by p ys → (k : ℕ) × (x : X) × (slice_get ys k ≡ Some x) × (p x ≡ true)) → (k : ℕ) × (x : X) × (slice_get (y ∷ ys) k ≡ Some x) × (p x ≡ true)
    go true e later = (0, y, refl, e)
    go false e later =
        let none : ◌≡◌ {A = ℕ} (cond (p y) 1 0) 0 = ap (λ b. cond b 1 0) e in
        let w = later (omega (arith, sum_by-cons (λ z. cond (p z) 1 0) y ys, none, h)) in
        (suc w.0, w.1, w.2, w.3)
