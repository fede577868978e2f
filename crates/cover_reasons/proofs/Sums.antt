-- Sums over lists of numbers: over a set of numbers, by options and by items, and modulo a number.
use Rattle.std.proofs.Common.{◌≡◌, ℕ, zero, suc, ◌+◌, ◌*◌, ◌<◌, ◌≤◌, Bool, true, false, not, ◌&&◌, ◌||◌, cond, ◌==◌, List, [], ◌∷◌, length, count_by, get_or, refl, sym, ap, ◌∙◌, ⊎_elim, arith}
use Rattle.std.proofs.lemmas.Bool.{eqb-true, eq-eqb, ne_eqb, or_left, or_right, and_parts, both_ways, not-true, cases_eq}
use Rattle.std.proofs.lemmas.List.Sums.{sum_by-cons}
use Rattle.std.proofs.lemmas.Nat.Gcd.{dvd-zero}
use Rattle.std.proofs.Math.Nat.{dvd-add}
use Rattle.std.specs.Int.{◌∣◌}
use Rattle.std.specs.List.{range_with_len, sum, sum_by}
use Rattle.cover_problem.specs.Numbers.{is_in, is_distinct}
use Rattle.cover_problem.proofs.Among.{range_low}

-- ---- term by term

pub sum_none : (f : ℕ → ℕ) (xs : List ℕ) → ((x : ℕ) → is_in xs x ≡ true → f x ≡ 0) → sum_by f xs ≡ 0
sum_none f [] h = refl
sum_none f (x ∷ xs) h = omega (arith, sum_by-cons f x xs, h x (or_left (x == x) _ (eq-eqb x x refl)), sum_none f xs (λ y e. h y (or_right (x == y) _ e)))

pub sum_same : (f g : ℕ → ℕ) (xs : List ℕ) → ((x : ℕ) → is_in xs x ≡ true → f x ≡ g x) → sum_by f xs ≡ sum_by g xs
sum_same f g [] h = refl
sum_same f g (x ∷ xs) h =
    omega (arith, sum_by-cons f x xs, sum_by-cons g x xs, h x (or_left (x == x) _ (eq-eqb x x refl)), sum_same f g xs (λ y e. h y (or_right (x == y) _ e)))

pub sum_plus : (f g : ℕ → ℕ) (xs : List ℕ) → sum_by (λ x. f x + g x) xs ≡ sum_by f xs + sum_by g xs
sum_plus f g [] = refl
sum_plus f g (x ∷ xs) = omega (arith, sum_by-cons f x xs, sum_by-cons g x xs, sum_by-cons (λ y. f y + g y) x xs, sum_plus f g xs)

pub sum_divides : (m : ℕ) (f : ℕ → ℕ) (xs : List ℕ) → ((x : ℕ) → is_in xs x ≡ true → m ∣ f x) → m ∣ sum_by f xs
sum_divides m f [] h = dvd-zero m
sum_divides m f (x ∷ xs) h =
    let both : m ∣ f x + sum_by f xs = dvd-add m (h x (or_left (x == x) _ (eq-eqb x x refl))) (sum_divides m f xs (λ y e. h y (or_right (x == y) _ e))) in
    rw (sum_by-cons f x xs) both

-- ---- over the set that a list without repeats stands for

-- of the numbers of a range only x is x
sum_single : (f : ℕ → ℕ) (x start n : ℕ) → start ≤ x → x < start + n → sum_by (λ o. cond (x == o) (f o) 0) (range_with_len start n) ≡ f x
sum_single f x start zero l m = absurd (omega (arith, l, m))
sum_single f x start (suc n) l m =
    ⊎_elim
    (λ (e : x ≡ start).
    let none = sum_none (λ o. cond (x == o) (f o) 0) (range_with_len (start + 1) n) (λ o i. let low = range_low (start + 1) n o i in ap (λ b. cond b (f o) 0) (ne_eqb x o (omega (arith, e, low)))) in
    let here : ◌≡◌ {A = ℕ} (cond (x == start) (f start) 0) (f x) = ap (λ b. cond b (f start) 0) (eq-eqb x start e) ∙ ap f (sym e) in
    omega (arith, sum_by-cons (λ o. cond (x == o) (f o) 0) start (range_with_len (start + 1) n), none, here))
    (λ (e : x ≡ start → ⊥).
    let none : ◌≡◌ {A = ℕ} (cond (x == start) (f start) 0) 0 = ap (λ b. cond b (f start) 0) (ne_eqb x start e) in
    let rest = sum_single f x (start + 1) n (omega (arith, l, e)) (omega (arith, m)) in
    omega (arith, sum_by-cons (λ o. cond (x == o) (f o) 0) start (range_with_len (start + 1) n), none, rest))
    (cases_eq x start)

cell_or : (a b : Bool) (n : ℕ) → (a ≡ true → b ≡ true → ⊥) → ◌≡◌ {A = ℕ} (cond (a || b) n 0) (cond a n 0 + cond b n 0)
cell_or true true n h = absurd (h refl refl)
cell_or true false n h = omega arith
cell_or false true n h = omega arith
cell_or false false n h = refl

pub sum_in : (f : ℕ → ℕ) (n : ℕ) (xs : List ℕ) → is_distinct xs ≡ true → ((x : ℕ) → is_in xs x ≡ true → x < n) → sum_by (λ o. cond (is_in xs o) (f o) 0) (range_with_len 0 n) ≡ sum_by f xs
sum_in f n [] d r = sum_none (λ o. cond false (f o) 0) (range_with_len 0 n) (λ o i. refl)
sum_in f n (x ∷ xs) d r =
    let h = and_parts (not (is_in xs x)) (is_distinct xs) d in
    let high = r x (or_left (x == x) _ (eq-eqb x x refl)) in
    let apart : (o : ℕ) → (x == o) ≡ true → is_in xs o ≡ true → ⊥ = λ o e i. both_ways (is_in xs o) (ap (is_in xs) (sym (eqb-true x o e)) ∙ not-true (is_in xs x) h.0) i in
    omega (
      arith,
      sum_same (λ o. cond ((x == o) || is_in xs o) (f o) 0) (λ o. cond (x == o) (f o) 0 + cond (is_in xs o) (f o) 0) (range_with_len 0 n) (λ o i. cell_or (x == o) (is_in xs o) (f o) (apart o)),
      sum_plus (λ o. cond (x == o) (f o) 0) (λ o. cond (is_in xs o) (f o) 0) (range_with_len 0 n),
      sum_single f x 0 n (omega arith) (omega (arith, high)),
      sum_in f n xs h.1 (λ o i. r o (or_right (x == o) _ i)),
      sum_by-cons f x xs,
    )

-- ---- by rows and by columns

row_part : (f : ℕ → ℕ) (in' : ℕ → Bool) (b : Bool) (is : List ℕ) → sum_by (λ i. cond (b && in' i) 1 0 * f i) is ≡ cond b (sum_by (λ i. cond (in' i) (f i) 0) is) 0
row_part f in' true is = sum_same (λ i. cond (in' i) 1 0 * f i) (λ i. cond (in' i) (f i) 0) is (λ i h. cell (in' i) (f i))
  where
    cell : (b : Bool) (n : ℕ) → ◌≡◌ {A = ℕ} (cond b 1 0 * n) (cond b n 0)
    cell true n = omega arith
    cell false n = omega arith
row_part f in' false is = sum_none (λ i. 0 * f i) is (λ i h. omega arith)

-- what the chosen rows weigh is what the columns weigh, each as often as chosen rows have it
pub sum_by_columns : (f : ℕ → ℕ) (has : ℕ → ℕ → Bool) (chosen : ℕ → Bool) (is os : List ℕ)
    → sum_by (λ o. cond (chosen o) (sum_by (λ i. cond (has o i) (f i) 0) is) 0) os ≡ sum_by (λ i. count_by (λ o. chosen o && has o i) os * f i) is
sum_by_columns f has chosen is [] = sym (sum_none (λ i. 0 * f i) is (λ i h. omega arith))
sum_by_columns f has chosen is (o ∷ os) =
    let one : ℕ → ℕ = λ i. cond (chosen o && has o i) 1 0 * f i in
    let rest : ℕ → ℕ = λ i. count_by (λ p. chosen p && has p i) os * f i in
    let both : (i : ℕ) → count_by (λ p. chosen p && has p i) (o ∷ os) * f i ≡ one i + rest i = λ i.
    ap (λ n. n * f i) (sum_by-cons (λ p. cond (chosen p && has p i) 1 0) o os) ∙ omega arith in
    omega (
      arith,
      sum_by-cons (λ p. cond (chosen p) (sum_by (λ i. cond (has p i) (f i) 0) is) 0) o os,
      sum_by_columns f has chosen is os,
      row_part f (has o) (chosen o) is,
      sum_plus one rest is,
      sum_same (λ i. count_by (λ p. chosen p && has p i) (o ∷ os) * f i) (λ i. one i + rest i) is (λ i h. both i),
    )

-- ---- a list by its places

pub sum_listed : (f : ℕ → ℕ) (start n : ℕ) (ws : List ℕ) → length ws ≤ n → ((k : ℕ) → f (start + k) ≡ get_or ws k 0) → sum_by f (range_with_len start n) ≡ sum ws
sum_listed f start zero [] short at = refl
sum_listed f start zero (w ∷ ws) short at = absurd (omega (arith, short))
sum_listed f start (suc n) [] short at =
    let first : f start ≡ 0 = ap f (omega arith) ∙ at 0 in
    let later = sum_listed f (start + 1) n [] (omega arith) (λ k. let e : start + 1 + k ≡ start + (k + 1) = omega arith in ap f e ∙ at (k + 1)) in
    omega (arith, sum_by-cons f start (range_with_len (start + 1) n), first, later)
sum_listed f start (suc n) (w ∷ ws) short at =
    let first : f start ≡ w = ap f (omega arith) ∙ at 0 in
    let later = sum_listed f (start + 1) n ws (omega (arith, short)) (λ k. let e : start + 1 + k ≡ start + suc k = omega arith in ap f e ∙ at (suc k)) in
    omega (arith, sum_by-cons f start (range_with_len (start + 1) n), sum_by-cons (λ x. x) w ws, first, later)
