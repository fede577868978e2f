-- Counting over a list of different numbers is counting over the set that it stands for.
use Rattle.std.proofs.Common.{◌≡◌, ℕ, zero, suc, ◌+◌, ◌<◌, ◌≤◌, Bool, true, false, not, ◌&&◌, ◌||◌, cond, ◌==◌, List, [], ◌∷◌, length, count_by, refl, sym, ap, ◌∙◌, ⊎_elim, inl, inr, arith}
use Rattle.std.proofs.lemmas.Bool.{eqb-true, eq-eqb, ne_eqb, or_left, or_right, and_parts, true≢false, not-true, cases_eq, cases_Bool}
use Rattle.std.proofs.lemmas.List.Sums.{sum_by-cons}
use Rattle.std.specs.List.{list_any, range_with_len}
use Rattle.cover_problem.specs.Problem.{Problem, names_item}
use Rattle.cover_problem.specs.Numbers.{is_in, is_distinct}
use Rattle.cover_problem.specs.ExactCover.{uses}
use Rattle.cover_problem.proofs.Among.{range_low}

pub count_none : (p : ℕ → Bool) (xs : List ℕ) → ((o : ℕ) → is_in xs o ≡ true → p o ≡ false) → count_by p xs ≡ 0
count_none p [] h = refl
count_none p (x ∷ xs) h =
    let here : ◌≡◌ {A = ℕ} (cond (p x) 1 0) 0 = ap (λ b. cond b 1 0) (h x (or_left (x == x) _ (eq-eqb x x refl))) in
    omega (arith, sum_by-cons (λ y. cond (p y) 1 0) x xs, here, count_none p xs (λ o e. h o (or_right (x == o) _ e)))

cell_or : (a b p : Bool) → (a ≡ true → b ≡ true → ⊥) → ◌≡◌ {A = ℕ} (cond ((a || b) && p) 1 0) (cond (a && p) 1 0 + cond (b && p) 1 0)
cell_or true true p h = absurd (h refl refl)
cell_or true false true h = refl
cell_or true false false h = refl
cell_or false true true h = refl
cell_or false true false h = refl
cell_or false false p h = refl

count_or : (a b p : ℕ → Bool) → ((o : ℕ) → a o ≡ true → b o ≡ true → ⊥) → (xs : List ℕ) → count_by (λ o. (a o || b o) && p o) xs ≡ count_by (λ o. a o && p o) xs + count_by (λ o. b o && p o) xs
count_or a b p h [] = refl
count_or a b p h (x ∷ xs) =
    omega (
      arith,
      sum_by-cons (λ o. cond ((a o || b o) && p o) 1 0) x xs,
      sum_by-cons (λ o. cond (a o && p o) 1 0) x xs,
      sum_by-cons (λ o. cond (b o && p o) 1 0) x xs,
      cell_or (a x) (b x) (p x) (h x),
      count_or a b p h xs,
    )

-- of the numbers of a range only x is x
count_single : (p : ℕ → Bool) (x start n : ℕ) → start ≤ x → x < start + n → count_by (λ o. (x == o) && p o) (range_with_len start n) ≡ cond (p x) 1 0
count_single p x start zero l m = absurd (omega (arith, l, m))
count_single p x start (suc n) l m =
    ⊎_elim
    (λ (e : x ≡ start).
    let none = count_none (λ o. (x == o) && p o) (range_with_len (start + 1) n) (λ o i. let low = range_low (start + 1) n o i in ap (λ b. b && p o) (ne_eqb x o (omega (arith, e, low)))) in
    let here : ◌≡◌ {A = ℕ} (cond ((x == start) && p start) 1 0) (cond (p x) 1 0) = ap (λ b. cond (b && p start) 1 0) (eq-eqb x start e) ∙ ap (λ k. cond (p k) 1 0) (sym e) in
    omega (arith, sum_by-cons (λ o. cond ((x == o) && p o) 1 0) start (range_with_len (start + 1) n), none, here))
    (λ (e : x ≡ start → ⊥).
    let none : ◌≡◌ {A = ℕ} (cond ((x == start) && p start) 1 0) 0 = ap (λ b. cond (b && p start) 1 0) (ne_eqb x start e) in
    let rest = count_single p x (start + 1) n (omega (arith, l, e)) (omega (arith, m)) in
    omega (arith, sum_by-cons (λ o. cond ((x == o) && p o) 1 0) start (range_with_len (start + 1) n), none, rest))
    (cases_eq x start)

pub count_in : (p : ℕ → Bool) (n : ℕ) (xs : List ℕ) → is_distinct xs ≡ true → ((o : ℕ) → is_in xs o ≡ true → o < n) → count_by (λ o. is_in xs o && p o) (range_with_len 0 n) ≡ count_by p xs
count_in p n [] d r = count_none (λ o. false && p o) (range_with_len 0 n) (λ o i. refl)
count_in p n (x ∷ xs) d r =
    let h = and_parts (not (is_in xs x)) (is_distinct xs) d in
    let high = r x (or_left (x == x) _ (eq-eqb x x refl)) in
    omega (
      arith,
      count_or (λ o. x == o) (λ o. is_in xs o) p (λ o e i. true≢false (sym i ∙ ap (is_in xs) (sym (eqb-true x o e)) ∙ not-true (is_in xs x) h.0)) (range_with_len 0 n),
      count_single p x 0 n (omega arith) (omega (arith, high)),
      count_in p n xs h.1 (λ o i. r o (or_right (x == o) _ i)),
      sum_by-cons (λ o. cond (p o) 1 0) x xs,
    )

-- how many options of the list name the item
pub uses_of_list : (problem : Problem) (options : List ℕ) (item : ℕ) → is_distinct options ≡ true → ((o : ℕ) → is_in options o ≡ true → o < length problem.options)
    → uses problem (is_in options) item ≡ count_by (λ o. names_item problem o item) options
uses_of_list problem options item d r = count_in (λ o. names_item problem o item) (length problem.options) options d r

-- if all numbers that pass are one, at most one passes
pub count_at_most : (p : ℕ → Bool) (start n : ℕ) → ((a b : ℕ) → p a ≡ true → p b ≡ true → a ≡ b) → count_by p (range_with_len start n) ≤ 1
count_at_most p start zero h = omega arith
count_at_most p start (suc n) h = go (p start) refl (count_at_most p (start + 1) n h)
  where
    go : (b : Bool) → p start ≡ b → count_by p (range_with_len (start + 1) n) ≤ 1 → count_by p (range_with_len start (suc n)) ≤ 1
    go true e l =
        let none = count_none p (range_with_len (start + 1) n) (λ o i. off o i (p o) refl) in
        let here : ◌≡◌ {A = ℕ} (cond (p start) 1 0) 1 = ap (λ b. cond b 1 0) e in
        omega (arith, sum_by-cons (λ o. cond (p o) 1 0) start (range_with_len (start + 1) n), none, here)
      where
        off : (o : ℕ) → is_in (range_with_len (start + 1) n) o ≡ true → (b : Bool) → p o ≡ b → p o ≡ false
        off o i false q = q
        off o i true q = let low = range_low (start + 1) n o i in absurd (omega (arith, low, h o start q e))
    go false e l =
        let here : ◌≡◌ {A = ℕ} (cond (p start) 1 0) 0 = ap (λ b. cond b 1 0) e in
        omega (arith, sum_by-cons (λ o. cond (p o) 1 0) start (range_with_len (start + 1) n), l, here)

-- none passes where the count is 0
pub none_counted : (p : ℕ → Bool) (xs : List ℕ) → not (list_any p xs) ≡ (count_by p xs == 0)
none_counted p [] = refl
none_counted p (x ∷ xs) =
    elim (cases_Bool (p x)) [
      | inl passes ↦
          let here : ◌≡◌ {A = ℕ} (cond (p x) 1 0) 1 = ap (λ b. cond b 1 0) passes in
          let some : count_by p (x ∷ xs) ≡ 0 → ⊥ = λ e. absurd (omega (arith, e, here, sum_by-cons (λ y. cond (p y) 1 0) x xs)) in
          ap (λ b. not (b || list_any p xs)) passes ∙ sym (ne_eqb (count_by p (x ∷ xs)) 0 some)
      | inr fails ↦
          let here : ◌≡◌ {A = ℕ} (cond (p x) 1 0) 0 = ap (λ b. cond b 1 0) fails in
          let same : count_by p xs ≡ count_by p (x ∷ xs) = omega (arith, here, sum_by-cons (λ y. cond (p y) 1 0) x xs) in
          ap (λ b. not (b || list_any p xs)) fails ∙ none_counted p xs ∙ ap (λ n. n == 0) same
    ]
