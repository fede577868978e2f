-- The branch item has fewest live options, and is the first that has so few.
use Rattle.std.proofs.Common.{◌≡◌, ℕ, zero, suc, ◌+◌, ◌<◌, ◌≤◌, Bool, true, false, not, ◌==◌, cond, nat_lt, List, [], ◌∷◌, length, filter, Some, None, refl, sym, ap, ◌∙◌, arith, ◌⊎◌, inl, inr, ⊎_elim}
use Rattle.std.specs.List.{range_with_len}
use Rattle.std.proofs.lemmas.Option.{same_Some, none-some}
use Rattle.std.proofs.lemmas.Bool.{eqb-true, eq-eqb, or_cases, or_left, or_right, both_ways, ltb-true, ltb-false}
use Rattle.cover_problem.specs.Problem.{Problem}
use Rattle.cover_problem.specs.Numbers.{is_in}
use Rattle.cover_problem.specs.Prefix.{is_covered}
use Rattle.cover_problem.specs.Branching.{live_options, open_items, fewest_of, branch_item, IsFirstFewest}
use Rattle.cover_problem.proofs.Prefixes.{branch_is_open, open_in}

-- each number of the list is above the one before it, and the first above this one
abbrev Ascends : ℕ → List ℕ → Type 0
Ascends low [] = Unit {0}
Ascends low (x ∷ xs) = (low < x) × Ascends x xs

abbrev Ascending : List ℕ → Type 0
Ascending [] = Unit {0}
Ascending (x ∷ xs) = Ascends x xs

ascends_over : (low x : ℕ) (xs : List ℕ) → low < x → Ascends x xs → Ascends low xs
ascends_over low x [] l a = tt
ascends_over low x (y ∷ ys) l a = let m = a.0 in (omega (arith, l, m), a.1)

ascends_from : (test : ℕ → Bool) (low start n : ℕ) → low < start → Ascends low (filter test (range_with_len start n))
ascends_from test low start zero l = tt
ascends_from test low start (suc n) l = go (test start) (ascends_from test start (start + 1) n (omega arith)) (ascends_from test low (start + 1) n (omega (arith, l)))
  where
    go : (b : Bool) → Ascends start (filter test (range_with_len (start + 1) n)) → Ascends low (filter test (range_with_len (start + 1) n))
        → Ascends low (cond b (start ∷ filter test (range_with_len (start + 1) n)) (filter test (range_with_len (start + 1) n)))
    go true above rest = (l, above)
    go false above rest = rest

ascending_from : (test : ℕ → Bool) (start n : ℕ) → Ascending (filter test (range_with_len start n))
ascending_from test start zero = tt
ascending_from test start (suc n) = go (test start) (ascends_from test start (start + 1) n (omega arith)) (ascending_from test (start + 1) n)
  where
    go : (b : Bool) → Ascends start (filter test (range_with_len (start + 1) n)) → Ascending (filter test (range_with_len (start + 1) n))
        → Ascending (cond b (start ∷ filter test (range_with_len (start + 1) n)) (filter test (range_with_len (start + 1) n)))
    go true above rest = above
    go false above rest = rest

open_ascending : (p : Problem) (xs : List ℕ) → Ascending (open_items p xs)
unfolding open_items
open_ascending p xs = ascending_from (λ j. not (is_covered p xs j)) 0 p.primary

-- ---- going over the open items

module _ (p : Problem) (xs : List ℕ) where
  record Least (os : List ℕ) (i : ℕ) : Type 0 where
    fewest : (j : ℕ) → is_in os j ≡ true → length (live_options p xs i) ≤ length (live_options p xs j)
    before : (j : ℕ) → is_in os j ≡ true → j < i → length (live_options p xs i) < length (live_options p xs j)

  head_or : (x : ℕ) (os : List ℕ) (j : ℕ) → is_in (x ∷ os) j ≡ true → (x ≡ j) ⊎ (is_in os j ≡ true)
  head_or x os j h = ⊎_elim (λ (e : (x == j) ≡ true). inl (eqb-true x j e)) (λ (e : is_in os j ≡ true). inr e) (or_cases (x == j) (is_in os j) h)

  at_head : (x : ℕ) (os : List ℕ) → is_in (x ∷ os) x ≡ true
  at_head x os = or_left (x == x) (is_in os x) (eq-eqb x x refl)

  -- the next item has fewer: it takes the place of the best
  take_next : (best x : ℕ) (is : List ℕ) (i : ℕ) → length (live_options p xs x) < length (live_options p xs best) → Least (x ∷ is) i → Least (best ∷ x ∷ is) i
  take_next best x is i l h = record {
    fewest = λ j e. ⊎_elim
        (λ (s : best ≡ j). let m = h.fewest x (at_head x is) in let t = ap (λ k. length (live_options p xs k)) s in omega (arith, l, m, t))
        (λ (r : is_in (x ∷ is) j ≡ true). h.fewest j r)
        (head_or best (x ∷ is) j e);
    before = λ j e less. ⊎_elim
        (λ (s : best ≡ j). let m = h.fewest x (at_head x is) in let t = ap (λ k. length (live_options p xs k)) s in omega (arith, l, m, t))
        (λ (r : is_in (x ∷ is) j ≡ true). h.before j r less)
        (head_or best (x ∷ is) j e);
  }

  keep_best : (best x : ℕ) (is : List ℕ) (i : ℕ) → best < x → length (live_options p xs best) ≤ length (live_options p xs x) → Least (best ∷ is) i → Least (best ∷ x ∷ is) i
  keep_best best x is i up l h = record {
    fewest = λ j e. ⊎_elim
        (λ (s : best ≡ j). h.fewest j (or_left (best == j) (is_in is j) (eq-eqb best j s)))
        (λ (r : is_in (x ∷ is) j ≡ true). ⊎_elim
        (λ (s : x ≡ j). let m = h.fewest best (at_head best is) in let t = ap (λ k. length (live_options p xs k)) s in omega (arith, l, m, t))
        (λ (q : is_in is j ≡ true). h.fewest j (or_right (best == j) (is_in is j) q))
        (head_or x is j r))
        (head_or best (x ∷ is) j e);
    before = λ j e less. ⊎_elim
        (λ (s : best ≡ j). h.before j (or_left (best == j) (is_in is j) (eq-eqb best j s)) less)
        (λ (r : is_in (x ∷ is) j ≡ true). ⊎_elim
        (λ (s : x ≡ j). let m = h.before best (at_head best is) (omega (arith, up, s, less)) in let t = ap (λ k. length (live_options p xs k)) s in omega (arith, l, m, t))
        (λ (q : is_in is j ≡ true). h.before j (or_right (best == j) (is_in is j) q) less)
        (head_or x is j r))
        (head_or best (x ∷ is) j e);
  }

  only_one : (best i : ℕ) → best ≡ i → Least (best ∷ []) i
  only_one best i e = record {
    fewest = λ j h. ⊎_elim
        (λ (s : best ≡ j). let t = ap (λ k. length (live_options p xs k)) (sym e ∙ s) in omega (arith, t))
        (λ (r : is_in [] j ≡ true). absurd (both_ways false refl r))
        (head_or best [] j h);
    before = λ j h less. ⊎_elim
        (λ (s : best ≡ j). absurd (omega (arith, s, e, less)))
        (λ (r : is_in [] j ≡ true). absurd (both_ways false refl r))
        (head_or best [] j h);
  }

  least_of : (is : List ℕ) (best i : ℕ) → Ascends best is → fewest_of p xs (Some best) is ≡ Some i → Least (best ∷ is) i
  least_of [] best i a e = only_one best i (same_Some best i e)
  least_of (x ∷ is) best i a e =
      go (nat_lt (length (live_options p xs x)) (length (live_options p xs best))) refl e
      (λ b a' e'. least_of is b i a' e')
    where
      go : (b : Bool) → nat_lt (length (live_options p xs x)) (length (live_options p xs best)) ≡ b → fewest_of p xs (Some (cond b x best)) is ≡ Some i
          → ((b : ℕ) → Ascends b is → fewest_of p xs (Some b) is ≡ Some i → Least (b ∷ is) i) → Least (best ∷ x ∷ is) i
      go true t e' rest = take_next best x is i (ltb-true _ _ t) (rest x a.1 e')
      go false t e' rest = keep_best best x is i a.0 (ltb-false _ _ t) (rest best (ascends_over best x is a.0 a.1) e')

  pub branch_fewest : (i : ℕ) → branch_item p xs ≡ Some i → IsFirstFewest p xs i
  unfolding branch_item
  branch_fewest i e = go (open_items p xs) refl (open_ascending p xs) e
    where
      go : (os : List ℕ) → open_items p xs ≡ os → Ascending os → fewest_of p xs None os ≡ Some i → IsFirstFewest p xs i
      go [] q a e' = absurd (none-some i e')
      go (x ∷ is) q a e' =
          let h = least_of is x i a e' in
          record {
            open_item = branch_is_open p xs i e;
            fewest = λ j o. h.fewest j (ap (λ os. is_in os j) (sym q) ∙ open_in p xs j o);
            before = λ j o less. h.before j (ap (λ os. is_in os j) (sym q) ∙ open_in p xs j o) less;
          }
