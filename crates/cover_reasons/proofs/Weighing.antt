-- Weights that exclude an exact cover: the options of a cover would weigh as much as all items together.
use Rattle.std.proofs.Common.{◌≡◌, ℕ, ◌*◌, ◌%◌, ◌<◌, ◌≤◌, Bool, true, false, not, ◌&&◌, cond, nat_le, nat_lt, List, [], length, Option, Some, None, refl, sym, ap, ◌∙◌, subst, inl, inr, arith}
use Rattle.std.specs.List.{list_all, range_with_len, sum_by}
use Rattle.std.proofs.lemmas.Bool.{both_ways, cases_Bool, cases_lt, and_parts, eqb-true, eq-eqb, not-true, leb-true, ltb-true}
use Rattle.std.proofs.lemmas.List.{get_or_past}
use Rattle.std.proofs.lemmas.Nat.Gcd.{dvd-zero, dvd_of_mod-eq-zero, mod-eq-zero_of_dvd}
use Rattle.std.specs.Int.{◌∣◌}
use Rattle.cover_problem.specs.ExactCover.{IsExactCover, uses}
use Rattle.cover_problem.specs.Numbers.{is_in}
use Rattle.cover_problem.specs.Prefix.{IsCoverOver}
use Rattle.cover_problem.specs.Problem.{Problem, IsProblem, items_of, names_item, option_numbers}
use Rattle.cover_problem.specs.Search.{first}
use Rattle.cover_problem.proofs.Among.{all_at, range_in}
use Rattle.cover_reasons.specs.Weights.{Weights, weight_of, option_weight, whole_weight, is_zero, excludes}
use Rattle.cover_reasons.proofs.Sums.{sum_same, sum_divides, sum_in, sum_by_columns, sum_listed}

-- ---- a set of options, each of which weighs 0, that names each item with a weight once

module _ (p : Problem) (w : Weights) (chosen : ℕ → Bool) (lawful : IsProblem p) (short : length w.list ≤ p.primary) (odd : is_zero w (whole_weight w) ≡ false)
    (in_range : (o : ℕ) → chosen o ≡ true → o < length p.options) (each : (o : ℕ) → chosen o ≡ true → is_zero w (option_weight p w o) ≡ true)
    (once : (i : ℕ) → uses p chosen i * weight_of w i ≡ weight_of w i) where
  abbrev all : ℕ
  all = length p.names

  abbrev items : List ℕ
  items = range_with_len 0 all

  -- an option weighs what its items weigh, taken from all items
  by_items : (o : ℕ) → o < length p.options → sum_by (λ i. cond (names_item p o i) (weight_of w i) 0) items ≡ option_weight p w o
  by_items o low =
      sum_in (weight_of w) all (items_of p o) (lawful.each_distinct o [] low)
      (λ i on_o. ltb-true i all (all_at (λ j. nat_lt j all) (items_of p o) i (lawful.each_named o [] low) on_o))

  -- what an option of the set weighs, and nothing for another
  abbrev of_set : ℕ → ℕ
  of_set o = cond (chosen o) (sum_by (λ i. cond (names_item p o i) (weight_of w i) 0) items) 0

  balanced : (o : ℕ) → is_in (option_numbers p) o ≡ true → w.modulus ∣ of_set o
  balanced o h =
      elim (cases_Bool (chosen o)) [
        | inl taken ↦
            let zero_weight = eqb-true (option_weight p w o % w.modulus) 0 (each o taken) in
            let same : of_set o ≡ option_weight p w o = ap (λ b. cond b (sum_by (λ i. cond (names_item p o i) (weight_of w i) 0) items) 0) taken ∙ by_items o (in_range o taken) in
            subst (λ n. w.modulus ∣ n) (sym same) (dvd_of_mod-eq-zero w.modulus zero_weight)
        | inr left ↦
            let nothing : of_set o ≡ 0 = ap (λ b. cond b (sum_by (λ i. cond (names_item p o i) (weight_of w i) 0) items) 0) left in
            subst (λ n. w.modulus ∣ n) (sym nothing) (dvd-zero w.modulus)
      ]

  whole : sum_by of_set (option_numbers p) ≡ whole_weight w
  whole =
      sum_by_columns (weight_of w) (names_item p) chosen items (option_numbers p)
      ∙ sum_same (λ i. uses p chosen i * weight_of w i) (weight_of w) items (λ i h. once i)
      ∙ sum_listed (weight_of w) 0 all w.list (omega (arith, short, lawful.primary)) (λ k. ap (weight_of w) (omega arith))

  pub none_balanced : ⊥
  none_balanced =
      let divides = subst (λ n. w.modulus ∣ n) whole (sum_divides w.modulus of_set (option_numbers p) balanced) in
      both_ways (is_zero w (whole_weight w)) odd (eq-eqb (whole_weight w % w.modulus) 0 (mod-eq-zero_of_dvd w.modulus divides))

-- ---- an exact cover is one

module _ (p : Problem) (w : Weights) (chosen : ℕ → Bool) (lawful : IsProblem p) (ok : excludes p w ≡ true) (cover : IsExactCover p chosen) where
  outer : (nat_le (length w.list) p.primary && not (is_zero w (whole_weight w)) ≡ true) × (list_all (λ o. is_zero w (option_weight p w o)) (option_numbers p) ≡ true)
  outer = and_parts _ _ ok

  inner : (nat_le (length w.list) p.primary ≡ true) × (not (is_zero w (whole_weight w)) ≡ true)
  inner = and_parts _ _ outer.0

  short : length w.list ≤ p.primary
  short = leb-true (length w.list) p.primary inner.0

  each : (o : ℕ) → chosen o ≡ true → is_zero w (option_weight p w o) ≡ true
  each o taken = all_at (λ x. is_zero w (option_weight p w x)) (option_numbers p) o outer.1 (range_in 0 (length p.options) o (omega arith) (omega (arith, cover.in_range o taken)))

  -- the cover names each item that weighs something once
  once : (i : ℕ) → uses p chosen i * weight_of w i ≡ weight_of w i
  once i =
      elim (cases_lt i p.primary) [
        | inl low ↦ ap (λ n. n * weight_of w i) (cover.primary i low) ∙ omega arith
        | inr high ↦
            let nothing : weight_of w i ≡ 0 = get_or_past w.list i 0 (omega (arith, short, high)) in
            omega (arith, nothing, ap (λ n. uses p chosen i * n) nothing)
      ]

  pub none : ⊥
  none = none_balanced p w chosen lawful short (not-true (is_zero w (whole_weight w)) inner.1) cover.in_range each once

-- so a search finds none
pub none_found : (p : Problem) (w : Weights) → IsProblem p → excludes p w ≡ true → ((cover : List ℕ) → first p [] ≡ Some cover → IsCoverOver p [] cover) → first p [] ≡ None
none_found p w lawful ok found = go (first p []) refl
  where
    go : (r : Option (List ℕ)) → first p [] ≡ r → first p [] ≡ None
    go None e = e
    go (Some cover) e = absurd (none p w (is_in cover) lawful ok (found cover e).cover)
