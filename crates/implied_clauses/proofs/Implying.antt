-- Clauses, literal by literal, and what each exact cover makes of them.
use Rattle.std.proofs.Common.{◌≡◌, ℕ, zero, suc, ◌+◌, ◌<◌, Bool, true, false, ◌&&◌, ◌||◌, ◌==◌, if◌then◌else◌, cond, IfSome, List, [], ◌∷◌, ◌++◌, length, filter, set, Option, Some, None, refl, sym, ap, ◌∙◌, inl, inr, arith, map, not}
use Rattle.std.proofs.lemmas.Bool.{and_parts, or_cases, or_left, or_right, both_ways, eqb-true, false_from_ne_true, true≢false, not-true, not_from_false}
use Rattle.std.proofs.lemmas.List.Elements.{All-append, All-cons, All-set}
use Rattle.std.specs.List.{range_with_len}
use Rattle.cover_problem.specs.ExactCover.{IsExactCover}
use Rattle.cover_problem.specs.Numbers.{is_in}
use Rattle.cover_problem.specs.Prefix.{extends, IsBarren, IsCoverOver}
use Rattle.cover_problem.specs.Problem.{Problem, names_item, option_numbers}
use Rattle.cover_problem.specs.Search.{first}
use Rattle.cover_problem.proofs.Sets.{count_some}
use Rattle.implied_clauses.specs.Clauses.{satisfies, put_at, AreImplied, IsImplied, item_clause, item_clauses}
use Rattle.implied_clauses.specs.declared.literal.Literal.{Literal}
use Rattle.implied_clauses.specs.declared.literal.Literal.TheVariants.{Chosen, Left}

-- ---- the clause of an item

-- a set with an option that the filter keeps satisfies the filtered list
satisfies_kept : (chosen kept : ℕ → Bool) (xs : List ℕ) (o : ℕ) → is_in xs o ≡ true → kept o ≡ true → chosen o ≡ true
    → satisfies chosen (map (λ option. Chosen option) (filter kept xs)) ≡ true
satisfies_kept chosen kept [] o inside ko co = absurd (true≢false (sym inside))
satisfies_kept chosen kept (x ∷ xs) o inside ko co = go (kept x) refl (λ h. satisfies_kept chosen kept xs o h ko co)
  where
    go : (b : Bool) → kept x ≡ b → (is_in xs o ≡ true → satisfies chosen (map (λ option. Chosen option) (filter kept xs)) ≡ true)
        → satisfies chosen (map (λ option. Chosen option) (cond b (x ∷ filter kept xs) (filter kept xs))) ≡ true
    go true e later = elim (or_cases (x == o) (is_in xs o) inside) [
      | inl here ↦ or_left (chosen x) _ (ap chosen (eqb-true x o here) ∙ co)
      | inr there ↦ or_right (chosen x) _ (later there)
    ]
    go false e later = elim (or_cases (x == o) (is_in xs o) inside) [
      | inl here ↦ absurd (both_ways (kept x) e (ap kept (eqb-true x o here) ∙ ko))
      | inr there ↦ later there
    ]

pub item_implied : (p : Problem) (item : ℕ) → item < p.primary → IsImplied p (item_clause p item)
item_implied p item low chosen cover =
    let once = cover.primary item low in
    let w = count_some (λ o. chosen o && names_item p o item) (option_numbers p) (omega (arith, once)) in
    let both = and_parts (chosen w.0) (names_item p w.0 item) w.2 in
    satisfies_kept chosen (λ o. names_item p o item) (option_numbers p) w.0 w.1 both.1 both.0

implied_from : (p : Problem) (a n : ℕ) → ((item : ℕ) → item < a + n → IsImplied p (item_clause p item)) → AreImplied p (map (λ item. Some (item_clause p item)) (range_with_len a n))
implied_from p a zero each = λ k d low. absurd (omega (arith, low))
implied_from p a (suc n) each =
    All-cons (λ slot. IfSome slot (IsImplied p)) (Some (item_clause p a)) _ (each a (omega arith)) (implied_from p (a + 1) n (λ item low. each item (omega (arith, low))))

pub items_implied : (p : Problem) → AreImplied p (item_clauses p)
items_implied p = implied_from p 0 p.primary (λ item low. item_implied p item (omega (arith, low)))

-- ---- a refuted problem

pub none : (p : Problem) (chosen : ℕ → Bool) → IsImplied p [] → IsExactCover p chosen → ⊥
none p chosen refuted cover = true≢false (sym (refuted chosen cover))

pub none_found : (p : Problem) → IsImplied p [] → ((cover : List ℕ) → first p [] ≡ Some cover → IsCoverOver p [] cover) → first p [] ≡ None
none_found p refuted found = go (first p []) refl
  where
    go : (r : Option (List ℕ)) → first p [] ≡ r → first p [] ≡ None
    go None e = e
    go (Some cover) e = absurd (none p (is_in cover) refuted (found cover e).cover)

-- ---- a barren prefix

left_some : (chosen : ℕ → Bool) (xs : List ℕ) → satisfies chosen (map (λ o. Left o) xs) ≡ not (extends chosen xs)
left_some chosen [] = refl
left_some chosen (x ∷ xs) = go (chosen x) (left_some chosen xs)
  where
    go : (b : Bool) → satisfies chosen (map (λ o. Left o) xs) ≡ not (extends chosen xs) → (not b || satisfies chosen (map (λ o. Left o) xs)) ≡ not (b && extends chosen xs)
    go true later = later
    go false later = refl

pub barren_implied : (p : Problem) (prefix : List ℕ) → IsBarren p prefix → IsImplied p (map (λ o. Left o) prefix)
barren_implied p prefix barren chosen cover =
    left_some chosen prefix ∙ not_from_false (extends chosen prefix) (false_from_ne_true (extends chosen prefix) (λ over. barren chosen cover over))

pub implied_barren : (p : Problem) (prefix : List ℕ) → IsImplied p (map (λ o. Left o) prefix) → IsBarren p prefix
implied_barren p prefix implied chosen cover over =
    both_ways (extends chosen prefix) (not-true (extends chosen prefix) (sym (left_some chosen prefix) ∙ implied chosen cover)) over

-- ---- the list of clauses

abbrev IsSlot : Problem → Option (List Literal) → Type 0
IsSlot p slot = IfSome slot (IsImplied p)

pub put_implied : (p : Problem) (xs : List (Option (List Literal))) (place : ℕ) (clause : List Literal) → AreImplied p xs → IsImplied p clause → AreImplied p (put_at xs place (Some clause))
put_implied p xs place clause all here = go (place == length xs)
  where
    go : (b : Bool) → AreImplied p (if b then xs ++ Some clause ∷ [] else set xs place (Some clause))
    go true = All-append (IsSlot p) xs (Some clause ∷ []) all (All-cons (IsSlot p) (Some clause) [] here (λ k d low. absurd (omega (arith, low))))
    go false = All-set (IsSlot p) xs place (Some clause) here all

pub refuted_by : (p : Problem) (refuted : Bool) (clause : List Literal) → (refuted ≡ true → IsImplied p []) → IsImplied p clause → (refuted || (length clause == 0)) ≡ true → IsImplied p []
refuted_by p refuted [] before here h = here
refuted_by p refuted (l ∷ ls) before here h =
    elim (or_cases refuted (length (l ∷ ls) == 0) h) [
      | inl e ↦ before e
      | inr e ↦ let none_left = eqb-true (length (l ∷ ls)) 0 e in absurd (omega (arith, none_left))
    ]
