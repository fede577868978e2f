-- The bound of a search is no matter where it is at least the number of uncovered primary items.
use Rattle.std.proofs.Common.{◌≡◌, ℕ, zero, suc, ◌+◌, ◌<◌, ◌≤◌, List, [], ◌∷◌, ◌++◌, length, map, true, ◌==◌, cond, Option, Some, None, is_some, refl, sym, ◌∙◌, ap, arith}
use Rattle.std.proofs.lemmas.Bool.{eq-eqb, or_left, or_right}
use Rattle.cover_problem.specs.Problem.{Problem, option_numbers}
use Rattle.cover_problem.specs.Numbers.{is_in}
use Rattle.cover_problem.specs.Branching.{is_choice, live_options, open_items, fewest_of, branch_item, children, children_at}
use Rattle.cover_problem.specs.Search.{or_else, first_some, visits_until, first_within, visits_within, first, visits}
use Rattle.cover_problem.proofs.Among.{in_filter, range_high}
use Rattle.cover_problem.proofs.Prefixes.{open_fewer, open_few}
use Rattle.cover_problem.proofs.Steps.{Came, within_none}

first_same : (f g : ℕ → Option (List ℕ)) (os : List ℕ) → ((o : ℕ) → is_in os o ≡ true → f o ≡ g o) → first_some f os ≡ first_some g os
first_same f g [] h = refl
first_same f g (o ∷ os) h = (λ i. or_else (h o (or_left (o == o) (is_in os o) (eq-eqb o o refl)) i) (first_same f g os (λ x e. h x (or_right (o == x) (is_in os x) e)) i))

visits_same : (f g : ℕ → Option (List ℕ)) (u v : ℕ → ℕ) (os : List ℕ) → ((o : ℕ) → is_in os o ≡ true → f o ≡ g o) → ((o : ℕ) → is_in os o ≡ true → u o ≡ v o) → visits_until f u os ≡ visits_until g v os
visits_same f g u v [] h k = refl
visits_same f g u v (o ∷ os) h k =
    let here = or_left (o == o) (is_in os o) (eq-eqb o o refl) in
    let rest = visits_same f g u v os (λ x e. h x (or_right (o == x) (is_in os x) e)) (λ x e. k x (or_right (o == x) (is_in os x) e)) in
    (λ i. k o here i + cond (is_some (h o here i)) 0 (rest i))

pub first_map : (f : List ℕ → Option (List ℕ)) (g : ℕ → List ℕ) (os : List ℕ) → first_some f (map g os) ≡ first_some (λ o. f (g o)) os
first_map f g [] = refl
first_map f g (o ∷ os) = ap (or_else (f (g o))) (first_map f g os)

visits_map : (f : List ℕ → Option (List ℕ)) (u : List ℕ → ℕ) (g : ℕ → List ℕ) (os : List ℕ) → visits_until f u (map g os) ≡ visits_until (λ o. f (g o)) (λ o. u (g o)) os
visits_map f u g [] = refl
visits_map f u g (o ∷ os) = ap (λ n. u (g o) + cond (is_some (f (g o))) 0 n) (visits_map f u g os)

-- an option of the live options that name the item
pub record IsChoice (p : Problem) (xs : List ℕ) (i o : ℕ) : Type 0 where
  pub within : o < length p.options
  pub choice : is_choice p xs i o ≡ true

pub choice_at : (p : Problem) (xs : List ℕ) (i o : ℕ) → is_in (live_options p xs i) o ≡ true → IsChoice p xs i o
unfolding live_options
choice_at p xs i o h =
    let both = in_filter (is_choice p xs i) (option_numbers p) o h in
    let high = range_high 0 (length p.options) o both.0 in
    record { within = omega (arith, high); choice = both.1 }

pub empty : (is : List ℕ) → length is ≤ 0 → is ≡ []
empty [] h = refl
empty (i ∷ is) h = absurd (omega arith)

no_branch : (p : Problem) (xs : List ℕ) → length (open_items p xs) ≤ 0 → branch_item p xs ≡ None
unfolding branch_item
no_branch p xs h = ap (fewest_of p xs None) (empty (open_items p xs) h)

pub within_suc : (p : Problem) (depth : ℕ) (xs : List ℕ) (i : ℕ) → branch_item p xs ≡ Some i
    → Came p (suc depth) xs (first_some (λ o. first_within p depth (xs ++ o ∷ [])) (live_options p xs i)) (1 + visits_until (λ o. first_within p depth (xs ++ o ∷ [])) (λ o. visits_within p depth (xs ++ o ∷ [])) (live_options p xs i))
unfolding first_within visits_within
within_suc p depth xs i e = record { found = rw e refl; visits = rw e refl }

both_none : (p : Problem) (d e : ℕ) (xs : List ℕ) → branch_item p xs ≡ None → Came p d xs (first_within p e xs) (visits_within p e xs)
both_none p d e xs h =
    let one = within_none p d xs h in
    let two = within_none p e xs h in
    record { found = one.found ∙ sym two.found; visits = one.visits ∙ sym two.visits }

pub stable : (p : Problem) (d e : ℕ) (xs : List ℕ) → length (open_items p xs) ≤ d → length (open_items p xs) ≤ e → Came p d xs (first_within p e xs) (visits_within p e xs)
stable p zero e xs l m = both_none p zero e xs (no_branch p xs l)
stable p (suc d) zero xs l m = both_none p (suc d) zero xs (no_branch p xs m)
stable p (suc d) (suc e) xs l m = go (branch_item p xs) refl (λ o l' m'. stable p d e (xs ++ o ∷ []) l' m')
  where
    go : (b : Option ℕ) → branch_item p xs ≡ b
        → ((o : ℕ) → length (open_items p (xs ++ o ∷ [])) ≤ d → length (open_items p (xs ++ o ∷ [])) ≤ e → Came p d (xs ++ o ∷ []) (first_within p e (xs ++ o ∷ [])) (visits_within p e (xs ++ o ∷ [])))
        → Came p (suc d) xs (first_within p (suc e) xs) (visits_within p (suc e) xs)
    go None h below = both_none p (suc d) (suc e) xs h
    go (Some i) h below =
        let one = within_suc p d xs i h in
        let two = within_suc p e xs i h in
        let each : (o : ℕ) → is_in (live_options p xs i) o ≡ true → Came p d (xs ++ o ∷ []) (first_within p e (xs ++ o ∷ [])) (visits_within p e (xs ++ o ∷ [])) =
        λ o it. let less = open_fewer p xs i o h (choice_at p xs i o it).choice in below o (omega (arith, less, l)) (omega (arith, less, m))
        in
        let firsts = first_same (λ o. first_within p d (xs ++ o ∷ [])) (λ o. first_within p e (xs ++ o ∷ [])) (live_options p xs i) (λ o it. (each o it).found) in
        let counts =
        visits_same (λ o. first_within p d (xs ++ o ∷ [])) (λ o. first_within p e (xs ++ o ∷ [])) (λ o. visits_within p d (xs ++ o ∷ [])) (λ o. visits_within p e (xs ++ o ∷ [])) (live_options p xs i)
        (λ o it. (each o it).found) (λ o it. (each o it).visits)
        in
        record { found = one.found ∙ firsts ∙ sym two.found; visits = one.visits ∙ ap (λ n. 1 + n) counts ∙ sym two.visits }

-- one more than the bound of First and visits
suc_bound : (p : Problem) (xs : List ℕ) → Came p (suc p.primary) xs (first p xs) (visits p xs)
suc_bound p xs = let few = open_few p xs in stable p (suc p.primary) p.primary xs (omega (arith, few)) few

pub first_complete : (p : Problem) (xs : List ℕ) → branch_item p xs ≡ None → first p xs ≡ Some xs
first_complete p xs h = (within_none p p.primary xs h).found

pub first_children : (p : Problem) (xs : List ℕ) (i : ℕ) → branch_item p xs ≡ Some i → first p xs ≡ first_some (first p) (children p xs)
first_children p xs i h =
    sym (suc_bound p xs).found ∙ (within_suc p p.primary xs i h).found
    ∙ sym (first_map (first p) (λ o. xs ++ o ∷ []) (live_options p xs i))
    ∙ ap (λ b. first_some (first p) (children_at p xs b)) (sym h)

pub visits_children : (p : Problem) (xs : List ℕ) → visits p xs ≡ 1 + visits_until (first p) (visits p) (children p xs)
visits_children p xs = go (branch_item p xs) refl
  where
    go : (b : Option ℕ) → branch_item p xs ≡ b → visits p xs ≡ 1 + visits_until (first p) (visits p) (children_at p xs b)
    go None h = (within_none p p.primary xs h).visits
    go (Some i) h =
        sym (suc_bound p xs).visits ∙ (within_suc p p.primary xs i h).visits
        ∙ ap (λ n. 1 + n) (sym (visits_map (first p) (visits p) (λ o. xs ++ o ∷ []) (live_options p xs i)))
