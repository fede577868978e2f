-- A visit over the children of a prefix, one by one.
use Rattle.std.proofs.Common.{◌≡◌, ℕ, zero, suc, ◌+◌, ◌-◌, ◌<◌, ◌≤◌, List, [], ◌∷◌, ◌++◌, length, true, not, Option, Some, None, get_or, take, refl, arith, sym, ap, ◌∙◌, slice_get, subst}
use Rattle.std.proofs.lemmas.Bool.{and_from, and_parts, not-true, not_from_false}
use Rattle.cover_problem.specs.Branching.{branch_item, is_choice, live_options}
use Rattle.cover_problem.specs.Onward.{live_options_from, first_among, visits_among}
use Rattle.cover_problem.specs.Prefix.{clash, is_live, is_prefix, are_options, are_apart}
use Rattle.cover_problem.specs.Problem.{Problem, names_item}
use Rattle.cover_problem.specs.Search.{first, visits}
use Rattle.cover_problem.proofs.Among.{all_at}
use Rattle.cover_problem.proofs.Clashes.{clash_both}
use Rattle.cover_problem.proofs.Colours.{get_in}
use Rattle.cover_problem.proofs.Prefixes.{open_few}
use Rattle.cover_problem.proofs.Remaining.{live_options_from_end, live_options_start}
use Rattle.cover_problem.proofs.Steps.{within_some, left_end, left_barren, left_found, left_spent}
use Rattle.cover_problem.proofs.Unbounded.{stable}
use Rattle.choices.specs.Choices.{IsChild}
use Rattle.brancher.specs.Reach.{IsSoFar}
use Rattle.brancher.proofs.Lefts.{options_left, options_next}

-- ---- the prefix, option by option

pub live_in_prefix : (p : Problem) (xs : List ℕ) (k : ℕ) → are_apart p xs ≡ true → k < length xs → is_live p (take k xs) (get_or xs k 0) ≡ true
live_in_prefix p [] k apart lt = absurd (omega (arith, lt))
live_in_prefix p (x ∷ xs) zero apart lt = refl
live_in_prefix p (x ∷ xs) (suc k) apart lt =
    let parts = and_parts (is_live p xs x) (are_apart p xs) apart in
    let o : ℕ = get_or xs k 0 in
    let below : k < length xs = omega (arith, lt) in
    let none = not-true (clash p o x) (all_at (λ q. not (clash p q x)) xs o parts.0 (get_in xs k below)) in
    and_from (not (clash p x o)) (is_live p (take k xs) o) (not_from_false (clash p x o) (clash_both p o x none)) (live_in_prefix p xs k parts.1 below)

pub prefix_live : (p q : Problem) (xs front : List ℕ) (k : ℕ) → is_prefix p xs ≡ true → q ≡ p → front ≡ take k xs → k < length xs → is_live q front (get_or xs k 0) ≡ true
prefix_live p q xs front k prefix e f lt =
    ap (λ (r : Problem). is_live r front (get_or xs k 0)) e ∙ ap (λ ys. is_live p ys (get_or xs k 0)) f
    ∙ live_in_prefix p xs k (and_parts (are_options p xs) (are_apart p xs) prefix).1 lt

-- ---- the options that are left

child_choice : (p : Problem) (xs : List ℕ) (i o : ℕ) → IsChild p xs i o → is_choice p xs i o ≡ true
child_choice p xs i o is = and_from (is_live p xs o) (names_item p o i) is.live is.named

pub so_far_start : (p : Problem) (xs : List ℕ) (i fuel : ℕ) → 0 < fuel → branch_item p xs ≡ Some i → IsSoFar p xs fuel (fuel - 1) (live_options_from p xs i 0)
so_far_start p xs i fuel fueled e =
    let few = open_few p xs in
    let same = stable p (suc p.primary) p.primary xs (omega (arith, few)) few in
    let came = within_some p (suc p.primary) xs i (omega arith) e in
    let one : suc p.primary - 1 ≡ p.primary = omega arith in
    let all : live_options_from p xs i 0 ≡ live_options p xs i = live_options_start p xs i in
    record {
      found = ap (first_among p p.primary xs) all ∙ ap (λ d. first_among p d xs (live_options p xs i)) (sym one) ∙ sym came.found ∙ same.found;
      visits = omega (arith, ap (visits_among p p.primary xs) all, ap (λ d. visits_among p d xs (live_options p xs i)) one, came.visits, same.visits, fueled);
      less = omega arith;
    }

pub so_far_found : (p : Problem) (xs cover : List ℕ) (i o fuel left : ℕ) → IsChild p xs i o → visits p (xs ++ o ∷ []) ≤ left → first p (xs ++ o ∷ []) ≡ Some cover
    → IsSoFar p xs fuel left (live_options_from p xs i o) → (visits p xs ≤ fuel) × (first p xs ≡ Some cover)
so_far_found p xs cover i o fuel left is few some far =
    let here = left_found p p.primary xs i o cover is.inside (child_choice p xs i o is) some in
    (omega (arith, far.visits, here.visits, few), sym far.found ∙ here.found)

pub so_far_spent : (p : Problem) (xs : List ℕ) (i o fuel left : ℕ) → IsChild p xs i o → left < visits p (xs ++ o ∷ [])
    → IsSoFar p xs fuel left (live_options_from p xs i o) → fuel < visits p xs
so_far_spent p xs i o fuel left is many far =
    omega (arith, far.visits, left_spent p p.primary xs i o is.inside (child_choice p xs i o is), many)

-- with more visits below a child than a number, below the prefix there are more than it and those that were made before
pub so_far_stopped : (p : Problem) (xs : List ℕ) (i o fuel left made : ℕ) → IsChild p xs i o → made < visits p (xs ++ o ∷ [])
    → IsSoFar p xs fuel left (live_options_from p xs i o) → made + (fuel - left) < visits p xs
so_far_stopped p xs i o fuel left made is many far =
    omega (arith, far.visits, far.less, left_spent p p.primary xs i o is.inside (child_choice p xs i o is), many)

pub so_far_barren : (p : Problem) (xs : List ℕ) (i o fuel left rest : ℕ) → IsChild p xs i o → visits p (xs ++ o ∷ []) + rest ≡ left → first p (xs ++ o ∷ []) ≡ None
    → IsSoFar p xs fuel left (live_options_from p xs i o) → IsSoFar p xs fuel rest (live_options_from p xs i (o + 1))
so_far_barren p xs i o fuel left rest is visits none far =
    let here = left_barren p p.primary xs i o is.inside (child_choice p xs i o is) none in
    record { found = sym here.found ∙ far.found; visits = omega (arith, far.visits, here.visits, visits); less = omega (arith, visits, far.less) }

-- the same of the next option as of all that are left
pub so_far_next : (p : Problem) (xs : List ℕ) (i start fuel left : ℕ) (next : Option ℕ) → next ≡ slice_get (live_options_from p xs i start) 0
    → IsSoFar p xs fuel left (live_options_from p xs i start) → IsSoFar p xs fuel left (options_left p xs i next)
so_far_next p xs i start fuel left next e far = subst (IsSoFar p xs fuel left) (sym (options_next p xs i start next e)) far

pub so_far_end : (p : Problem) (xs : List ℕ) (i fuel left : ℕ) → IsSoFar p xs fuel left [] → (visits p xs + left ≡ fuel) × (first p xs ≡ None)
so_far_end p xs i fuel left far =
    let none = left_end p p.primary xs i (length p.options) (omega arith) in
    let empty : live_options_from p xs i (length p.options) ≡ [] = live_options_from_end p xs i (length p.options) (omega arith) in
    (omega (arith, far.visits, ap (visits_among p p.primary xs) empty, none.visits), sym far.found ∙ sym (ap (first_among p p.primary xs) empty) ∙ none.found)
