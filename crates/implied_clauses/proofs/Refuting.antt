-- What follows by propagation is implied; and propagation step by step.
use Rattle.std.proofs.Common.{◌≡◌, ℕ, zero, suc, ◌+◌, ◌<◌, Bool, true, false, not, ◌&&◌, ◌==◌, cond, if◌then◌else◌, List, [], ◌∷◌, ◌++◌, length, get_or, take, drop, set, replicate, Option, Some, None, IfSome, ◌⊎◌, length-set, refl, sym, ap, ◌∙◌, subst, inl, inr}
use Rattle.std.proofs.lemmas.Bool.{cases_Bool, or_cases, or_left, or_right, or_parts, both_ways, eqb-false, true≢false, not-true, not_from_false}
use Rattle.std.proofs.lemmas.List.{take-append-drop}
use Rattle.std.proofs.lemmas.List.Elements.{filter-append, filter_more}
use Rattle.std.proofs.lemmas.Option.{get_or_from_slice_get, slice_get_within}
use Rattle.std.specs.List.{slice_get}
use Rattle.cover_problem.specs.ExactCover.{IsExactCover}
use Rattle.cover_problem.specs.Prefix.{clash}
use Rattle.cover_problem.specs.Problem.{Problem}
use Rattle.implied_clauses.specs.Clauses.{is_true, negated, satisfies, AreImplied, IsImplied}
use Rattle.implied_clauses.specs.Following.{assume, clause_in, deny, follows, hinted, is_false, open_by, open_literals, refutes, refutes_by, says}
use Rattle.implied_clauses.specs.Rests.{rest_of}
use Rattle.implied_clauses.specs.declared.literal.Hint.{Hint}
use Rattle.implied_clauses.specs.declared.literal.Hint.TheVariants.{Clause, Clash}
use Rattle.implied_clauses.specs.declared.literal.Literal.{Literal}
use Rattle.implied_clauses.specs.declared.literal.Literal.TheVariants.{Chosen, Left}
use Rattle.implied_clauses.specs.declared.rest.Rest.TheVariants.{Open}

-- ---- what is assumed is true of a set

-- what is assumed of an option is true of the set
abbrev Agrees : List (Option Bool) → (ℕ → Bool) → Type 0
Agrees assumed chosen = (option : ℕ) (b : Bool) → slice_get assumed option ≡ Some (Some b) → chosen option ≡ b

agrees_nothing : (n : ℕ) (chosen : ℕ → Bool) → Agrees (replicate n None) chosen
agrees_nothing zero chosen option b e = absurd (cc)
agrees_nothing (suc n) chosen zero b e = absurd (cc)
agrees_nothing (suc n) chosen (suc option) b e = agrees_nothing n (λ o. chosen (suc o)) option b e

agrees_set : (assumed : List (Option Bool)) (chosen : ℕ → Bool) (option : ℕ) (b : Bool) → Agrees assumed chosen → chosen option ≡ b → Agrees (set assumed option (Some b)) chosen
agrees_set [] chosen option b agrees here o d e = absurd (cc)
agrees_set (a ∷ slots) chosen zero b agrees here zero d e = here ∙ (cc)
agrees_set (a ∷ slots) chosen zero b agrees here (suc o) d e = agrees (suc o) d e
agrees_set (a ∷ slots) chosen (suc option) b agrees here zero d e = agrees zero d e
agrees_set (a ∷ slots) chosen (suc option) b agrees here (suc o) d e = agrees_set slots (λ x. chosen (suc x)) option b (λ x c. agrees (suc x) c) here o d e

agrees_assume : (assumed : List (Option Bool)) (chosen : ℕ → Bool) (literal : Literal) → Agrees assumed chosen → is_true chosen literal ≡ true → Agrees (assume assumed literal) chosen
agrees_assume assumed chosen (Chosen option) agrees here = agrees_set assumed chosen option true agrees here
agrees_assume assumed chosen (Left option) agrees here = agrees_set assumed chosen option false agrees (not-true (chosen option) here)

negated_true : (chosen : ℕ → Bool) (literal : Literal) → is_true chosen literal ≡ false → is_true chosen (negated literal) ≡ true
negated_true chosen (Chosen option) e = not_from_false (chosen option) e
negated_true chosen (Left option) e = go (chosen option) e
  where
    go : (b : Bool) → not b ≡ false → b ≡ true
    go true h = refl
    go false h = sym h

agrees_deny : (chosen : ℕ → Bool) (clause : List Literal) (assumed : List (Option Bool)) → Agrees assumed chosen → satisfies chosen clause ≡ false → Agrees (deny assumed clause) chosen
agrees_deny chosen [] assumed agrees fails = agrees
agrees_deny chosen (l ∷ ls) assumed agrees fails =
    let parts = or_parts (is_true chosen l) (satisfies chosen ls) fails in
    agrees_deny chosen ls (assume assumed (negated l)) (agrees_assume assumed chosen (negated l) agrees (negated_true chosen l parts.0)) parts.1

-- what is assumed to be false is
false_of : (assumed : List (Option Bool)) (chosen : ℕ → Bool) (literal : Literal) → Agrees assumed chosen → is_false assumed literal ≡ true → is_true chosen literal ≡ false
false_of assumed chosen (Chosen option) agrees e = go (slice_get assumed option) refl e
  where
    go : (slot : Option (Option Bool)) → slice_get assumed option ≡ slot → says slot false ≡ true → chosen option ≡ false
    go None here h = absurd (true≢false (sym h))
    go (Some None) here h = absurd (true≢false (sym h))
    go (Some (Some true)) here h = absurd (true≢false (sym h))
    go (Some (Some false)) here h = agrees option false here
false_of assumed chosen (Left option) agrees e = go (slice_get assumed option) refl e
  where
    go : (slot : Option (Option Bool)) → slice_get assumed option ≡ slot → says slot true ≡ true → not (chosen option) ≡ false
    go None here h = absurd (true≢false (sym h))
    go (Some None) here h = absurd (true≢false (sym h))
    go (Some (Some false)) here h = absurd (true≢false (sym h))
    go (Some (Some true)) here h = ap not (agrees option true here)

-- denying adds no option
pub length-deny : (assumed : List (Option Bool)) (clause : List Literal) → length (deny assumed clause) ≡ length assumed
length-deny assumed [] = refl
length-deny assumed (Chosen o ∷ ls) = length-deny (set assumed o (Some false)) ls ∙ length-set assumed o (Some false)
length-deny assumed (Left o ∷ ls) = length-deny (set assumed o (Some true)) ls ∙ length-set assumed o (Some true)

-- ---- what is open of a clause

-- a literal that is true is open
satisfies_open : (assumed : List (Option Bool)) (chosen : ℕ → Bool) (clause : List Literal) → Agrees assumed chosen → satisfies chosen clause ≡ true → satisfies chosen (open_literals assumed clause) ≡ true
satisfies_open assumed chosen [] agrees h = h
satisfies_open assumed chosen (l ∷ ls) agrees h = go (is_false assumed l) refl (or_cases (is_true chosen l) (satisfies chosen ls) h) (λ there. satisfies_open assumed chosen ls agrees there)
  where
    go : (b : Bool) → is_false assumed l ≡ b → (is_true chosen l ≡ true) ⊎ (satisfies chosen ls ≡ true) → (satisfies chosen ls ≡ true → satisfies chosen (open_literals assumed ls) ≡ true)
        → satisfies chosen (cond (not b) (l ∷ open_literals assumed ls) (open_literals assumed ls)) ≡ true
    go true e (inl here) later = absurd (both_ways (is_true chosen l) (false_of assumed chosen l agrees e) here)
    go true e (inr there) later = later there
    go false e (inl here) later = or_left (is_true chosen l) _ here
    go false e (inr there) later = or_right (is_true chosen l) _ (later there)

-- ---- propagation

hinted_implied : (p : Problem) (list : List (Option (List Literal))) (hint : Hint) → ((o q : ℕ) → (o ≡ q → ⊥) → clash p o q ≡ true → IsImplied p (Left o ∷ Left q ∷ [])) → AreImplied p list → IfSome (hinted p list hint) (IsImplied p)
hinted_implied p list (Clause place) apart all = go (slice_get list place) refl
  where
    go : (slot : Option (Option (List Literal))) → slice_get list place ≡ slot → IfSome (clause_in slot) (IsImplied p)
    go None here = tt
    go (Some slot) here =
        let P : Option (List Literal) → Type 0 = λ s. IfSome s (IsImplied p) in
        subst P (get_or_from_slice_get list place slot None here) (all place None (slice_get_within list place slot here))
hinted_implied p list (Clash o q) apart all = go (o == q) (clash p o q) refl refl
  where
    go : (b c : Bool) → (o == q) ≡ b → clash p o q ≡ c → IfSome (if not b && c then Some (Left o ∷ Left q ∷ []) else None) (IsImplied p)
    go true c e f = tt
    go false true e f = apart o q (λ same. eqb-false o q e same) f
    go false false e f = tt

-- an open literal of which one is true
one_true : (chosen : ℕ → Bool) (literal : Literal) → satisfies chosen (literal ∷ []) ≡ true → is_true chosen literal ≡ true
one_true chosen literal h = elim (or_cases (is_true chosen literal) false h) [ inl here ↦ here | inr no_more ↦ absurd (true≢false (sym no_more)) ]

open_step_none : (later : List (Option Bool) → Bool) (chosen : ℕ → Bool) (assumed : List (Option Bool)) → Agrees assumed chosen
    → ((next : List (Option Bool)) → Agrees next chosen → later next ≡ true → ⊥)
    → (open_ones : List Literal) → satisfies chosen open_ones ≡ true → refutes_by (Some open_ones) later assumed ≡ true → ⊥
open_step_none later chosen assumed agrees never [] sat e = true≢false (sym sat)
open_step_none later chosen assumed agrees never (l ∷ []) sat e = never (assume assumed l) (agrees_assume assumed chosen l agrees (one_true chosen l sat)) e
open_step_none later chosen assumed agrees never (l ∷ m ∷ ls) sat e = never assumed agrees e

refuted_step : (p : Problem) (later : List (Option Bool) → Bool) (chosen : ℕ → Bool) → IsExactCover p chosen → (assumed : List (Option Bool)) → Agrees assumed chosen
    → ((next : List (Option Bool)) → Agrees next chosen → later next ≡ true → ⊥)
    → (clause : Option (List Literal)) → IfSome clause (IsImplied p) → refutes_by (open_by assumed clause) later assumed ≡ true → ⊥
refuted_step p later chosen cover assumed agrees never None here e = never assumed agrees e
refuted_step p later chosen cover assumed agrees never (Some clause) here e =
    open_step_none later chosen assumed agrees never (open_literals assumed clause) (satisfies_open assumed chosen clause agrees (here chosen cover)) e

-- No set that is an exact cover agrees with what is refuted.
refuted_none : (p : Problem) (list : List (Option (List Literal))) (chosen : ℕ → Bool) → ((hint : Hint) → IfSome (hinted p list hint) (IsImplied p)) → IsExactCover p chosen
    → (hints : List Hint) (assumed : List (Option Bool)) → Agrees assumed chosen → refutes p list hints assumed ≡ true → ⊥
refuted_none p list chosen implied cover [] assumed agrees h = true≢false (sym h)
refuted_none p list chosen implied cover (hint ∷ hints) assumed agrees h =
    refuted_step p (refutes p list hints) chosen cover assumed agrees (λ next agreed e. refuted_none p list chosen implied cover hints next agreed e) (hinted p list hint) (implied hint) h

pub follows_implied : (p : Problem) (list : List (Option (List Literal))) (clause : List Literal) (hints : List Hint)
    → ((o q : ℕ) → (o ≡ q → ⊥) → clash p o q ≡ true → IsImplied p (Left o ∷ Left q ∷ [])) → AreImplied p list → follows p list clause hints ≡ true → IsImplied p clause
follows_implied p list clause hints apart all h chosen cover = elim (cases_Bool (satisfies chosen clause)) [
  | inl e ↦ e
  | inr e ↦ absurd (refuted_none p list chosen (λ hint. hinted_implied p list hint apart all) cover hints _ (agrees_deny chosen clause _ (agrees_nothing _ chosen) e) h)
]

-- ---- what is left, literal by literal

-- the open literals of the first ones of a clause and one more
pub open_more : (assumed : List (Option Bool)) (clause : List Literal) (i : ℕ) (d : Literal) → i < length clause
    → open_literals assumed (take (i + 1) clause) ≡ open_literals assumed (take i clause) ++ (if is_false assumed (get_or clause i d) then [] else get_or clause i d ∷ [])
open_more assumed clause i d low =
    filter_more (λ literal. not (is_false assumed literal)) clause i d low
    ∙ ap (λ xs. open_literals assumed (take i clause) ++ xs) (flip (is_false assumed (get_or clause i d)))
  where
    flip : (b : Bool) → cond (not b) (get_or clause i d ∷ []) [] ≡ (if b then [] else get_or clause i d ∷ [])
    flip true = refl
    flip false = refl

open_stays : (xs ys : List Literal) → Open ≡ rest_of xs → Open ≡ rest_of (xs ++ ys)
open_stays [] ys e = absurd (cc)
open_stays (x ∷ []) ys e = absurd (cc)
open_stays (x ∷ y ∷ xs) ys e = refl

-- a clause of whose first literals several are open
pub open_early : (assumed : List (Option Bool)) (clause : List Literal) (n : ℕ) → Open ≡ rest_of (open_literals assumed (take n clause)) → Open ≡ rest_of (open_literals assumed clause)
open_early assumed clause n e =
    open_stays (open_literals assumed (take n clause)) (open_literals assumed (drop n clause)) e
    ∙ ap rest_of (sym (filter-append (λ literal. not (is_false assumed literal)) (take n clause) (drop n clause)) ∙ ap (open_literals assumed) (take-append-drop n clause))
