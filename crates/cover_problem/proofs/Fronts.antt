-- A prefix, its front, and one live option more.
use Rattle.std.proofs.Common.{◌≡◌, ℕ, ◌<◌, List, [], ◌∷◌, ◌++◌, length, true, not, Option, Some, None, IfSome, refl, sym, ◌∙◌, arith, length-append}
use Rattle.std.specs.Prelude.{nat_lt}
use Rattle.std.proofs.lemmas.Bool.{and_parts, and_from, not-true, not_from_false}
use Rattle.std.proofs.lemmas.List.Elements.{All-get_or}
use Rattle.std.proofs.lemmas.List.Folds.{list_all-append}
use Rattle.cover_problem.specs.Branching.{IsOpen}
use Rattle.cover_problem.specs.Numbers.{some_below}
use Rattle.cover_problem.specs.Prefix.{clash, is_live, are_apart, are_options, is_prefix}
use Rattle.cover_problem.specs.Problem.{Problem, IsProblem, items_of, names_item}
use Rattle.cover_problem.proofs.Among.{some_with}
use Rattle.cover_problem.proofs.Clashes.{clash_both}
use Rattle.cover_problem.proofs.Prefixes.{prefix_more, prefix_short}

-- a live option goes with the prefix
pub prefix_push : (p : Problem) (os : List ℕ) (o : ℕ) → IsProblem p → is_prefix p os ≡ true → o < length p.options → is_live p os o ≡ true → is_prefix p (os ++ o ∷ []) ≡ true
prefix_push p os o is prefix inside live =
    let P : List ℕ → Type 0 = λ items. some_below p.primary items ≡ true in
    let some : some_below p.primary (items_of p o) ≡ true = All-get_or P p.options o [] inside is.each_primary in
    let item = some_with (λ i. nat_lt i p.primary) (items_of p o) some in
    prefix_more p os item.0 o prefix inside (and_from (is_live p os o) (names_item p o item.0) live item.1)

apart_front : (p : Problem) (xs ys : List ℕ) → are_apart p (xs ++ ys) ≡ true → are_apart p xs ≡ true
apart_front p [] ys h = refl
apart_front p (x ∷ xs) ys h =
    let parts = and_parts (is_live p (xs ++ ys) x) (are_apart p (xs ++ ys)) h in
    let live = sym (list_all-append (λ q. not (clash p q x)) xs ys) ∙ parts.0 in
    and_from (is_live p xs x) (are_apart p xs) (and_parts (is_live p xs x) (is_live p ys x) live).0 (apart_front p xs ys parts.1)

-- the front of a prefix is one
pub prefix_front : (p : Problem) (xs ys : List ℕ) → is_prefix p (xs ++ ys) ≡ true → is_prefix p xs ≡ true
prefix_front p xs ys h =
    let parts = and_parts (are_options p (xs ++ ys)) (are_apart p (xs ++ ys)) h in
    let options = sym (list_all-append (λ o. nat_lt o (length p.options)) xs ys) ∙ parts.0 in
    and_from (are_options p xs) (are_apart p xs) (and_parts (are_options p xs) (are_options p ys) options).0 (apart_front p xs ys parts.1)

last_apart : (p : Problem) (os : List ℕ) (o : ℕ) → are_apart p (os ++ o ∷ []) ≡ true → is_live p os o ≡ true
last_apart p [] o h = refl
last_apart p (x ∷ xs) o h =
    let parts = and_parts (is_live p (xs ++ o ∷ []) x) (are_apart p (xs ++ o ∷ [])) h in
    let live = sym (list_all-append (λ q. not (clash p q x)) xs (o ∷ [])) ∙ parts.0 in
    let here = (and_parts (not (clash p o x)) true (and_parts (is_live p xs x) (is_live p (o ∷ []) x) live).1).0 in
    and_from (not (clash p x o)) (is_live p xs o) (not_from_false (clash p x o) (clash_both p o x (not-true (clash p o x) here))) (last_apart p xs o parts.1)

-- the last option of a prefix is live before it
pub last_live : (p : Problem) (os : List ℕ) (o : ℕ) → is_prefix p (os ++ o ∷ []) ≡ true → is_live p os o ≡ true
last_live p os o h = last_apart p os o (and_parts (are_options p (os ++ o ∷ [])) (are_apart p (os ++ o ∷ [])) h).1

-- there is room for one more
pub room_left : (p : Problem) (os : List ℕ) (o : ℕ) → IsProblem p → is_prefix p os ≡ true → o < length p.options → is_live p os o ≡ true → length os < p.primary
room_left p os o is prefix inside live = omega (arith, prefix_short p (os ++ o ∷ []) is (prefix_push p os o is prefix inside live), length-append os (o ∷ []))

-- an open item is one of the problem's
pub open_named : (p : Problem) (os : List ℕ) (r : Option ℕ) → IsProblem p → IfSome r (IsOpen p os) → IfSome r (λ i. i < length p.names)
open_named p os None is h = tt
open_named p os (Some i) is h = omega (arith, h.primary, is.primary)
