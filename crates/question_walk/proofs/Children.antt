-- The first cover of a prefix by what is known of its children.
use Rattle.std.proofs.Common.{◌≡◌, ℕ, List, [], ◌∷◌, ◌++◌, true, Option, Some, None, refl, sym, ◌∙◌, ap, subst}
use Rattle.cover_problem.specs.Branching.{branch_item, children, children_at}
use Rattle.cover_problem.specs.Numbers.{is_in}
use Rattle.cover_problem.specs.Prefix.{IsBarren, IsCoverOver, is_prefix}
use Rattle.cover_problem.specs.Problem.{Problem}
use Rattle.cover_problem.specs.Search.{first, first_some, or_else}
use Rattle.cover_problem.proofs.Covering.{first_covers, none_barren}
use Rattle.cover_problem.proofs.Firsts.{ArePrefixes, children_prefixes}
use Rattle.cover_problem.proofs.Unbounded.{first_children}
use Rattle.question_walk.specs.Walks.{AreBarren}

-- a prefix that no exact cover extends has no first cover
pub none_of_barren : (p : Problem) (xs : List ℕ) → is_prefix p xs ≡ true → IsBarren p xs → first p xs ≡ None
none_of_barren p xs h barren = go (first p xs) refl
  where
    go : (r : Option (List ℕ)) → first p xs ≡ r → first p xs ≡ None
    go None e = e
    go (Some c) e = let cover = first_covers p xs c h e in absurd (barren (is_in c) cover.cover cover.over)

-- barren prefixes at the front change no first cover
front_skipped : (p : Problem) (front rest : List (List ℕ)) → ArePrefixes p (front ++ rest) → AreBarren p front → first_some (first p) (front ++ rest) ≡ first_some (first p) rest
front_skipped p [] rest prefixes barren = refl
front_skipped p (xs ∷ front) rest prefixes barren =
    ap (λ r. or_else r (first_some (first p) (front ++ rest))) (none_of_barren p xs prefixes.0 barren.0) ∙ front_skipped p front rest prefixes.1 barren.1

-- where the first of them has a first cover, that is theirs
head_found : (p : Problem) (child cover : List ℕ) (later : List (List ℕ)) → IsCoverOver p child cover → first_some (first p) (child ∷ later) ≡ first p child
head_found p child cover later over = go (first p child) refl
  where
    go : (r : Option (List ℕ)) → first p child ≡ r → or_else (first p child) (first_some (first p) later) ≡ first p child
    go None e = absurd (none_barren p child e (is_in cover) over.cover over.over)
    go (Some c) e = ap (λ r. or_else r (first_some (first p) later)) e ∙ sym e

-- no list with an element is empty
not_empty : (front later : List (List ℕ)) (child : List ℕ) → [] ≡ front ++ child ∷ later → ⊥
not_empty [] later child e = cc
not_empty (xs ∷ front) later child e = cc

pub first_child : (p : Problem) (xs child cover : List ℕ) (earlier later : List (List ℕ)) → is_prefix p xs ≡ true → children p xs ≡ earlier ++ child ∷ later → AreBarren p earlier → IsCoverOver p child cover
    → first p xs ≡ first p child
first_child p xs child cover earlier later h split barren over = go (branch_item p xs) refl
  where
    go : (b : Option ℕ) → branch_item p xs ≡ b → first p xs ≡ first p child
    go None e = absurd (not_empty earlier later child (ap (children_at p xs) (sym e) ∙ split))
    go (Some item) e =
        let prefixes : ArePrefixes p (earlier ++ child ∷ later) = subst (ArePrefixes p) split (children_prefixes p xs h) in
        first_children p xs item e ∙ ap (first_some (first p)) split ∙ front_skipped p earlier (child ∷ later) prefixes barren ∙ head_found p child cover later over

all_skipped : (p : Problem) (all : List (List ℕ)) → ArePrefixes p all → AreBarren p all → first_some (first p) all ≡ None
all_skipped p [] prefixes barren = refl
all_skipped p (xs ∷ all) prefixes barren =
    ap (λ r. or_else r (first_some (first p) all)) (none_of_barren p xs prefixes.0 barren.0) ∙ all_skipped p all prefixes.1 barren.1

pub none_child : (p : Problem) (xs : List ℕ) (item : ℕ) → is_prefix p xs ≡ true → branch_item p xs ≡ Some item → AreBarren p (children p xs) → first p xs ≡ None
none_child p xs item h e barren = first_children p xs item e ∙ all_skipped p (children p xs) (children_prefixes p xs h) barren
