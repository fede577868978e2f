-- What the outcome of a search says of the prefix.
use Rattle.std.proofs.Common.{◌≡◌, ℕ, ◌<◌, ◌≤◌, Bool, true, false, cond, List, [], ◌∷◌, Option, Some, None, refl, arith}
use Rattle.std.proofs.lemmas.Bool.{ltb-true}
use Rattle.cover_problem.specs.Problem.{Problem}
use Rattle.cover_problem.specs.Prefix.{IsBarren, is_prefix, IsCoverOver}
use Rattle.cover_problem.specs.Branching.{open_items, live_options, branch_item}
use Rattle.cover_problem.specs.Search.{first_within, visits_within, first, visits, Covers, Barren, Spent, found_outcome, outcome}
use Rattle.cover_problem.specs.Examples.{small, coloured}
use Rattle.cover_problem.proofs.Steps.{within_none}
use Rattle.cover_problem.proofs.Covering.{none_barren, first_covers}

past_barren : (b : Bool) (o : Option (List ℕ)) → cond b Spent (found_outcome o) ≡ Barren → o ≡ None
past_barren true o e = absurd (cc)
past_barren false None e = refl
past_barren false (Some x) e = absurd (cc)

pub past_covers : (b : Bool) (o : Option (List ℕ)) (x : List ℕ) → cond b Spent (found_outcome o) ≡ Covers x → o ≡ Some x
past_covers true o x e = absurd (cc)
past_covers false None x e = absurd (cc)
past_covers false (Some y) x e = cc

pub past_spent : (b : Bool) (o : Option (List ℕ)) → cond b Spent (found_outcome o) ≡ Spent → b ≡ true
past_spent true o e = refl
past_spent false None e = absurd (cc)
past_spent false (Some x) e = absurd (cc)

pub barren_is_barren : (problem : Problem) (prefix : List ℕ) (fuel : ℕ) → outcome problem prefix fuel ≡ Barren → IsBarren problem prefix
barren_is_barren problem prefix fuel e = none_barren problem prefix (past_barren _ _ e)

pub outcome_covers : (problem : Problem) (prefix : List ℕ) (fuel : ℕ) (x : List ℕ) → is_prefix problem prefix ≡ true → outcome problem prefix fuel ≡ Covers x → IsCoverOver problem prefix x
outcome_covers problem prefix fuel x h e = first_covers problem prefix x h (past_covers _ _ x e)

-- a prefix that is too much for some fuel is not complete
pub spent_branches : (problem : Problem) (prefix : List ℕ) (fuel : ℕ) → 1 ≤ fuel → outcome problem prefix fuel ≡ Spent → (item : ℕ) × (branch_item problem prefix ≡ Some item)
spent_branches problem prefix fuel l e = go (branch_item problem prefix) refl
  where
    more : fuel < visits problem prefix
    more = ltb-true fuel (visits problem prefix) (past_spent _ _ e)

    go : (b : Option ℕ) → branch_item problem prefix ≡ b → (item : ℕ) × (b ≡ Some item)
    go None h = let one = (within_none problem problem.primary prefix h).visits in let m = more in absurd (omega (arith, l, m, one))
    go (Some i) h = (i, refl)

-- ---- a small problem, by computing

pub small_first : first small [] ≡ Some (3 ∷ 4 ∷ 0 ∷ [])
unfolding first_within branch_item live_options open_items
small_first = refl

pub small_visits : visits small [] ≡ 6
unfolding first_within visits_within branch_item live_options open_items
small_visits = refl

pub small_found : outcome small [] 6 ≡ Covers (3 ∷ 4 ∷ 0 ∷ [])
unfolding first_within visits_within branch_item live_options open_items
small_found = refl

pub small_spent : outcome small [] 5 ≡ Spent
unfolding first_within visits_within branch_item live_options open_items
small_spent = refl

-- ---- a small problem with colours, likewise

pub coloured_barren : first coloured (0 ∷ []) ≡ None
unfolding first_within branch_item live_options open_items
coloured_barren = refl

pub coloured_first : first coloured [] ≡ Some (3 ∷ 1 ∷ [])
unfolding first_within branch_item live_options open_items
coloured_first = refl

pub coloured_visits : visits coloured [] ≡ 4
unfolding first_within visits_within branch_item live_options open_items
coloured_visits = refl
