-- The searches of the two runs, by computing.
use Rattle.std.proofs.Common.{◌≡◌, [], ◌∷◌, refl}
use Rattle.cover_problem.specs.Branching.{live_options, open_items, branch_item, children}
use Rattle.cover_problem.specs.Search.{first_within, visits_within, Covers, Barren, Spent, outcome}
use Rattle.cover_problem.specs.Examples.{small, bare}

pub bare_barren : Barren ≡ outcome bare [] 1
unfolding first_within visits_within branch_item live_options open_items
bare_barren = refl

pub small_children : (1 ∷ []) ∷ (3 ∷ []) ∷ [] ≡ children small []
unfolding branch_item live_options open_items
small_children = refl

pub root_spent : Spent ≡ outcome small [] 1
unfolding first_within visits_within branch_item live_options open_items
root_spent = refl

pub first_barren : Barren ≡ outcome small (1 ∷ []) 2
unfolding first_within visits_within branch_item live_options open_items
first_barren = refl

pub second_covers : Covers (3 ∷ 4 ∷ 0 ∷ []) ≡ outcome small (3 ∷ []) 3
unfolding first_within visits_within branch_item live_options open_items
second_covers = refl
