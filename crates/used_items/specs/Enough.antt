-- Room that is just enough for what primary items need: the items of each option need no more than its items have room for, and all
-- items together need as much as all have room for. An exact cover that left an item with room out would have too little.
use Rattle.std.specs.Prelude.{◌≡◌, ℕ, length, Bool, ◌&&◌, nat_le}
use Rattle.std.specs.List.{list_all, sum}
use Rattle.cover_problem.specs.ExactCover.{IsExactCover, uses}
use Rattle.cover_problem.specs.Problem.{Problem, option_numbers}
use Rattle.cover_reasons.specs.Room.{Room, fits}

-- Whether this room is just enough: primary items alone need it, all need as much as there is (or more, and then there is no exact
-- cover), and each option fits.
abbrev pub is_just_enough : Problem → Room → Bool
is_just_enough problem room =
    nat_le (length room.needs) problem.primary
    && nat_le (length room.rooms) (length problem.names)
    && nat_le (sum room.rooms) (sum room.needs)
    && list_all (λ option. fits problem room option) (option_numbers problem)

-- Each exact cover names the item once.
abbrev pub IsAlwaysUsed : Problem → ℕ → Type 0
IsAlwaysUsed problem item = (chosen : ℕ → Bool) → IsExactCover problem chosen → uses problem chosen item ≡ 1
