-- What primary items need, and the room that other items have for it, and when they show that there is no exact cover: the items
-- of each option need no more than its items have room for, and all items together need more than all have room for. An exact
-- cover names each primary item once, and an item that no option gives a colour at most once.
use Rattle.std.specs.Prelude.{ℕ, List, length, slice_index_or, Bool, ◌==◌, ◌&&◌, ◌||◌, nat_le, nat_lt}
use Rattle.std.specs.List.{list_all, sum, sum_by}
use Rattle.cover_problem.specs.Problem.{Problem, option_numbers, items_of, colour_of}

-- What each of the first items needs, in order, and for how much each of the first items has room
pub record Room : Type 0 where
  pub needs : List ℕ
  pub rooms : List ℕ

-- what a list says of an item: nothing where it comes after those of the list
abbrev pub amount_of : List ℕ → ℕ → ℕ
amount_of list item = slice_index_or list item 0

-- what it says of the items of an option, together
abbrev pub option_amount : Problem → List ℕ → ℕ → ℕ
option_amount problem list option = sum_by (amount_of list) (items_of problem option)

-- whether the option gives no colour to an item that has room
abbrev pub is_plain : Problem → List ℕ → ℕ → Bool
is_plain problem rooms option = list_all (λ item. (amount_of rooms item == 0) || (colour_of problem option item == 0)) (items_of problem option)

-- whether the option needs no more than it has room for, and all its room is that of items without a colour
abbrev pub fits : Problem → Room → ℕ → Bool
fits problem room option = nat_le (option_amount problem room.needs option) (option_amount problem room.rooms option) && is_plain problem room.rooms option

-- Whether this room is too little for an exact cover: primary items alone need it, all need more than there is, and each option fits.
abbrev pub is_too_little : Problem → Room → Bool
is_too_little problem room =
    nat_le (length room.needs) problem.primary
    && nat_le (length room.rooms) (length problem.names)
    && nat_lt (sum room.rooms) (sum room.needs)
    && list_all (λ option. fits problem room option) (option_numbers problem)
