-- A problem with its items in another order, in which some secondary items come behind the primary ones and are primary, too.
use Rattle.std.specs.Prelude.{◌≡◌, ℕ, List, [], length, map, slice_index_or, Bool, true, not, ◌==◌, ◌&&◌, ◌||◌, nat_le, nat_lt, if◌then◌else◌}
use Rattle.std.specs.List.{list_all, range_with_len}
use Rattle.cover_problem.specs.Problem.{Problem, problem_by, option_numbers, items_of}
use Rattle.cover_reasons.specs.Room.{Room, amount_of}
use Rattle.used_items.specs.Covers.{HaveSameCovers}
use Rattle.used_items.specs.Enough.{is_just_enough}

-- The items in an order, the place of each item in it, and how many of them are primary
pub record Order : Type 0 where
  pub items : List ℕ
  pub places : List ℕ
  pub primary : ℕ

-- the item at a place
abbrev pub item_at : Order → ℕ → ℕ
item_at order place = slice_index_or order.items place 0

-- the place of an item
abbrev pub place_of : Order → ℕ → ℕ
place_of order item = slice_index_or order.places item 0

-- whether the item, one of so many, stands at its place
abbrev pub stands : Order → ℕ → ℕ → Bool
stands order count item = nat_lt (place_of order item) count && item_at order (place_of order item) == item

-- whether the place, one of so many, is that of its item
abbrev pub is_taken : Order → ℕ → ℕ → Bool
is_taken order count place = nat_lt (item_at order place) count && place_of order (item_at order place) == place

-- whether it is an order of so many items: each stands at a place of its own
abbrev pub is_order : Order → ℕ → Bool
is_order order count =
    list_all (λ item. stands order count item) (range_with_len 0 count)
    && list_all (λ place. is_taken order count place) (range_with_len 0 count)

-- whether the item comes among the first, which are primary, just if it is primary or has room
abbrev pub is_sorted : Problem → Room → Order → ℕ → Bool
is_sorted problem room order item =
    if nat_lt item problem.primary || not (amount_of room.rooms item == 0) then nat_lt (place_of order item) order.primary else nat_le order.primary (place_of order item)

-- whether the room is just enough, and the order is one of the problem's items, first those that are primary or have room
abbrev pub promotes : Problem → Room → Order → Bool
promotes problem room order =
    nat_le order.primary (length problem.names)
    && is_order order (length problem.names)
    && list_all (λ item. is_sorted problem room order item) (range_with_len 0 (length problem.names))
    && is_just_enough problem room

-- the name of the item at a place
abbrev pub name_at : Problem → Order → ℕ → List ℕ
name_at problem order place = slice_index_or problem.names (item_at order place) []

-- the items of an option, by their places
abbrev pub places_in : Problem → Order → ℕ → List ℕ
places_in problem order option = map (place_of order) (items_of problem option)

-- the problem with its items in that order
abbrev pub reordered : Problem → Order → Problem
reordered problem order =
    problem_by
    (map (name_at problem order) (range_with_len 0 (length problem.names)))
    order.primary
    (map (places_in problem order) (option_numbers problem))
    problem.colours
    problem.colour_names

-- It is the problem with those items made primary that have room, which is just enough, and it has the same exact covers.
pub record IsPromoted (problem : Problem) (room : Room) (made : Problem) : Type 0 where
  pub order : Order
  pub promotes : promotes problem room order ≡ true
  pub is : made ≡ reordered problem order
  pub covers : HaveSameCovers problem made
