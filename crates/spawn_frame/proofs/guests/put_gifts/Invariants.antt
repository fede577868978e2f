use Rattle.std.proofs.Common.{◌≡◌, ◌+◌, ◌≤◌, length, map, vec_capacity, vec_len}
use Rattle.spawn_frame.specs.Guests.{open_places, put_gifts}
use Rattle.spawn_frame.specs.Tables.{IsAscending}
use Rattle.spawn_frame.specs.Works.{guest_entry}
use Rattle.spawn_frame.proofs.guests.put_gifts.Given as goal

-- what is put already and what is left make all; the places are those of the open ones, and there is room for what is left
abbrev pub invariant-loop-gift : goal.invariant-loop-gift
invariant-loop-gift l =
    (put_gifts l.from l.left.items l.items.items ≡ put_gifts l.from l.fn.gifts.items l.fn.items.items)
    × (l.places.items ≡ open_places l.items.items)
    × IsAscending (map guest_entry l.items.items)
    × (vec_len l.items + length l.left.items ≤ vec_capacity l.items)
    × (vec_len l.places + length l.left.items ≤ vec_capacity l.places)

abbrev pub decreases-loop-gift : goal.decreases-loop-gift
decreases-loop-gift l = goal.left-loop-gift l
