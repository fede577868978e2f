use Rattle.std.proofs.Common.{◌≡◌, ◌++◌, length, reverse, take}
use Rattle.spawn_frame.specs.Prefixes.{height, path_of}
use Rattle.spawn_frame.proofs.prefixes.push_upwards.Given as goal

abbrev pub invariant-upwards : goal.invariant-upwards
invariant-upwards l =
    (l.list.items ++ reverse (path_of l.own l.guests l.at) ≡ l.initial.list.items ++ reverse (path_of l.own l.guests l.fn.unit))
    × (take (length l.initial.list.items) l.list.items ≡ l.initial.list.items)

abbrev pub decreases-upwards : goal.decreases-upwards
decreases-upwards l = height l.at
