use Rattle.std.proofs.Common.{◌≡◌, map}
use Rattle.std.specs.List.{range_with_len}
use Rattle.used_items.specs.Orders.{name_at}
use Rattle.used_items.proofs.promoting.names_in_order.Given as goal

abbrev pub invariant-loop-place : goal.invariant-loop-place
invariant-loop-place l = l.names.items ≡ map (name_at l.problem l.order) (range_with_len 0 l.place)
