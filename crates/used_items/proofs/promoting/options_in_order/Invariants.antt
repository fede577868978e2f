use Rattle.std.proofs.Common.{◌≡◌, map}
use Rattle.std.specs.List.{range_with_len}
use Rattle.used_items.specs.Orders.{places_in}
use Rattle.used_items.proofs.promoting.options_in_order.Given as goal

abbrev pub invariant-loop-option : goal.invariant-loop-option
invariant-loop-option l = l.options.items ≡ map (places_in l.problem l.order) (range_with_len 0 l.option)
