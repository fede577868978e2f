use Rattle.std.proofs.Common.{◌≡◌, take}
use Rattle.steal_return.proofs.given.gifts_below.Given as goal
use Rattle.spawn_frame.specs.Gifts.{sibling_gifts}

abbrev pub invariant-loop-sibling : goal.invariant-loop-sibling
invariant-loop-sibling l = l.gifts.items ≡ sibling_gifts l.prefix (take l.sibling-index l.siblings)
