use Rattle.std.proofs.Common.{◌≡◌, map, take}
use Rattle.spawn_frame.specs.Gifts.{sibling_gifts}
use Rattle.steal_return.proofs.ledger.Ledger.several.Given as goal
use Rattle.steal_return.specs.Steals.{gift_at}

abbrev pub invariant-loop-serial : goal.invariant-loop-serial
invariant-loop-serial l = sibling_gifts l.prefix.items l.siblings.items ≡ map (gift_at l.self.own) (take l.serial-index l.serials)
