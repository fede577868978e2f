use Rattle.std.proofs.Common.{◌≡◌, ◌≤◌, ◌*◌, take}
use Rattle.std.specs.List.{sum_by}
use Rattle.cover_reasons.specs.Room.{amount_of}
use Rattle.cover_reasons.proofs.room_test.amount_of_items.Given as goal

abbrev pub invariant-loop-item : goal.invariant-loop-item
invariant-loop-item l = record {
  small : l.amount ≤ l.item-index * 65535;
  so_far : l.amount ≡ sum_by (amount_of l.list) (take l.item-index l.items);
}
