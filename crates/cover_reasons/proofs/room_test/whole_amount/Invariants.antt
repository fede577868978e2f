use Rattle.std.proofs.Common.{◌≡◌, ◌≤◌, ◌*◌, take}
use Rattle.std.specs.List.{sum}
use Rattle.cover_reasons.proofs.room_test.whole_amount.Given as goal

abbrev pub invariant-loop-amount : goal.invariant-loop-amount
invariant-loop-amount l = record {
  small : l.whole ≤ l.amount-index * 65535;
  so_far : l.whole ≡ sum (take l.amount-index l.list);
}
