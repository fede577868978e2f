use Rattle.std.proofs.Common.{◌≡◌, ◌+◌, ◌≤◌, length, drop}
use Rattle.abort_tree.specs.Below.{outs_from}
use Rattle.abort_tree.proofs.Lists.{next_serial}
use Rattle.abort_tree.proofs.descendants.Descendants.outs.Given as goal

abbrev pub invariant-loop-serial : goal.invariant-loop-serial
invariant-loop-serial l =
    let next = next_serial (length l.self) l.serial-items l.serial-index in
    record {
      all : l.count + length (outs_from next (drop next l.self) (drop next l.table.own)) ≡ length (outs_from 0 l.self l.table.own);
      few : l.count ≤ l.serial-index;
    }
