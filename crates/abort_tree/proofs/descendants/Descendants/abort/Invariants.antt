use Rattle.std.proofs.Common.{◌≡◌, ◌+◌, ◌≤◌, ◌++◌, length, drop, vec_len, vec_capacity}
use Rattle.spawn_frame.specs.Units.{table_own}
use Rattle.abort_tree.specs.Below.{outs_from}
use Rattle.abort_tree.proofs.Aborting.{so_far}
use Rattle.abort_tree.proofs.Lists.{next_serial}
use Rattle.abort_tree.proofs.descendants.Descendants.abort.Given as goal

abbrev pub invariant-loop-serial : goal.invariant-loop-serial
invariant-loop-serial l =
    let next = next_serial (length l.self) l.serial-items l.serial-index in
    record {
      own : l.table ≡ table_own l.fn.table (so_far next l.self l.fn.table.own);
      list : l.list.items ++ outs_from next (drop next l.self) (drop next l.fn.table.own) ≡ l.fn.list.items ++ outs_from 0 l.self l.fn.table.own;
      room : vec_len l.list + length (outs_from next (drop next l.self) (drop next l.fn.table.own)) ≤ vec_capacity l.list;
    }
