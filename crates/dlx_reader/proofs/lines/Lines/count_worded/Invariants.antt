use Rattle.std.proofs.Common.{◌≡◌, ◌≤◌, ◌+◌, length}
use Rattle.dlx_reader.specs.Left.{worded_left}
use Rattle.dlx_reader.proofs.lines.Lines.count_worded.Given as goal

abbrev pub invariant-loop-line : goal.invariant-loop-line
invariant-loop-line l = record {
  counted : l.count + length (worded_left l.left) ≡ length (worded_left l.self);
  within : l.count ≤ l.left.before;
}

abbrev pub decreases-loop-line : goal.decreases-loop-line
decreases-loop-line l = length (worded_left l.left)
