use Rattle.std.proofs.Common.{◌≡◌, ◌≤◌, length}
use Rattle.dlx_reader.specs.Left.{worded_left}
use Rattle.dlx_reader.proofs.lines.Lines.take_worded.Given as goal

abbrev pub invariant-loop-line : goal.invariant-loop-line
invariant-loop-line l = record {
  lines : worded_left l.self ≡ worded_left l.fn.self;
  behind : l.fn.self.before ≤ l.self.before;
}

abbrev pub decreases-loop-line : goal.decreases-loop-line
decreases-loop-line l = length l.self.lines
