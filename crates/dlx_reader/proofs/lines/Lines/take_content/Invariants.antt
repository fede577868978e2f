use Rattle.std.proofs.Common.{◌≡◌, ◌≤◌, length}
use Rattle.dlx_reader.specs.Left.{content_left}
use Rattle.dlx_reader.proofs.lines.Lines.take_content.Given as goal

abbrev pub invariant-loop-line : goal.invariant-loop-line
invariant-loop-line l = record {
  lines : content_left l.self ≡ content_left l.fn.self;
  behind : l.fn.self.before ≤ l.self.before;
}

abbrev pub decreases-loop-line : goal.decreases-loop-line
decreases-loop-line l = length l.self.lines
