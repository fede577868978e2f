use Rattle.std.proofs.Common.{◌≡◌, length}
use Rattle.dlx_reader.specs.Left.{worded_left}
use Rattle.dlx_reader.proofs.Further.{Further}
use Rattle.dlx_reader.proofs.answer.options_of.Given as goal

abbrev pub invariant-loop-line : goal.invariant-loop-line
invariant-loop-line l = record {
  same : l.index.problem ≡ l.problem;
  further : Further l.problem (worded_left l.lines) (worded_left l.fn.lines) l.index.options;
}

abbrev pub decreases-loop-line : goal.decreases-loop-line
decreases-loop-line l = length (worded_left l.lines)
