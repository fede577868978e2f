use Rattle.std.proofs.Common.{◌≡◌, take}
use Rattle.brancher.proofs.branching.put_prefix.Given as goal

abbrev pub invariant-loop-option : goal.invariant-loop-option
invariant-loop-option g l = record {
  problem : (g.B.Branching.choices l.state).problem ≡ (g.B.Branching.choices l.fn.state).problem;
  chosen : (g.B.Branching.choices l.state).chosen ≡ take l.option-index l.prefix;
}
