use Rattle.std.proofs.Common.{◌≡◌, length}
use Rattle.brancher.specs.Keeping.{AreBarren, IsEntered}
use Rattle.brancher.proofs.keeping.visit_keeping.Given as goal

abbrev pub invariant-loop-left : goal.invariant-loop-left
invariant-loop-left g l = record {
  reached : IsEntered (g.B.Branching.choices l.fn.state) l.fn.fuel l.kept.entered (g.B.Branching.choices l.state) l.left;
  barren : AreBarren (g.B.Branching.choices l.fn.state).problem l.kept.states;
  long : length l.kept.entered ≡ length l.fn.kept.entered;
}

abbrev pub decreases-loop-left : goal.decreases-loop-left
decreases-loop-left g l = l.left
