use Rattle.std.proofs.Common.{◌≡◌, length}
use Rattle.brancher.proofs.branching.undo_all.Given as goal

abbrev pub invariant-loop-state : goal.invariant-loop-state
invariant-loop-state g l = (g.B.Branching.choices l.state).problem ≡ (g.B.Branching.choices l.fn.state).problem

abbrev pub decreases-loop-state : goal.decreases-loop-state
decreases-loop-state g l = length (g.B.Branching.choices l.state).chosen
