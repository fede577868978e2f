use Rattle.std.proofs.Common.{◌≡◌, ℕ, ◌+◌, ◌<◌, ◌≤◌, length}
use Rattle.choices.specs.Choices.{Choices}
use Rattle.brancher.specs.Keeping.{AreBarren, IsBarrenIn}
use Rattle.brancher.proofs.keeping.turn_onward.Given as goal

abbrev pub invariant-loop-state : goal.invariant-loop-state
invariant-loop-state g l = record {
  items : length (g.B.Branching.choices l.state).chosen ≤ l.base + length (g.B.Branching.choices l.state).branches;
  room : length (g.B.Branching.choices l.state).chosen < length l.kept.entered;
  entered : l.kept.entered ≡ l.fn.kept.entered;
  barren : (root : Choices) (fuel : ℕ) → l.base ≡ length root.chosen → AreBarren root.problem l.fn.kept.states → IsBarrenIn root fuel l.fn.kept.entered (g.B.Branching.choices l.fn.state) l.left
      → AreBarren root.problem l.kept.states × IsBarrenIn root fuel l.fn.kept.entered (g.B.Branching.choices l.state) l.left;
}

abbrev pub decreases-loop-state : goal.decreases-loop-state
decreases-loop-state g l = length (g.B.Branching.choices l.state).chosen
