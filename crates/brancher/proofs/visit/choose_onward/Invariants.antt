use Rattle.std.proofs.Common.{◌≡◌, ℕ, ◌+◌, ◌≤◌, length}
use Rattle.choices.specs.Choices.{Choices}
use Rattle.brancher.specs.Reach.{IsBarrenAt}
use Rattle.brancher.proofs.visit.choose_onward.Given as goal

abbrev pub invariant-loop-state : goal.invariant-loop-state
invariant-loop-state g l = record {
  items : length (g.B.Branching.choices l.state).chosen ≤ l.base + length (g.B.Branching.choices l.state).branches;
  barren : (root : Choices) (fuel left : ℕ) → l.base ≡ length root.chosen → IsBarrenAt root fuel (g.B.Branching.choices l.fn.state) left → IsBarrenAt root fuel (g.B.Branching.choices l.state) left;
}

abbrev pub decreases-loop-state : goal.decreases-loop-state
decreases-loop-state g l = length (g.B.Branching.choices l.state).chosen
