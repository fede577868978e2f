use Rattle.std.proofs.Common.{◌≡◌, ℕ, ◌<◌, ◌≤◌, ◌-◌, length, false, slice_get}
use Rattle.steal_return.proofs.children.is_redoable.Given as goal
use Rattle.steal_return.specs.Members.{is_spent_at, known_after}
use Rattle.steal_return.specs.Steals.{is_older}

abbrev pub invariant-loop-from : goal.invariant-loop-from
invariant-loop-from l = record {
  within : l.from ≤ length l.table.own;
  none : (k : ℕ) → k < l.from → is_spent_at (is_older (known_after l.news l.known)) (slice_get l.table.own k) ≡ false;
}

abbrev pub decreases-loop-from : goal.decreases-loop-from
decreases-loop-from l = length l.table.own - l.from
