use Rattle.std.proofs.Common.{◌≡◌, ℕ, ◌+◌, ◌<◌}
use Rattle.item_planes.specs.Counts.{count_at, limit_of}
use Rattle.live_sets.proofs.Gone.{counted_to}
use Rattle.live_sets.proofs.plane_counts.take_gone.Given as goal

abbrev pub invariant-loop-place : goal.invariant-loop-place
invariant-loop-place l = record {
  uncovered : l.planes.uncovered ≡ l.fn.planes.uncovered;
  few : (i : ℕ) → i < 64 → count_at l.planes i < limit_of l.digits;
  counts : (i : ℕ) → i < 64 → l.first + i < l.sets.primary → count_at l.planes i ≡ counted_to l.sets l.masks l.step.before.now l.step.live.now l.first i l.place;
}
