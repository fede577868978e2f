use Rattle.std.proofs.Common.{◌≡◌, ℕ, ◌+◌, ◌<◌}
use Rattle.item_planes.specs.Counts.{count_at, limit_of, part_at}
use Rattle.live_sets.specs.Planes.{named_of}
use Rattle.live_sets.proofs.Staying.{named_from}
use Rattle.live_sets.proofs.plane_counts.count_live.Given as goal

abbrev pub invariant-loop-place : goal.invariant-loop-place
invariant-loop-place l = record {
  uncovered : l.planes.uncovered ≡ l.uncovered;
  part : (i : ℕ) → i < 64 → l.first + i < l.sets.primary → part_at l.digits l.planes i + 1 + named_of l.sets l.live (l.first + i) ≡ limit_of l.digits + named_from l.sets l.masks l.live l.first i l.place;
  counts : (i : ℕ) → i < 64 → l.first + i < l.sets.primary → count_at l.planes i + named_of l.sets l.live (l.first + i) ≡ 255 + named_from l.sets l.masks l.live l.first i l.place;
}
