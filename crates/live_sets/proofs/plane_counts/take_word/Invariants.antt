use Rattle.std.proofs.Common.{◌≡◌, ℕ, ◌+◌, ◌<◌}
use Rattle.std.specs.Int.{bit_at}
use Rattle.item_planes.specs.Counts.{count_at, part_at}
use Rattle.live_sets.specs.Planes.{named_in}
use Rattle.live_sets.proofs.plane_counts.take_word.Given as goal

abbrev pub invariant-loop-left : goal.invariant-loop-left
invariant-loop-left l = record {
  uncovered : l.planes.uncovered ≡ l.fn.planes.uncovered;
  inside : (k : ℕ) → k < 64 → bit_at l.left k ≡ 1 → bit_at l.gone k ≡ 1;
  part : (i : ℕ) → i < 64 → part_at l.digits l.planes i + named_in l.masks l.place l.gone i ≡ part_at l.digits l.fn.planes i + named_in l.masks l.place l.left i;
  counts : (i : ℕ) → i < 64 → count_at l.planes i + named_in l.masks l.place l.gone i ≡ count_at l.fn.planes i + named_in l.masks l.place l.left i;
}

abbrev pub decreases-loop-left : goal.decreases-loop-left
decreases-loop-left l = l.left
