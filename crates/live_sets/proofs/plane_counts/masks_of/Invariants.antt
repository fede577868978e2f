use Rattle.std.proofs.Common.{◌≡◌, ℕ, ◌<◌, length, get_or}
use Rattle.live_sets.specs.Planes.{IsMask}
use Rattle.live_sets.proofs.plane_counts.masks_of.Given as goal

abbrev pub invariant-loop-option : goal.invariant-loop-option
invariant-loop-option l = record {
  long : length l.masks.items ≡ l.option;
  each : (o : ℕ) → o < l.option → IsMask l.sets l.first o (get_or l.masks.items o 0);
}
