use Rattle.std.proofs.Common.{◌≡◌, ℕ, ◌*◌, ◌<◌, length, nat_lt, slice_index}
use Rattle.choices.specs.Keys.{has_bit}
use Rattle.live_sets.proofs.uncovered.write_unmarked.Given as goal

abbrev pub invariant-loop-place : goal.invariant-loop-place
invariant-loop-place l = record {
  known : (item : ℕ) → item < 64 * l.place → item < length l.keys → has_bit l.words item ≡ nat_lt (slice_index l.keys item) 2147483648;
  long : length l.words ≡ length l.fn.words;
}
