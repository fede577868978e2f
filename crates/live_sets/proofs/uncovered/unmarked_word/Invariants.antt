use Rattle.std.proofs.Common.{◌≡◌, ℕ, ◌+◌, ◌*◌, ◌<◌, ◌≤◌, ◌==◌, length, nat_lt, slice_index}
use Rattle.std.specs.Int.{bit_at}
use Rattle.live_sets.proofs.uncovered.unmarked_word.Given as goal

abbrev pub invariant-loop-bit : goal.invariant-loop-bit
invariant-loop-bit l = record {
  known : (k : ℕ) → k < l.bit → (bit_at l.word k == 1) ≡ nat_lt (slice_index l.keys (64 * l.place + k)) 2147483648;
  empty : (k : ℕ) → l.bit ≤ k → bit_at l.word k ≡ 0;
  few : l.count ≤ 64;
  inside : 64 * l.place + l.count ≤ length l.keys;
}
