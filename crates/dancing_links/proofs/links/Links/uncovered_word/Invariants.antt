use Rattle.std.proofs.Common.{◌≡◌, ℕ, ◌+◌, ◌*◌, ◌<◌, ◌≤◌, ◌==◌, length, not}
use Rattle.std.specs.Int.{bit_at}
use Rattle.cover_problem.specs.Prefix.{is_covered}
use Rattle.dancing_links.proofs.links.Links.uncovered_word.Given as goal

abbrev pub invariant-loop-bit : goal.invariant-loop-bit
invariant-loop-bit l = record {
  known : (k : ℕ) → k < l.bit → (bit_at l.word k == 1) ≡ not (is_covered l.self.problem l.self.chosen (64 * l.place + k));
  empty : (k : ℕ) → l.bit ≤ k → bit_at l.word k ≡ 0;
  few : l.count ≤ 64;
  inside : 64 * l.place + l.count ≤ length l.self.problem.names;
}
