use Rattle.std.proofs.Common.{◌≡◌, ℕ, ◌<◌, ◌≤◌, length, slice_index}
use Rattle.brancher.proofs.kept.Kept.forget_from.Given as goal

abbrev pub invariant-loop-place : goal.invariant-loop-place
invariant-loop-place l = record {
  long : length l.self-inside.entered.items ≡ length l.fn.self.entered;
  states : l.self-inside.states ≡ l.fn.self.states;
  before : (k : ℕ) → k < l.depth → slice_index l.self-inside.entered.items k ≡ slice_index l.fn.self.entered k;
  forgotten : (k : ℕ) → l.depth ≤ k → k < l.place → slice_index l.self-inside.entered.items k ≡ 0;
}
