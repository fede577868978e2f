use Rattle.std.proofs.Common.{◌≡◌, ℕ, ◌*◌, ◌<◌, length, not}
use Rattle.cover_problem.specs.Prefix.{is_covered}
use Rattle.choices.specs.Keys.{has_bit}
use Rattle.dancing_links.proofs.links.Links.write_uncovered.Given as goal

abbrev pub invariant-loop-place : goal.invariant-loop-place
invariant-loop-place l = record {
  known : (item : ℕ) → item < 64 * l.place → item < length l.self.problem.names → has_bit l.words item ≡ not (is_covered l.self.problem l.self.chosen item);
  long : length l.words ≡ length l.fn.words;
}
