use Rattle.std.proofs.Common.{ℕ, ◌<◌, [], length}
use Rattle.cover_problem.specs.Branching.{live_options}
use Rattle.live_sets.proofs.plane_counts.is_small.Given as goal

abbrev pub invariant-loop-item : goal.invariant-loop-item
invariant-loop-item l = (i : ℕ) → i < l.item → length (live_options l.sets [] i) < 256
