use Rattle.std.proofs.Common.{◌≡◌, ◌<◌, ◌%◌, take}
use Rattle.std.specs.List.{sum}
use Rattle.cover_reasons.proofs.weights_test.whole_weight.Given as goal

abbrev pub invariant-loop-weight : goal.invariant-loop-weight
invariant-loop-weight l = record {
  small : l.whole < 65536;
  so_far : l.whole ≡ sum (take l.weight-index l.weights.list) % l.weights.modulus;
}
