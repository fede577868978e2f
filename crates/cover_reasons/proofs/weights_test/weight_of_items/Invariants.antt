use Rattle.std.proofs.Common.{◌≡◌, ◌<◌, ◌%◌, take}
use Rattle.std.specs.List.{sum_by}
use Rattle.cover_reasons.specs.Weights.{weight_of}
use Rattle.cover_reasons.proofs.weights_test.weight_of_items.Given as goal

abbrev pub invariant-loop-item : goal.invariant-loop-item
invariant-loop-item l = record {
  small : l.weight < 65536;
  so_far : l.weight ≡ sum_by (weight_of l.weights) (take l.item-index l.items) % l.weights.modulus;
}
