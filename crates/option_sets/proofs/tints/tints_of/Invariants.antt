use Rattle.std.proofs.Common.{◌+◌, ◌≤◌, length, drop}
use Rattle.std.specs.List.{sum_by}
use Rattle.option_sets.proofs.Numbers.{AreTintsTo}
use Rattle.option_sets.proofs.tints.tints_of.Given as goal

abbrev pub invariant-loop-option : goal.invariant-loop-option
invariant-loop-option l = record {
  to : AreTintsTo l.problem l.option l.numbering l.lists.items;
  few : length l.numbering + sum_by length (drop l.option l.problem.options) ≤ 1 + sum_by length l.problem.options;
}
