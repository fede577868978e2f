use Rattle.std.proofs.Common.{◌≡◌, map}
use Rattle.std.specs.List.{range_with_len}
use Rattle.option_sets.specs.ClashTables.{primary_of}
use Rattle.option_sets.proofs.sets.primary_items.Given as goal

abbrev pub invariant-loop-option : goal.invariant-loop-option
invariant-loop-option l = l.lists.items ≡ map (primary_of l.problem) (range_with_len 0 l.option)
