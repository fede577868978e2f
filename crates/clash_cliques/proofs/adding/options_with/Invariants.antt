use Rattle.std.proofs.Common.{◌≡◌, map}
use Rattle.std.specs.List.{range_with_len}
use Rattle.clash_cliques.specs.Cliques.{items_with}
use Rattle.clash_cliques.proofs.adding.options_with.Given as goal

abbrev pub invariant-loop-option : goal.invariant-loop-option
invariant-loop-option l = l.options.items ≡ map (items_with l.problem l.clique) (range_with_len 0 l.option-counter)
