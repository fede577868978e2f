use Rattle.std.proofs.Common.{◌≡◌, map}
use Rattle.std.specs.List.{range_with_len}
use Rattle.clash_cliques.specs.Cliques.{colours_with}
use Rattle.clash_cliques.proofs.adding.colours_with.Given as goal

abbrev pub invariant-loop-option : goal.invariant-loop-option
invariant-loop-option l = l.colours.items ≡ map (colours_with l.problem l.clique) (range_with_len 0 l.option-counter)
