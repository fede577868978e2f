use Rattle.std.proofs.Common.{◌≡◌, drop, nat_eq}
use Rattle.std.specs.Cmp.Lexicographic.{pointwise}
use Rattle.std.specs.List.{list_any}
use Rattle.clash_cliques.proofs.testing.has_name.Given as goal

abbrev pub invariant-loop-item : goal.invariant-loop-item
invariant-loop-item l = list_any (pointwise nat_eq l.name) (drop l.item l.problem.names) ≡ list_any (pointwise nat_eq l.name) l.problem.names
