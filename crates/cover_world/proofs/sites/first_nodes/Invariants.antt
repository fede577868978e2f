use Rattle.std.proofs.Common.{◌≡◌, replicate}
use Rattle.cover_world.specs.Cores.{opening_cores}
use Rattle.cover_world.specs.Moves.{names_limit}
use Rattle.cover_world.proofs.sites.first_nodes.Given as goal

abbrev pub invariant-loop-place : goal.invariant-loop-place
invariant-loop-place l = l.cores.items ≡ opening_cores l.problem l.nodes 1 (replicate l.place names_limit)
