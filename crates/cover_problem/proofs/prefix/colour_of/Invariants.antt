use Rattle.std.proofs.Common.{◌≡◌, drop}
use Rattle.cover_problem.specs.Problem.{colour_beside}
use Rattle.cover_problem.proofs.prefix.colour_of.Given as goal

abbrev pub invariant-loop-place : goal.invariant-loop-place
invariant-loop-place l =
    colour_beside (drop l.place l.items) (drop l.place l.colours) l.item ≡ colour_beside l.items l.colours l.item
