use Rattle.std.proofs.Common.{◌≡◌, take}
use Rattle.implied_clauses.specs.Following.{open_literals}
use Rattle.implied_clauses.specs.Rests.{rest_of}
use Rattle.implied_clauses.proofs.rest.rest_of.Given as goal

abbrev pub invariant-loop-literal : goal.invariant-loop-literal
invariant-loop-literal l = l.rest ≡ rest_of (open_literals l.assumed (take l.literal-index l.clause))
