use Rattle.std.proofs.Common.{◌≡◌, drop}
use Rattle.implied_clauses.specs.Following.{deny}
use Rattle.implied_clauses.proofs.following.deny.Given as goal

abbrev pub invariant-loop-literal : goal.invariant-loop-literal
invariant-loop-literal l = deny l.assumed (drop l.literal-index l.clause) ≡ deny l.initial.assumed l.clause
