use Rattle.std.proofs.Common.{◌≡◌, drop, length}
use Rattle.implied_clauses.specs.Following.{refutes}
use Rattle.implied_clauses.proofs.following.refutes.Given as goal

abbrev pub invariant-loop-hint : goal.invariant-loop-hint
invariant-loop-hint l = (refutes l.problem l.clauses (drop l.hint-index l.hints) l.assumed ≡ refutes l.problem l.clauses l.hints l.initial.assumed) × (length l.assumed ≡ length l.initial.assumed)
