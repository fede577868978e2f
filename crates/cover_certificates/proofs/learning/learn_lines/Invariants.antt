use Rattle.std.proofs.Common.{◌≡◌}
use Rattle.cover_certificates.proofs.learning.learn_lines.Given as goal

abbrev pub invariant-loop : goal.invariant-loop
invariant-loop l = l.clauses.problem ≡ l.fn.clauses.problem
