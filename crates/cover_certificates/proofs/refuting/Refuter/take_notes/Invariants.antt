use Rattle.std.proofs.Common.{◌≡◌}
use Rattle.cover_certificates.proofs.refuting.Refuter.take_notes.Given as goal

abbrev pub invariant-loop : goal.invariant-loop
invariant-loop l = l.self ≡ l.fn.self
