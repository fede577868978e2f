use Rattle.std.proofs.Common.{◌≡◌}
use Rattle.book_tests.proofs.tests.parcels.fill.Given as goal

abbrev pub invariant-loop-number : goal.invariant-loop-number
invariant-loop-number g l = l.pass.outbox ≡ l.outbox
