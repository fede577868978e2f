use Rattle.std.proofs.Common.{◌≡◌, drop}
use Rattle.audit.specs.Lacking.{missed_by}
use Rattle.audit.proofs.missing.missed_by.Given as goal

abbrev pub invariant-loop-entry : goal.invariant-loop-entry
invariant-loop-entry g l = missed_by l.fn.books (drop l.entry-index l.entries) l.least ≡ missed_by l.fn.books l.fn.entries l.fn.before
