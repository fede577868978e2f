use Rattle.std.proofs.Common.{◌≡◌, ℕ, ◌<◌}
use Rattle.audit.specs.Cursors.{Takes}
use Rattle.audit.specs.declared.taking.Evidence.TheVariants.{AllBooks}
use Rattle.audit.proofs.taking.first_to_take.Given as goal

abbrev pub invariant-loop-k : goal.invariant-loop-k
invariant-loop-k g l = l.evidence ≡ AllBooks → (i : ℕ) → i < l.k → Takes l.books l.cursors i → ⊥
