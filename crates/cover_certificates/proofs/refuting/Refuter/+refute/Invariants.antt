use Rattle.std.proofs.Common.{◌≡◌, ◌-◌, take}
use Rattle.cover_certificates.specs.Tables.{options_naming}
use Rattle.cover_certificates.proofs.Trying.{IsTried}
use Rattle.cover_certificates.proofs.refuting.Refuter.+refute.Given as goal

abbrev pub decreases-refute : goal.decreases-refute
decreases-refute l = l.self.now.primary - l.depth

abbrev pub invariant-loop-option : goal.invariant-loop-option
invariant-loop-option l = record {
  same : l.self ≡ l.fn.self;
  tried : IsTried l.fn.self l.case l.item (take l.option-index (options_naming l.fn.self l.item)) l.used;
}
