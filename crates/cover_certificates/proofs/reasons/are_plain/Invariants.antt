use Rattle.std.proofs.Common.{◌≡◌, ℕ, ◌<◌, true}
use Rattle.cover_reasons.specs.Room.{is_plain}
use Rattle.cover_certificates.proofs.reasons.are_plain.Given as goal

abbrev pub invariant-loop-option : goal.invariant-loop-option
invariant-loop-option l = (o : ℕ) → o < l.option → is_plain l.problem l.room.rooms o ≡ true
