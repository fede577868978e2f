use Rattle.cover_certificates.proofs.Spared.{AreSpared}
use Rattle.cover_certificates.proofs.words.is_row_spared.Given as goal

abbrev pub invariant-loop-word : goal.invariant-loop-word
invariant-loop-word l = AreSpared l.row l.live l.other l.word-index
