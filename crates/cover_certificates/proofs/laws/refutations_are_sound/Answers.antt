use Rattle.cover_certificates.proofs.Sticking.{sound}
use Rattle.cover_certificates.proofs.laws.refutations_are_sound.Goals as goal

pub returns : goal.returns
returns c = λ problem items live lawful refuted. sound problem items live lawful refuted
