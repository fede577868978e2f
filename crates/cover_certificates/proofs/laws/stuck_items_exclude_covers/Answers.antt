use Rattle.cover_certificates.proofs.Sticking.{stuck_no_cover}
use Rattle.cover_certificates.proofs.laws.stuck_items_exclude_covers.Goals as goal

pub returns : goal.returns
returns c = λ problem items live chosen primary all stuck cover. stuck_no_cover problem items live chosen primary all stuck cover
