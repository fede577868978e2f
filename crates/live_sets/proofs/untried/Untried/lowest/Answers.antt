use Rattle.std.proofs.Common.{refl}
use Rattle.live_sets.proofs.Lowest.{lowest_next}
use Rattle.live_sets.proofs.untried.Untried.lowest.Goals as goal

pub returns : goal.returns
returns c = lowest_next _ _ _ _ _ c.requires.trying c.requires.some refl refl refl refl refl
