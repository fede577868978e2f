use Rattle.cover_world.proofs.Below.{below_on}
use Rattle.cover_world.proofs.laws.below_goes_on.Goals as goal

pub returns : goal.returns
returns c = λ top own upper lower up down. below_on top own upper up lower down
