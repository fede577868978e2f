use Rattle.dancing_links.proofs.State.{one_links}
use Rattle.dancing_links.proofs.laws.links_by_choices.Goals as goal

pub returns : goal.returns
returns c = one_links
