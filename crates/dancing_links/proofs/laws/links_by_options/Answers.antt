use Rattle.std.proofs.Common.{sym, ◌∙◌}
use Rattle.dancing_links.proofs.laws.links_by_options.Goals as goal

pub returns : goal.returns
returns c = λ problem columns others chosen entries nodes links more keys tallies room space h k first second.
    c.links_by_choices.ensures problem columns others chosen entries nodes links more keys tallies room space h k (first ∙ sym second)
