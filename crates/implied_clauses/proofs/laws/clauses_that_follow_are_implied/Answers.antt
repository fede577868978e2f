use Rattle.implied_clauses.proofs.Refuting.{follows_implied}
use Rattle.implied_clauses.proofs.laws.clauses_that_follow_are_implied.Goals as goal

pub returns : goal.returns
returns c = λ problem list clause hints all follow.
    follows_implied problem list clause hints (λ o q apart e. c.clashing_options_are_not_both_chosen.ensures problem o q apart e) all follow
