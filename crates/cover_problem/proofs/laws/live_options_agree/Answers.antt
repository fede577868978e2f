use Rattle.cover_problem.proofs.Prefixes.{agree_live, live_agree, live_at}
use Rattle.cover_problem.proofs.laws.live_options_agree.Goals as goal

pub returns-clause-primary : goal.returns-clause-primary
returns-clause-primary c = λ problem prefix option item live low named. live_at problem prefix option item low live named

pub returns-clause-agree : goal.returns-clause-agree
returns-clause-agree c = λ problem prefix option chosen item live here on_chosen on_option. live_agree problem prefix option chosen item live here on_chosen on_option

pub returns-clause-live : goal.returns-clause-live
returns-clause-live c = λ problem prefix option each. agree_live problem prefix option each
