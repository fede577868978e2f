use Rattle.cover_world.proofs.Later.{site_grows}
use Rattle.cover_world.proofs.laws.steps_keep_the_site.Goals as goal

pub returns-clause-site : goal.returns-clause-site
returns-clause-site c = λ node problem old new event reply out step. (site_grows node problem old event reply out new step).site

pub returns-clause-nodes : goal.returns-clause-nodes
returns-clause-nodes c = λ node problem old new event reply out step. (site_grows node problem old event reply out new step).nodes
