use Rattle.node_core.proofs.Beginning.{begins_formed}
use Rattle.node_core.proofs.Walk.{node_kept, node_sends}
use Rattle.node_core.proofs.formed.nodes_stay_formed.Goals as goal

pub returns-clause-begins : goal.returns-clause-begins
returns-clause-begins c = λ problem site nodes limit p may. begins_formed problem site nodes limit p may

pub returns-clause-keeps : goal.returns-clause-keeps
returns-clause-keeps c = λ problem old new event reply out s. node_kept problem old new event reply out s

pub returns-clause-sends : goal.returns-clause-sends
returns-clause-sends c = λ problem old new event reply out s. node_sends problem old new event reply out s
