use Rattle.cover_world.proofs.Same.{event_same}
use Rattle.cover_world.proofs.SameChoice.{choice_same, root_choice_same}
use Rattle.cover_world.proofs.SameRoot.{registry_same}
use Rattle.cover_world.proofs.laws.step_is_determined.Goals as goal

pub returns-clause-node : goal.returns-clause-node
returns-clause-node c = λ problem old event r s p q v w other h k. event_same problem old event r s p q v w other h.1 k.1

pub returns-clause-registry : goal.returns-clause-registry
returns-clause-registry c = λ problem old event r s p q v w other h k. registry_same problem old event r s p q v w other h k

pub returns-clause-node_choice : goal.returns-clause-node_choice
returns-clause-node_choice c = λ problem old event r s p q v w alike h k. choice_same problem old event r s p q v w alike h.1 k.1

pub returns-clause-registry_choice : goal.returns-clause-registry_choice
returns-clause-registry_choice c = λ problem old event r s p q v w alike h k. root_choice_same problem old event r s p q v w alike h k
