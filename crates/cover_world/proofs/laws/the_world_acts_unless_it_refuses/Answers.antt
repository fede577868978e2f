use Rattle.cover_world.proofs.Refusing.{acts_unrefused, unrefused}
use Rattle.cover_world.proofs.laws.the_world_acts_unless_it_refuses.Goals as goal

pub returns-clause-unrefused : goal.returns-clause-unrefused
returns-clause-unrefused c =
    unrefused c.the_registry_acts_unless_it_refuses.ensures.unrefused c.nodes_act_unless_they_refuse.ensures.unrefused

pub returns-clause-acts : goal.returns-clause-acts
returns-clause-acts c = λ problem old event lawful is none.
    acts_unrefused c.the_registry_acts_unless_it_refuses.ensures.acts c.nodes_act_unless_they_refuse.ensures.acts problem old lawful is event none
