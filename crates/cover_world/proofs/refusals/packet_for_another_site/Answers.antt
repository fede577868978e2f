use Rattle.cover_world.proofs.refusals.packet_for_another_site.Goals as goal

pub returns-clause-node : goal.returns-clause-node
returns-clause-node c = λ problem view packet other reply out new step. other (step.1.0)

pub returns-clause-registry : goal.returns-clause-registry
returns-clause-registry c = λ problem view packet other reply out new step. other (step.0)
