use Rattle.node_core.proofs.Acting.{node_acts}
use Rattle.node_core.proofs.Stepping.{step_passes}
use Rattle.node_core.proofs.laws.nodes_act_unless_they_refuse.Goals as goal

pub returns-clause-unrefused : goal.returns-clause-unrefused
returns-clause-unrefused c = λ problem view event acts. step_passes problem view event acts.reply acts.out acts.new acts.step

pub returns-clause-acts : goal.returns-clause-acts
returns-clause-acts c = λ problem view event is fit passes. node_acts problem view event is fit passes
