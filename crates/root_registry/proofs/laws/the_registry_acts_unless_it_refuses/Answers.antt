use Rattle.root_registry.proofs.Acting.{registry_acts}
use Rattle.root_registry.proofs.Stepping.{step_passes}
use Rattle.root_registry.proofs.laws.the_registry_acts_unless_it_refuses.Goals as goal

pub returns-clause-unrefused : goal.returns-clause-unrefused
returns-clause-unrefused c = λ problem view event acts. step_passes problem view event acts.reply acts.out acts.new acts.step

pub returns-clause-acts : goal.returns-clause-acts
returns-clause-acts c = λ problem view event p is fit passes. registry_acts problem view event p is fit passes
