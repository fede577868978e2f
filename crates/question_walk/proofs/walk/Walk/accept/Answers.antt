use Rattle.question_walk.proofs.Walking.{accepted, inside_over}
use Rattle.question_walk.proofs.walk.Walk.accept.Goals as goal

pub invariant_of-self : goal.invariant_of-self
invariant_of-self c =
    accepted c.self.inside.links c.self.inside.asked c.self.inside.cover c.args.cover c.self.invariant (inside_over _ c.args.self.now c.args.cover c.self.view_is c.requires)
