use Rattle.std.proofs.Common.{◌∙◌, ap, refl, sym}
use Rattle.cover_problem.specs.Numbers.{is_in}
use Rattle.question_walk.proofs.Walking.{known_seen}
use Rattle.question_walk.proofs.walk.Walk.is_known.Goals as goal

pub returns-in-Some-Some : goal.returns-in-Some-Some
returns-in-Some-Some c = λ answered.
    known_seen c.self.inside.links c.self.inside.asked c.self.inside.cover _ c.args.self.now c.in-Some-Some.option c.in-Some-Some.cover c.self.view_is c.self.invariant refl c.in-Some-Some.is-1 c.in-Some-Some.is-0
    (ap (λ options. is_in options c.in-Some-Some.option) (sym c.as_slice.ensures) ∙ sym c.has.ensures ∙ answered)
