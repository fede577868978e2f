use Rattle.std.proofs.Common.{sym, ap, subst}
use Rattle.cover_problem.specs.Problem.{Problem}
use Rattle.node_core.specs.Acting.{SiteCore}
use Rattle.node_core.specs.Refusal.{IsFit}
use Rattle.root_registry.proofs.Cores.{stays}
use Rattle.root_registry.proofs.registry.RegistryCore.answer.Goals as goal
use Rattle.root_registry.proofs.registry.RegistryCore.answer.Goals.{After-answer_event}

-- the event is fit for the problem
fits : (c : After-answer_event) → IsFit c.self.inside.publication.problem c.args.event
fits c = subst (λ (p : Problem). IsFit p c.args.event) (sym (ap (λ (s : SiteCore). s.problem) c.self.view_is)) c.requires

pub invariant_of-self : goal.invariant_of-self
invariant_of-self c =
    let answered = c.answer_event.ensures in
    stays c.self.inside.state c.answer_event.new.state c.args.event c.args.out.now c.answer_event.new.out c.self.inside.publication c.self.invariant (fits c)
    c.answer_event.new.publication c.answer_event.result
    (λ reply out. record {
      keeps = λ step. c.the_registry_stays_formed.ensures.keeps _ _ _ _ reply out step;
      enters = λ entered is step some. c.the_root_has_what_enters.ensures.enters _ _ _ _ reply out entered is step some;
      leaves = λ step none. c.the_root_has_what_enters.ensures.leaves _ _ _ _ reply out step none;
    })
    answered.step answered.err answered.published answered.unpublished
