use Rattle.std.proofs.Common.{sym, ap, subst}
use Rattle.cover_problem.specs.Problem.{Problem}
use Rattle.node_core.proofs.Cores.{stays}
use Rattle.node_core.proofs.node.NodeCoreCore.answer.Goals as goal
use Rattle.node_core.proofs.node.NodeCoreCore.answer.Goals.{After-answer_event}
use Rattle.node_core.specs.Acting.{SiteCore}
use Rattle.node_core.specs.Formed.{IsFormedNode}
use Rattle.node_core.specs.Refusal.{IsFit}

-- the event is fit for the problem of the links
fits : (c : After-answer_event) → IsFit c.self.inside.links.problem c.args.event
fits c = subst (λ (p : Problem). IsFit p c.args.event) (sym (ap (λ (s : SiteCore). s.problem) c.self.view_is)) c.requires

pub invariant_of-self : goal.invariant_of-self
invariant_of-self c =
    subst (λ (p : Problem). IsFormedNode p c.answer_event.new.state) (sym c.answer_event.ensures.problem)
    (stays c.self.inside.links.problem c.self.inside.state c.answer_event.new.state c.args.event c.args.out.now c.answer_event.new.out c.self.invariant (fits c)
    c.answer_event.result (λ reply out step. c.nodes_stay_formed.ensures.keeps _ _ _ _ reply out step) c.answer_event.ensures.step c.answer_event.ensures.err)
