use Rattle.std.proofs.Common.{sym, subst, ◌∙◌}
use Rattle.cover_problem.specs.Problem.{Problem}
use Rattle.node_core.specs.Acting.{Sending}
use Rattle.node_core.specs.declared.reply.Reply.TheVariants.{Moved}
use Rattle.packet_wire.specs.declared.packet.Body.TheVariants.{Return}
use Rattle.root_registry.proofs.Entering.{entered}
use Rattle.root_registry.proofs.root.receive_return.Goals as goal
use Rattle.root_registry.specs.Core.{AnswersBody}

pub returns-clause-step : goal.returns-clause-step
returns-clause-step c =
    let body = Return c.args.returned.serial c.args.returned.attempt c.args.returned.result in
    let Answers : Problem → Type 0 = λ problem. Sending c.args.out.now c.send_over.new.out (AnswersBody problem c.args.state.now c.args.from body c.enter.new.self Moved) in
    subst Answers c.problem-problem.ensures
    (entered c.problem-problem.result.now c.args.state.now c.enter.new.self c.args.from c.site.result c.args.returned.serial c.args.returned.attempt c.args.returned.result c.in_ok-result.result
    c.args.out.now c.send.new.self c.send_over.new.out c.recall_rules.ensures (sym c.is_acceptable.ensures ∙ c.if-not-is_acceptable.false) c.in_ok-result.ensures c.site.ensures
    c.if-not-is_awaited.ensures.enters c.in_ok-send.ensures.ok c.in_ok-send_over.ensures.ok c.enter.ensures)
