use Rattle.std.proofs.Common.{◌≡◌, Bool, List, Err, Result, sym, ap, ◌∙◌, subst}
use Rattle.node_core.proofs.Learning.{members_able, members_learnt, members_refused, members_tell}
use Rattle.node_core.proofs.Aborts.{appended_whole, members_step, sends_after}
use Rattle.node_core.proofs.site_state.SiteState.receive_members.Goals as goal
use Rattle.node_core.proofs.site_state.SiteState.receive_members.Goals.{After-drop-stolen}
use Rattle.node_core.specs.NodeStep.{Tells}
use Rattle.node_core.specs.Refusal.{members_refusal}
use Rattle.node_core.specs.SiteView.{View, abort_packets, with_ledger}
use Rattle.node_core.specs.declared.reply.Reply.{Reply}
use Rattle.spawn_frame.specs.Aborts.{Reached}
use Rattle.steal_return.specs.Members.{LearnsMembers}
use Rattle.steal_return.specs.declared.learn_fault.LearnFault.{LearnFault}
use Rattle.steal_return.specs.declared.learn_fault.LearnFault.TheVariants.{Memory, NamesSpent}

-- a fault as an answer
abbrev result_err : LearnFault → Result Bool LearnFault
result_err fault = Err fault

-- a fault is one alone
not_both : (fault : LearnFault) → fault ≡ Memory → result_err fault ≡ result_err NamesSpent → ⊥
not_both fault is other = cc

-- what is learnt, with the thieves that are told
told : (c : After-drop-stolen) → LearnsMembers c.self.inside.ledger c.args.incarnations.now c.deref.result.now c.learn_members.new.self
told c =
    let Learns : List Reached → Type 0 = λ outs. LearnsMembers c.self.inside.ledger c.args.incarnations.now outs c.learn_members.new.self in
    subst Learns (sym c.deref.ensures.value)
    (appended_whole Learns c.new-stolen.result.items c.learn_members.new.list.items c.new-stolen.ensures.items c.in-Ok.ensures.learns)

pub returns-in-Ok-clause-step : goal.returns-in-Ok-clause-step
returns-in-Ok-clause-step c =
    let seen : View = record { ledger = c.self.inside.ledger; over = c.self.inside.over } in
    let aborts = abort_packets c.site-site.result c.deref.result.now in
    let tells : Reply → Type 0 = λ reply. Tells c.args.self.now (abort_packets c.site-site.result c.deref.result.now) (with_ledger seen c.learn_members.new.self) reply in (
      aborts,
      sends_after c.args.out.now c.reserve.new.self c.put_aborts.new.self aborts c.reserve.ensures.same c.put_aborts.ensures.sends,
      (
        members_step c.args.self.now seen c.args.incarnations.now c.site-site.result c.deref.result.now c.learn_members.new.self c.self.view_is c.site-site.ensures (told c),
        subst tells (sym c.told_reply.ensures)
            (members_tell c.args.self.now seen c.args.incarnations.now c.site-site.result c.deref.result.now c.learn_members.new.self c.in-Ok.moved c.self.view_is (told c)
            c.in-Ok.ensures.moved c.in-Ok.ensures.same),
      ),
    )

pub returns-in-Ok-clause-refusal : goal.returns-in-Ok-clause-refusal
returns-in-Ok-clause-refusal c =
    let seen : View = record { ledger = c.self.inside.ledger; over = c.self.inside.over } in
    sym (members_learnt seen c.args.incarnations.now c.deref.result.now c.learn_members.new.self (told c)) ∙ ap (λ v. members_refusal v c.args.incarnations.now) c.self.view_is

pub returns-in-Err-NamesSpent-clause-refusal : goal.returns-in-Err-NamesSpent-clause-refusal
returns-in-Err-NamesSpent-clause-refusal c =
    let seen : View = record { ledger = c.self.inside.ledger; over = c.self.inside.over } in
    sym (members_refused seen c.args.incarnations.now (c.in-Err-NamesSpent.ensures.spent.0 (ap Err c.in-Err-NamesSpent.field-0-is))) ∙ ap (λ v. members_refusal v c.args.incarnations.now) c.self.view_is

pub returns-clause-refusal : goal.returns-clause-refusal
returns-clause-refusal c =
    let seen : View = record { ledger = c.self.inside.ledger; over = c.self.inside.over } in
    sym (members_able seen c.args.incarnations.now (λ spent. not_both c.in-Err-Memory.field-0 c.in-Err-Memory.field-0-is (c.in-Err-Memory.ensures.spent.1 spent)))
    ∙ ap (λ v. members_refusal v c.args.incarnations.now) c.self.view_is
