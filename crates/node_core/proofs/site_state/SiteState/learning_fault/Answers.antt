use Rattle.std.proofs.Common.{sym, ap, ◌∙◌}
use Rattle.node_core.proofs.Learning.{members_refused, members_unrefused}
use Rattle.node_core.proofs.site_state.SiteState.learning_fault.Goals as goal
use Rattle.node_core.specs.Refusal.{members_refusal}
use Rattle.node_core.specs.SiteView.{View}

pub returns-then-may_learn : goal.returns-then-may_learn
returns-then-may_learn c =
    let seen : View = record { ledger = c.self.inside.ledger; over = c.self.inside.over } in
    sym (members_unrefused seen c.args.incarnations.now c.if-may_learn.ensures.able) ∙ ap (λ v. members_refusal v c.args.incarnations.now) c.self.view_is

pub returns-else-may_learn : goal.returns-else-may_learn
returns-else-may_learn c =
    let seen : View = record { ledger = c.self.inside.ledger; over = c.self.inside.over } in
    sym (members_refused seen c.args.incarnations.now c.if-may_learn.ensures.spent) ∙ ap (λ v. members_refusal v c.args.incarnations.now) c.self.view_is
