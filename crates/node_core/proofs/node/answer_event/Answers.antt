use Rattle.std.proofs.Common.{refl, sym, ◌∙◌}
use Rattle.node_core.proofs.Prefixes.{formed_prefixes, not_delivery, over_refuses}
use Rattle.node_core.proofs.Sending.{sends_none}
use Rattle.node_core.proofs.node.answer_event.Goals as goal

pub returns-then-is_over : goal.returns-then-is_over
returns-then-is_over c = record {
  problem = refl;
  step = tt;
  refusal = sym (over_refuses c.args.links.now.problem c.args.state.now c.args.event (not_delivery c.args.event c.in_default.not-Deliver) (sym c.is_over.ensures ∙ c.if-is_over.true));
  err = refl;
  list = (_, sends_none c.args.out.now);
}

pub work-requires : goal.work-requires
work-requires c = record {
  fit = c.requires.fit;
  own = not_delivery c.args.event c.in_default.not-Deliver;
  prefixes = formed_prefixes c.args.links.now.problem c.args.state.now c.requires.formed;
}
