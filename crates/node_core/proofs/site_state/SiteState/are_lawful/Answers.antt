use Rattle.std.proofs.Common.{sym, ◌∙◌}
use Rattle.std.specs.List.{list_all}
use Rattle.std.proofs.lemmas.List.Folds.{list_all-map}
use Rattle.node_core.proofs.site_state.SiteState.are_lawful.Goals as goal
use Rattle.node_core.specs.Arrivals.{is_lawful}
use Rattle.spawn_frame.specs.Gifts.{sibling_gift}

pub returns-in-Several : goal.returns-in-Several
returns-in-Several c =
    rw (c.in-Several.is)
    (c.each_is_lawful.ensures
    ∙ (λ i. list_all (λ s. is_lawful c.args.problem.now c.args.from c.args.self.now.guests (sibling_gift (c.as_slice-in-Several.ensures i) s)) (c.as_slice-in-Several-2.ensures i))
    ∙ sym (list_all-map (is_lawful c.args.problem.now c.args.from c.args.self.now.guests) (sibling_gift c.in-Several.prefix) c.in-Several.siblings))
