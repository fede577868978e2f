use Rattle.std.proofs.Common.{sym, ap, ◌∙◌}
use Rattle.std.specs.List.{list_all}
use Rattle.std.proofs.lemmas.List.Folds.{list_all-map}
use Rattle.spawn_frame.specs.Gifts.{is_there, sibling_gift}
use Rattle.steal_return.proofs.ledger.Ledger.are_there.Goals as goal

pub returns-in-Several : goal.returns-in-Several
returns-in-Several c =
    rw (c.in-Several.is)
    (c.all_there.ensures
    ∙ ap (list_all (λ s. is_there c.args.from c.args.self.now.guests (sibling_gift c.in-Several.prefix s))) c.as_slice.ensures
    ∙ sym (list_all-map (is_there c.args.from c.args.self.now.guests) (sibling_gift c.in-Several.prefix) c.in-Several.siblings))
