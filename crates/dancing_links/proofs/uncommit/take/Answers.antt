use Rattle.std.proofs.Common.{◌+◌, ◌%◌, get_or, set, arith, ap, sym, ◌∙◌}
use Rattle.dancing_links.proofs.Commits.{uncommit_coloured}
use Rattle.dancing_links.proofs.uncommit.take.Goals as goal

pub returns-then-commits-item-eq0-clause-commits : goal.returns-then-commits-item-eq0-clause-commits
returns-then-commits-item-eq0-clause-commits c =
    ap (λ i. set c.args.commits.now i ((get_or c.args.commits.now i 0 + 4294967295) % 4294967296)) c.item_at-item.ensures.item
    ∙ sym (uncommit_coloured c.args.layout.now c.args.commits.now c.args.node (λ e. omega (arith, e, c.requires.colour.0, c.requires.colour.1)))

pub returns-else-commits-item-eq0-clause-commits : goal.returns-else-commits-item-eq0-clause-commits
returns-else-commits-item-eq0-clause-commits c =
    ap (λ i. set c.args.commits.now i ((get_or c.args.commits.now i 0 + 4294967295) % 4294967296)) c.item_at-item.ensures.item
    ∙ sym (uncommit_coloured c.args.layout.now c.args.commits.now c.args.node (λ e. omega (arith, e, c.requires.colour.0, c.requires.colour.1)))
