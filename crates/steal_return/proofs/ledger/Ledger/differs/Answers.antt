use Rattle.std.proofs.Common.{◌≡◌, sym, ◌∙◌}
use Rattle.std.specs.Cmp.Lexicographic.{same_text}
use Rattle.steal_return.proofs.Learns.{alike_by, not_false}
use Rattle.steal_return.proofs.ledger.Ledger.differs.Goals as goal

pub returns-else-ne-clause-alike : goal.returns-else-ne-clause-alike
returns-else-ne-clause-alike c =
    let told = c.as_slice.result.now in
    let known = c.as_slice-2.result.now in
    let same : told ≡ known = same_text told known (not_false _ c.if-ne.ensures) in
    alike_by _ c.args.self.now c.self.view_is c.args.known.now c.args.lost.now
    (sym c.as_slice.ensures.value ∙ same ∙ c.as_slice-2.ensures.value) c.is_empty.result c.is_empty.ensures
