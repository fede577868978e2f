use Rattle.std.proofs.Common.{◌≡◌, ◌≤◌, ◌++◌, sym, ap, ◌∙◌, arith}
use Rattle.cover_world.proofs.Searchable.{searchable}
use Rattle.spawn_frame.specs.Tables.{prefix_in}
use Rattle.spawn_frame.specs.Units.{unit_of}
use Rattle.steal_return.specs.Ledger.{Ledger}
use Rattle.cover_world.proofs.sites.Sites.job_prefix.Goals as goal

pub returns-clause-ok : goal.returns-clause-ok
returns-clause-ok c =
    let view = c.in-Some.state.now in
    let table = c.table-table.result.now in
    let node : 1 ≤ view.site.node = (let at = c.in-Some.ensures.node in omega (arith, at, c.if-node-eq0.false)) in
    let table_is : table ≡ view.table = c.table-table.ensures.table ∙ ap (λ (l : Ledger). l.table) c.ledger.ensures in
    searchable c.args.self.now.problem view _ table c.args.job c.prefix_into.new.list.items c.in-Some.ensures.formed node (sym c.in-Some.ensures.state) table_is
    (sym c.is_at_work.ensures ∙ c.if-not-is_at_work.false)
    (c.in_ok-prefix_into.ensures.ok ∙ ap (λ ns. ns ++ prefix_in (unit_of table c.args.job.unit)) c.new-prefix.ensures.items)
