use Rattle.std.proofs.Common.{◌≡◌, ℕ, zero, suc, ◌≤◌, arith, refl}
use Rattle.node_core.specs.Formed.{MayBegin}
use Rattle.node_core.specs.SiteView.{opening_view}
use Rattle.run_book.specs.Sites.{MayBeginAt, opening_at}
use Rattle.run_book.proofs.laws.sites_begin.Goals as goal
use Rattle.spawn_frame.specs.declared.site.Site.{Site}
use Rattle.steal_return.specs.Ledger.{opening_ledger}

nodes_begin : (n : ℕ) (site : Site) (nodes limit : ℕ) → 1 ≤ n → MayBegin site nodes limit
    → MayBeginAt n site nodes limit × (opening_at n site nodes limit ≡ opening_view (opening_ledger site nodes limit))
nodes_begin zero site nodes limit first may = absurd (omega (arith, first))
nodes_begin (suc n) site nodes limit first may = (may, refl)

pub returns-clause-node : goal.returns-clause-node
returns-clause-node c = λ run site limit may. nodes_begin site.node site run.nodes limit may.first may

pub returns-clause-registry : goal.returns-clause-registry
returns-clause-registry c = λ run limit. (refl, refl)
