use Rattle.std.proofs.Common.{◌≡◌, ◌<◌, ◌≤◌, Some, slice_get, slice_set, sym, ap, ◌∙◌, arith}
use Rattle.cover_world.proofs.SiteCores.{node_set, sites_put, within}
use Rattle.cover_world.specs.Cores.{SitesCore, views_of}
use Rattle.cover_world.specs.Worlds.{opening_node}
use Rattle.node_core.specs.Acting.{SiteCore}
use Rattle.steal_return.specs.Ledger.{Ledger}
use Rattle.cover_world.proofs.sites.Sites.restart.Goals as goal

pub start-requires-clause-last : goal.start-requires-clause-last
start-requires-clause-last c =
    let node = c.in-Some.ensures.node in
    let nodes : c.nodes-nodes.result ≡ c.in-Some.state.now.nodes = c.nodes-nodes.ensures ∙ ap (λ (l : Ledger). l.nodes) c.ledger.ensures in
    let last : c.in-Some.state.now.site.node ≤ c.in-Some.state.now.nodes = c.in-Some.ensures.formed.within in
    omega (arith, node, nodes, last)

pub index_mut-requires : goal.index_mut-requires
index_mut-requires c =
    let now = c.args.self.now in
    let seen : slice_get (views_of c.self.inside.registry c.self.inside.nodes.items) c.args.node ≡ Some c.in-Some.state.now =
    ap (λ (s : SitesCore). slice_get s.sites c.args.node) c.self.view_is ∙ sym c.in-Some.ensures.state in
    let place = within c.self.inside.registry c.self.inside.nodes.items c.args.node c.in-Some.state.now (omega (arith, c.if-node-eq0.false)) seen in
    omega (arith, place, c.self.inside.nodes.ok.0)

pub invariant_of-self : goal.invariant_of-self
invariant_of-self c =
    sites_put c.self.inside.problem.now c.self.inside.registry c.self.inside.nodes.items c.args.node c.in_ok-core.core (omega (arith, c.if-node-eq0.false))
    c.self.invariant
    (record {
      problem_is = ap (λ (s : SiteCore). s.problem) c.in_ok-core.ensures;
      node_is = ap (λ (s : SiteCore). s.view.site.node) c.in_ok-core.ensures;
    })

pub returns-clause-begins : goal.returns-clause-begins
returns-clause-begins c =
    let now = c.args.self.now in
    let old = c.in-Some.state.now in
    let nodes : c.nodes-nodes.result ≡ old.nodes = c.nodes-nodes.ensures ∙ ap (λ (l : Ledger). l.nodes) c.ledger.ensures in
    let some : 0 < c.args.node = omega (arith, c.if-node-eq0.false) in
    let fresh : c.in_ok-core.core.view ≡ opening_node old.nodes c.args.node c.args.incarnation 1000000 =
    ap (λ (s : SiteCore). s.view) c.in_ok-core.ensures ∙ ap (λ n. opening_node n c.args.node c.args.incarnation 1000000) nodes in
    record {
      before = old;
      is = sym c.in-Some.ensures.state;
      not_registry = some;
      greater =
          let site = ap (λ s. s.incarnation) c.site.ensures in
          omega (arith, site, c.if-incarnation-site.false);
      sites =
          node_set c.self.inside.registry c.self.inside.nodes.items c.args.node c.in_ok-core.core some
          ∙ ap (λ (t : SitesCore). slice_set t.sites c.args.node c.in_ok-core.core.view) c.self.view_is
          ∙ ap (λ v. slice_set now.sites c.args.node v) fresh;
    }
