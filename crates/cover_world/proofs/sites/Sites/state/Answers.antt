use Rattle.std.proofs.Common.{◌≡◌, ◌-◌, Some, length, slice_get, refl, sym, ap, ◌∙◌, subst, arith}
use Rattle.std.proofs.lemmas.Bool.{ltb-true}
use Rattle.std.proofs.lemmas.Option.{slice_get_read}
use Rattle.cover_problem.specs.Problem.{Problem}
use Rattle.cover_world.proofs.SiteCores.{StandsAt, stands_there}
use Rattle.node_core.specs.Formed.{IsFormed}
use Rattle.node_core.specs.SiteView.{View}
use Rattle.cover_world.proofs.sites.Sites.state.Goals as goal
use Rattle.cover_world.proofs.sites.Sites.state.Goals.{After-state-2}

-- the core of the node
stands : (c : After-state-2) → StandsAt c.self.inside.problem.now c.self.inside.nodes.items c.args.self.now c.args.node c.in_ok-core.core.now
stands c =
    let core = c.in_ok-core.core.now in
    let at : slice_get c.self.inside.nodes.items (c.args.node - 1) ≡ Some core =
    ap (λ cs. slice_get cs (c.args.node - 1)) (sym c.deref.ensures.value)
    ∙ slice_get_read c.deref.result.now (length c.deref.result.now) (c.args.node - 1) core refl (ltb-true _ _ (sym c.in_ok-core.ensures.lookup.0)) c.in_ok-core.ensures.lookup.1 in
    stands_there c.self.inside.problem.now c.self.inside.registry c.self.inside.nodes.items c.args.self.now c.args.node core
    (omega (arith, c.if-node-eq0.false)) c.self.invariant.nodes_are c.self.view_is at

pub returns-clause-node : goal.returns-clause-node
returns-clause-node c = ap (λ (v : View). v.site.node) c.state-2.ensures.state ∙ (stands c).is.node_is

pub returns-clause-formed : goal.returns-clause-formed
returns-clause-formed c =
    subst (λ (p : Problem). IsFormed p c.state-2.result.now) (stands c).same
    (subst (λ (v : View). IsFormed c.in_ok-core.core.now.problem v) (sym c.state-2.ensures.state) c.state-2.ensures.formed.formed)
