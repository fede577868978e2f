use Rattle.std.proofs.Common.{◌≡◌, ◌-◌, [], ◌∷◌, Some, None, slice_get, slice_set, sym, ap, ◌∙◌, subst, arith}
use Rattle.cover_problem.specs.Problem.{Problem}
use Rattle.cover_world.proofs.SiteCores.{StandsAt, acted, no_view, node_refuses, node_set, node_steps, nodes_set, on_fault, refused, stands_at, stays_core, views_kept}
use Rattle.std.proofs.lemmas.Option.{slice_get_past}
use Rattle.std.proofs.lemmas.List.{length-set}
use Rattle.cover_world.specs.Cores.{SitesCore, views_of}
use Rattle.cover_world.specs.Moves.{acting_refusal}
use Rattle.node_core.specs.Acting.{Acts, PutsOut, StepOf}
use Rattle.node_core.specs.Refusal.{IsFit}
use Rattle.cover_world.proofs.sites.Sites.act.Goals as goal
use Rattle.cover_world.proofs.sites.Sites.act.Goals.{After-world_answer-2}

pub returns-then-node-eq0-clause-acts : goal.returns-then-node-eq0-clause-acts
returns-then-node-eq0-clause-acts c =
    let now = c.args.self.now in
    let core = c.self.inside.registry in
    let after = c.act.new.self in
    let same : core.problem ≡ now.problem = c.self.invariant.registry_is ∙ ap (λ (s : SitesCore). s.problem) c.self.view_is in
    let here : c.args.node ≡ 0 = omega (arith, c.if-node-eq0.true) in
    let seen : slice_get now.sites 0 ≡ Some core.view = ap (λ (s : SitesCore). slice_get s.sites 0) (sym c.self.view_is) in
    let now_is : views_of after c.self.inside.nodes.items ≡ slice_set now.sites 0 after.view =
    ap (λ (s : SitesCore). slice_set s.sites 0 after.view) c.self.view_is in
    rw (here, c.world_answer.ensures)
    (acted now.problem now.sites 0 c.args.event core after c.act.result _ _ same seen _ now_is c.act.ensures.acts)

pub returns-then-place-len-clause-refusal : goal.returns-then-place-len-clause-refusal
returns-then-place-len-clause-refusal c =
    let past : slice_get c.self.inside.nodes.items (c.args.node - 1) ≡ None =
    slice_get_past c.self.inside.nodes.items (c.args.node - 1) (omega (arith, c.if-place-len.true, c.len.ensures, c.self.inside.nodes.ok.0)) in
    let none = no_view c.self.inside.registry c.self.inside.nodes.items c.args.node (omega (arith, c.if-node-eq0.false)) past in
    ap (λ o. acting_refusal c.args.self.now.problem o c.args.node c.args.event)
    (ap (λ (s : SitesCore). slice_get s.sites c.args.node) (sym c.self.view_is) ∙ none)

pub act-requires-2 : goal.act-requires-2
act-requires-2 c =
    let s = stands_at c.self.inside.problem.now c.self.inside.registry c.self.inside.nodes.items c.args.self.now c.args.node c.len.result c.index_mut.result.now
    (omega (arith, c.if-node-eq0.false)) c.self.invariant.nodes_are c.self.view_is (c.len.ensures ∙ c.self.inside.nodes.ok.0)
    (omega (arith, c.if-place-len.false)) c.index_mut.ensures.value in
    subst (λ (p : Problem). IsFit p c.args.event) (sym s.same) c.requires.fit

-- the core of the node that acts
stands : (c : After-world_answer-2) → StandsAt c.self.inside.problem.now c.self.inside.nodes.items c.args.self.now c.args.node c.index_mut.result.now
stands c =
    stands_at c.self.inside.problem.now c.self.inside.registry c.self.inside.nodes.items c.args.self.now c.args.node c.len.result c.index_mut.result.now
    (omega (arith, c.if-node-eq0.false)) c.self.invariant.nodes_are c.self.view_is (c.len.ensures ∙ c.self.inside.nodes.ok.0)
    (omega (arith, c.if-place-len.false)) c.index_mut.ensures.value

pub invariant_of-self-2 : goal.invariant_of-self-2
invariant_of-self-2 c =
    let keeps = stays_core c.self.inside.problem.now 0 c.args.event c.index_mut.result.now c.act-2.new.self c.act-2.result _ _
    c.act-2.ensures.problem c.act-2.ensures.acts c.act-2.ensures.err in
    record {
      registry_is = c.self.invariant.registry_is;
      nodes_are = nodes_set c.self.inside.problem.now 1 c.self.inside.nodes.items (c.args.node - 1) c.index_mut.result.now c.act-2.new.self
          c.self.invariant.nodes_are (stands c).at keeps;
      some =
          let length_is = length-set c.self.inside.nodes.items (c.args.node - 1) c.act-2.new.self in
          omega (arith, length_is, c.self.invariant.some);
      few =
          let length_is = length-set c.self.inside.nodes.items (c.args.node - 1) c.act-2.new.self in
          omega (arith, length_is, c.self.invariant.few);
    }

pub returns-clause-acts : goal.returns-clause-acts
returns-clause-acts c =
    let now = c.args.self.now in
    let s = stands c in
    let after = c.act-2.new.self in
    let now_is : views_of c.self.inside.registry (slice_set c.self.inside.nodes.items (c.args.node - 1) after) ≡ slice_set now.sites c.args.node after.view =
    node_set c.self.inside.registry c.self.inside.nodes.items c.args.node after s.some
    ∙ ap (λ (t : SitesCore). slice_set t.sites c.args.node after.view) c.self.view_is in
    let acts = node_steps
    (λ (step : StepOf). PutsOut c.act-2.result c.args.out.now.items c.act-2.new.out.items
    (λ reply sent. Acts step c.index_mut.result.now.problem c.index_mut.result.now.view c.args.event reply sent after.view))
    c.args.node s.some c.act-2.ensures.acts in
    rw c.world_answer-2.ensures
    (acted now.problem now.sites c.args.node c.args.event c.index_mut.result.now after c.act-2.result _ _ s.same s.seen _ now_is acts)

pub returns-clause-refusal : goal.returns-clause-refusal
returns-clause-refusal c =
    let now = c.args.self.now in
    let s = stands c in
    rw c.world_answer-2.ensures
    (refused now.problem now.sites c.args.node c.args.event c.index_mut.result.now c.act-2.new.self c.act-2.result [] [] s.same s.seen
    (c.act-2.ensures.refusal ∙ sym (node_refuses c.index_mut.result.now.problem c.index_mut.result.now.view c.args.event c.args.node s.some)))

pub returns-clause-err : goal.returns-clause-err
returns-clause-err c =
    let s = stands c in
    let core = c.index_mut.result.now in
    let after = c.act-2.new.self in
    rw c.world_answer-2.ensures
    (on_fault c.act-2.result
    (λ kept. ap (λ views. record { problem = c.self.inside.problem.now; sites = c.self.inside.registry.view ∷ views })
    (views_kept c.self.inside.nodes.items (c.args.node - 1) core after s.at kept) ∙ c.self.view_is)
    c.act-2.ensures.err)
