-- The cores of a world, and what they leave when one of them has an event.
use Rattle.std.proofs.Common.{◌≡◌, ℕ, zero, suc, ◌+◌, ◌-◌, ◌<◌, List, [], ◌∷◌, length, get_or, Option, Some, None, Result, Ok, Err, map, option_map, slice_get, slice_set, refl, sym, ap, ◌∙◌, subst, arith}
use Rattle.std.proofs.lemmas.Option.{none-some, same_Some, slice_get-map, slice_get_read, slice_get_within}
use Rattle.std.proofs.lemmas.List.{length-map, length-set}
use Rattle.std.specs.Prelude.{IfOk, OnErr}
use Rattle.cover_problem.specs.Problem.{Problem}
use Rattle.cover_world.proofs.Later.{site_grows}
use Rattle.cover_world.specs.Cores.{ActsAt, Appends, AreNodes, AreSites, IsCoreOf, SitesCore, views_of}
use Rattle.cover_world.specs.Moves.{AnswerTells, FaultTells, IsSiteView, acting_refusal, site_refusal, world_answer, world_fault}
use Rattle.cover_world.specs.Worlds.{SiteStep}
use Rattle.cover_world.specs.declared.world_fault.WorldFault.TheVariants as world_faults
use Rattle.node_core.specs.Acting.{Acts, PutsOut, SiteCore, StepOf, named_fault, refusal_told}
use Rattle.node_core.specs.Formed.{IsFormed}
use Rattle.node_core.specs.NodeStep.{NodeStep}
use Rattle.node_core.specs.Refusal.{node_refusal}
use Rattle.node_core.specs.SiteView.{View}
use Rattle.node_core.specs.declared.act_fault.ActFault.{ActFault}
use Rattle.node_core.specs.declared.act_fault.ActFault.TheVariants as faults
use Rattle.node_core.specs.declared.event.Event.{Event}
use Rattle.node_core.specs.declared.reply.Reply.{Reply}
use Rattle.packet_wire.specs.declared.packet.Packet.{Packet}

-- ---- where a node's core stands

view_at : (registry : SiteCore) (nodes : List SiteCore) (place : ℕ) (core : SiteCore) → slice_get nodes place ≡ Some core
    → slice_get (views_of registry nodes) (suc place) ≡ Some core.view
view_at registry nodes place core at = slice_get-map (λ c. c.view) nodes place ∙ ap (option_map (λ c. c.view)) at

-- a node stands one place before its number
pub node_view : (registry : SiteCore) (nodes : List SiteCore) (node : ℕ) (core : SiteCore) → 0 < node → slice_get nodes (node - 1) ≡ Some core
    → slice_get (views_of registry nodes) node ≡ Some core.view
node_view registry nodes zero core l at = absurd (omega (arith, l))
node_view registry nodes (suc place) core l at =
    let here : suc place - 1 ≡ place = omega arith in
    view_at registry nodes place core (subst (λ k. slice_get nodes k ≡ Some core) here at)

-- where no node stands there is no site
pub no_view : (registry : SiteCore) (nodes : List SiteCore) (node : ℕ) → 0 < node → slice_get nodes (node - 1) ≡ None
    → slice_get (views_of registry nodes) node ≡ None
no_view registry nodes zero l at = absurd (omega (arith, l))
no_view registry nodes (suc place) l at =
    let here : suc place - 1 ≡ place = omega arith in
    slice_get-map (λ c. c.view) nodes place ∙ ap (option_map (λ c. c.view)) (subst (λ k. slice_get nodes k ≡ None) here at)

views_set : (nodes : List SiteCore) (place : ℕ) (after : SiteCore) → map (λ c. c.view) (slice_set nodes place after) ≡ slice_set (map (λ c. c.view) nodes) place after.view
views_set [] place after = refl
views_set (c ∷ cs) zero after = refl
views_set (c ∷ cs) (suc place) after = ap (λ vs. c.view ∷ vs) (views_set cs place after)

-- the views, once a node has another core
pub node_set : (registry : SiteCore) (nodes : List SiteCore) (node : ℕ) (after : SiteCore) → 0 < node
    → views_of registry (slice_set nodes (node - 1) after) ≡ slice_set (views_of registry nodes) node after.view
node_set registry nodes zero after l = absurd (omega (arith, l))
node_set registry nodes (suc place) after l =
    let here : suc place - 1 ≡ place = omega arith in
    ap (λ k. views_of registry (slice_set nodes k after)) here ∙ ap (λ vs. registry.view ∷ vs) (views_set nodes place after)

-- a core whose view is as it was
pub views_kept : (nodes : List SiteCore) (place : ℕ) (core after : SiteCore) → slice_get nodes place ≡ Some core → after.view ≡ core.view
    → map (λ c. c.view) (slice_set nodes place after) ≡ map (λ c. c.view) nodes
views_kept [] place core after at same = refl
views_kept (c ∷ cs) zero core after at same =
    ap (λ v. v ∷ map (λ d. d.view) cs) (same ∙ ap (λ (d : SiteCore). d.view) (sym (same_Some c core at)))
views_kept (c ∷ cs) (suc place) core after at same = ap (λ vs. c.view ∷ vs) (views_kept cs place core after at same)

-- ---- each node has its core

core_at : (problem : Problem) (node : ℕ) (nodes : List SiteCore) (place : ℕ) (core : SiteCore) → AreNodes problem node nodes
    → slice_get nodes place ≡ Some core → IsCoreOf problem (node + place) core
core_at problem node [] place core are at = absurd (none-some core at)
core_at problem node (c ∷ cs) zero core are at =
    let here : node ≡ node + 0 = omega arith in
    subst (λ k. IsCoreOf problem k core) here (subst (IsCoreOf problem node) (same_Some c core at) are.0)
core_at problem node (c ∷ cs) (suc place) core are at =
    let here : suc node + place ≡ node + suc place = omega arith in
    subst (λ k. IsCoreOf problem k core) here (core_at problem (suc node) cs place core are.1 at)

pub node_core : (problem : Problem) (nodes : List SiteCore) (node : ℕ) (core : SiteCore) → 0 < node → AreNodes problem 1 nodes
    → slice_get nodes (node - 1) ≡ Some core → IsCoreOf problem node core
node_core problem nodes node core l are at =
    let here : 1 + (node - 1) ≡ node = omega (arith, l) in
    subst (λ k. IsCoreOf problem k core) here (core_at problem 1 nodes (node - 1) core are at)

-- another core of the same node may take the place of one
pub nodes_set : (problem : Problem) (node : ℕ) (nodes : List SiteCore) (place : ℕ) (core after : SiteCore) → AreNodes problem node nodes
    → slice_get nodes place ≡ Some core → ((n : ℕ) → IsCoreOf problem n core → IsCoreOf problem n after)
    → AreNodes problem node (slice_set nodes place after)
nodes_set problem node [] place core after are at keeps = tt
nodes_set problem node (c ∷ cs) zero core after are at keeps = (keeps node (subst (IsCoreOf problem node) (same_Some c core at) are.0), are.1)
nodes_set problem node (c ∷ cs) (suc place) core after are at keeps = (are.0, nodes_set problem (suc node) cs place core after are.1 at keeps)

-- ---- what a core answers

tells_named : (fault : ActFault) → FaultTells (world_fault fault) (option_map world_faults.Core (named_fault fault))
tells_named faults.StaleJob = refl
tells_named faults.NotOpen = refl
tells_named faults.NotSettled = refl
tells_named faults.NotOut = refl
tells_named faults.OtherSite = refl
tells_named faults.Over = refl
tells_named faults.NamesSpent = refl
tells_named faults.Memory = refl
tells_named faults.BadCover = refl
tells_named faults.BadPrefix = refl

pub tells_refusal : (result : Result Reply ActFault) (refusal : Option ActFault) → refusal_told result ≡ refusal
    → AnswerTells (world_answer result) (option_map world_faults.Core refusal)
tells_refusal (Ok reply) refusal e = ap (option_map world_faults.Core) (sym e)
tells_refusal (Err fault) refusal e = subst (λ r. FaultTells (world_fault fault) (option_map world_faults.Core r)) e (tells_named fault)

module _ (problem : Problem) (views : List View) (node : ℕ) (event : Event) (core after : SiteCore) (result : Result Reply ActFault) (old new : List Packet)
    (same : core.problem ≡ problem) (at : slice_get views node ≡ Some core.view) where
  -- what a core does with its event
  abbrev pub CoreActs : Reply → List Packet → Type 0
  CoreActs reply sent = Acts (SiteStep node) core.problem core.view event reply sent after.view

  pub acted : (now : List View) → now ≡ slice_set views node after.view → PutsOut result old new CoreActs
      → IfOk (world_answer result) (λ reply. Appends old new (λ sent. ActsAt problem views node event reply sent now))
  acted now now_is puts = go result puts
    where
      go : (r : Result Reply ActFault) → PutsOut r old new CoreActs → IfOk (world_answer r) (λ reply. Appends old new (λ sent. ActsAt problem views node event reply sent now))
      go (Ok reply) puts = (
        puts.0,
        puts.1,
        record {
          before = core.view;
          after = after.view;
          is = at;
          acts = subst (λ p. Acts (SiteStep node) p core.view event reply puts.0 after.view) same puts.2;
          sites = now_is;
        },
      )
      go (Err fault) puts = tt

  pub refused : refusal_told result ≡ site_refusal node core.problem core.view event
      → AnswerTells (world_answer result) (acting_refusal problem (slice_get views node) node event)
  refused told =
      subst (λ o. AnswerTells (world_answer result) (acting_refusal problem o node event)) (sym at)
      (tells_refusal result (site_refusal node problem core.view event) (told ∙ ap (λ p. site_refusal node p core.view event) same))

-- the core of a node stays one of its node
pub stays_core : (problem : Problem) (place : ℕ) (event : Event) (core after : SiteCore) (result : Result Reply ActFault) (old new : List Packet)
    → after.problem ≡ core.problem → PutsOut result old new (λ reply sent. Acts (SiteStep (suc place)) core.problem core.view event reply sent after.view)
    → OnErr result (after.view ≡ core.view) → (n : ℕ) → IsCoreOf problem n core → IsCoreOf problem n after
stays_core problem place event core after (Ok reply) old new same puts kept n is = record {
  problem_is = same ∙ is.problem_is;
  node_is =
      let grown = site_grows (suc place) core.problem core.view event reply puts.0 after.view puts.2.steps in
      ap (λ s. s.node) grown.site ∙ is.node_is;
}
stays_core problem place event core after (Err fault) old new same puts kept n is = record {
  problem_is = same ∙ is.problem_is;
  node_is = ap (λ (v : View). v.site.node) kept ∙ is.node_is;
}

-- what is so after a fault of a core is so after the world's
pub on_fault : {P Q : Type 0} (result : Result Reply ActFault) → (P → Q) → OnErr result P → OnErr (world_answer result) Q
on_fault (Ok reply) f p = p
on_fault (Err fault) f p = f p

-- ---- a core that is looked up

-- A node's core, where it stands and as the callers see it.
pub record StandsAt (problem : Problem) (nodes : List SiteCore) (now : SitesCore) (node : ℕ) (core : SiteCore) : Type 0 where
  pub some : 0 < node
  pub at : slice_get nodes (node - 1) ≡ Some core
  pub is : IsCoreOf problem node core
  pub same : core.problem ≡ now.problem
  pub seen : slice_get now.sites node ≡ Some core.view

pub stands_there : (problem : Problem) (registry : SiteCore) (nodes : List SiteCore) (now : SitesCore) (node : ℕ) (core : SiteCore) → 0 < node
    → AreNodes problem 1 nodes → (record { problem = problem; sites = views_of registry nodes }) ≡ now → slice_get nodes (node - 1) ≡ Some core
    → StandsAt problem nodes now node core
stands_there problem registry nodes now node core some are view_is at =
    let is = node_core problem nodes node core some are at in
    record {
      some = some;
      at = at;
      is = is;
      same = is.problem_is ∙ ap (λ (s : SitesCore). s.problem) view_is;
      seen = ap (λ (s : SitesCore). slice_get s.sites node) (sym view_is) ∙ node_view registry nodes node core some at;
    }

pub stands_at : (problem : Problem) (registry : SiteCore) (nodes : List SiteCore) (now : SitesCore) (node len : ℕ) (core : SiteCore) → 0 < node
    → AreNodes problem 1 nodes → (record { problem = problem; sites = views_of registry nodes }) ≡ now → len ≡ length nodes → node - 1 < len
    → core ≡ get_or nodes (node - 1) core → StandsAt problem nodes now node core
stands_at problem registry nodes now node len core some are view_is whole within read =
    stands_there problem registry nodes now node core some are view_is (slice_get_read nodes len (node - 1) core whole within read)

-- at a node, a step of its site is one of a node
pub node_steps : (P : StepOf → Type 0) (node : ℕ) → 0 < node → P NodeStep → P (SiteStep node)
node_steps P zero l p = absurd (omega (arith, l))
node_steps P (suc node) l p = p

-- and what it refuses is what a node refuses
pub node_refuses : (problem : Problem) (view : View) (event : Event) (node : ℕ) → 0 < node
    → site_refusal node problem view event ≡ node_refusal problem view event
node_refuses problem view event zero l = absurd (omega (arith, l))
node_refuses problem view event (suc node) l = refl

-- ---- a node that restarts

-- where there is a node's view there is its core
pub within : (registry : SiteCore) (nodes : List SiteCore) (node : ℕ) (view : View) → 0 < node → slice_get (views_of registry nodes) node ≡ Some view
    → node - 1 < length nodes
within registry nodes node view l at =
    let inside = slice_get_within (views_of registry nodes) node view at in
    let whole : length (map (λ c. c.view) nodes) ≡ length nodes = length-map nodes (λ c. c.view) in
    omega (arith, l, inside, whole)

nodes_put : (problem : Problem) (node : ℕ) (nodes : List SiteCore) (place : ℕ) (after : SiteCore) → AreNodes problem node nodes
    → IsCoreOf problem (node + place) after → AreNodes problem node (slice_set nodes place after)
nodes_put problem node [] place after are is = tt
nodes_put problem node (c ∷ cs) zero after are is =
    let here : node + 0 ≡ node = omega arith in
    (subst (λ k. IsCoreOf problem k after) here is, are.1)
nodes_put problem node (c ∷ cs) (suc place) after are is =
    let here : node + suc place ≡ suc node + place = omega arith in
    (are.0, nodes_put problem (suc node) cs place after are.1 (subst (λ k. IsCoreOf problem k after) here is))

-- a core of its node may take the place of the one that stands there
pub sites_put : (problem : Problem) (registry : SiteCore) (nodes : List SiteCore) (node : ℕ) (after : SiteCore) → 0 < node
    → AreSites problem registry nodes → IsCoreOf problem node after → AreSites problem registry (slice_set nodes (node - 1) after)
sites_put problem registry nodes node after l are is = record {
  registry_is = are.registry_is;
  nodes_are =
      let here : node ≡ 1 + (node - 1) = omega (arith, l) in
      nodes_put problem 1 nodes (node - 1) after are.nodes_are (subst (λ k. IsCoreOf problem k after) here is);
  some =
      let length_is = length-set nodes (node - 1) after in
      omega (arith, length_is, are.some);
  few =
      let length_is = length-set nodes (node - 1) after in
      omega (arith, length_is, are.few);
}

-- ---- what is true of the view of each site

pub site_view : (problem : Problem) (node : ℕ) (view : View) → IsFormed problem view → view.site.node ≡ node → IsSiteView node view
site_view problem zero view formed is = is
site_view problem (suc node) view formed is =
    record { parents = formed.units.parents; ascending = formed.units.ascending; node = omega (arith, is) }
