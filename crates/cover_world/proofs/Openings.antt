-- The cores of the nodes of a world that begins.
use Rattle.std.proofs.Common.{◌≡◌, ℕ, zero, suc, ◌+◌, ◌≤◌, List, [], ◌∷◌, ◌++◌, length, map, replicate, refl, sym, ap, ◌∙◌, subst, arith}
use Rattle.cover_problem.specs.Problem.{Problem}
use Rattle.cover_world.specs.Cores.{AreNodes, AreSites, opening_cores, opening_sites, views_of}
use Rattle.cover_world.specs.Worlds.{opening_node, opening_nodes}
use Rattle.node_core.specs.Acting.{SiteCore, opening_core}
use Rattle.root_registry.specs.Core.{opening_registry_core}

module _ (problem : Problem) (nodes limit : ℕ) where
  -- a node of this number that begins
  abbrev pub first_core : ℕ → SiteCore
  first_core node = opening_core problem (record { node = node; incarnation = 1 }) nodes limit

  one_more : (node place : ℕ) → opening_cores problem nodes node (replicate (suc place) limit)
      ≡ opening_cores problem nodes node (replicate place limit) ++ first_core (node + place) ∷ []
  one_more node zero =
      let here : node ≡ node + 0 = omega arith in
      ap (λ n. first_core n ∷ []) here
  one_more node (suc place) =
      let here : suc node + place ≡ node + suc place = omega arith in
      ap (λ cs. first_core node ∷ cs)
      (one_more (suc node) place ∙ ap (λ n. opening_cores problem nodes (suc node) (replicate place limit) ++ first_core n ∷ []) here)

  -- one node more begins
  pub opened_next : (before after : List SiteCore) (place : ℕ) (core : SiteCore) → before ≡ opening_cores problem nodes 1 (replicate place limit)
      → core ≡ first_core (place + 1) → after ≡ before ++ core ∷ [] → after ≡ opening_cores problem nodes 1 (replicate (place + 1) limit)
  opened_next before after place core before_is core_is after_is =
      let more : suc place ≡ place + 1 = omega arith in
      let here : place + 1 ≡ 1 + place = omega arith in
      after_is ∙ ap (λ cs. cs ++ core ∷ []) before_is
      ∙ ap (λ c. opening_cores problem nodes 1 (replicate place limit) ++ c ∷ []) (core_is ∙ ap first_core here)
      ∙ sym (one_more 1 place) ∙ ap (λ n. opening_cores problem nodes 1 (replicate n limit)) more

  are_nodes : (node count : ℕ) → AreNodes problem node (opening_cores problem nodes node (replicate count limit))
  are_nodes node zero = tt
  are_nodes node (suc count) = (record { problem_is = refl; node_is = refl }, are_nodes (suc node) count)

  how_many : (node count : ℕ) → length (opening_cores problem nodes node (replicate count limit)) ≡ count
  how_many node zero = refl
  how_many node (suc count) = ap suc (how_many (suc node) count)

  their_views : (node count : ℕ) → map (λ c. c.view) (opening_cores problem nodes node (replicate count limit)) ≡ opening_nodes nodes node (replicate count limit)
  their_views node zero = refl
  their_views node (suc count) = ap (λ vs. opening_node nodes node 1 limit ∷ vs) (their_views (suc node) count)

  module _ (registry : SiteCore) (cores : List SiteCore) (registry_is : registry ≡ opening_registry_core problem nodes)
      (cores_are : cores ≡ opening_cores problem nodes 1 (replicate nodes limit)) where
    pub sites_open : 1 ≤ nodes → nodes ≤ 16 → AreSites problem registry cores
    sites_open some few = record {
      registry_is = ap (λ (c : SiteCore). c.problem) registry_is;
      nodes_are = subst (AreNodes problem 1) (sym cores_are) (are_nodes 1 nodes);
      some =
          let count = ap length cores_are ∙ how_many 1 nodes in
          omega (arith, count, some);
      few =
          let count = ap length cores_are ∙ how_many 1 nodes in
          omega (arith, count, few);
    }

    pub views_open : views_of registry cores ≡ (opening_sites problem nodes (replicate nodes limit)).sites
    views_open =
        ap (λ (c : SiteCore). views_of c cores) registry_is
        ∙ ap (λ cs. views_of (opening_registry_core problem nodes) cs) cores_are
        ∙ ap (λ vs. (opening_registry_core problem nodes).view ∷ vs) (their_views 1 nodes)
