-- What the registry knows of the nodes, once one of them greets.
use Rattle.std.proofs.Common.{◌≡◌, ℕ, zero, suc, ◌≤◌, max, true, List, [], ◌∷◌, length, drop, refl, ◌∙◌, arith}
use Rattle.std.specs.Prelude.{slice_index}
use Rattle.std.specs.List.{list_all}
use Rattle.std.proofs.lemmas.Bool.{and_from, and_parts, lt-ltb}
use Rattle.node_core.proofs.Knowing.{counted_max}
use Rattle.node_core.specs.Formed.{IsKnown}
use Rattle.packet_wire.specs.WellFormed.{are_incarnations, is_counted, is_node_count}
use Rattle.root_registry.specs.RegistryStep.{raised}
use Rattle.steal_return.proofs.Learning.{raised_length}

raised_counted : (known : List ℕ) (node incarnation : ℕ) → is_counted incarnation ≡ true → list_all is_counted known ≡ true → list_all is_counted (raised known node incarnation) ≡ true
raised_counted [] node incarnation h i = refl
raised_counted (k ∷ ks) zero incarnation h i =
    let p = and_parts (is_counted k) (list_all is_counted ks) i in
    and_from (is_counted (max k incarnation)) (list_all is_counted ks) (counted_max k incarnation p.0 h) p.1
raised_counted (k ∷ ks) (suc node) incarnation h i =
    let p = and_parts (is_counted k) (list_all is_counted ks) i in
    and_from (is_counted k) (list_all is_counted (raised ks node incarnation)) p.0 (raised_counted ks node incarnation h p.1)

-- the registry's stays, where a node greets
raised_first : (known : List ℕ) (node incarnation : ℕ) → 1 ≤ node → slice_index (raised known node incarnation) 0 ≡ slice_index known 0
raised_first [] node incarnation some = refl
raised_first (k ∷ ks) zero incarnation some = absurd (omega (arith, some))
raised_first (k ∷ ks) (suc node) incarnation some = refl

pub raised_known : (nodes node incarnation : ℕ) (known : List ℕ) → 1 ≤ node → is_counted incarnation ≡ true → IsKnown nodes known → IsKnown nodes (raised known node incarnation)
raised_known nodes node incarnation known some h k = record {
  each = raised_length known node incarnation ∙ k.each;
  registry = raised_first known node incarnation some ∙ k.registry;
  counted = raised_counted known node incarnation h k.counted;
}

-- ---- what is known of the nodes alone

-- The incarnations of so many nodes.
pub record OfNodes (nodes : ℕ) (incarnations : List ℕ) : Type 0 where
  pub each : length incarnations ≡ nodes
  pub counted : list_all is_counted incarnations ≡ true

pub of_nodes : (nodes : ℕ) (known : List ℕ) → IsKnown nodes known → OfNodes nodes (drop 1 known)
of_nodes nodes [] k = let each = k.each in absurd (omega (arith, each))
of_nodes nodes (n ∷ ns) k =
    let each = k.each in
    record {
      each = omega (arith, each);
      counted = (and_parts (is_counted n) (list_all is_counted ns) k.counted).1;
    }

pub members_told : (nodes : ℕ) (incarnations : List ℕ) → 1 ≤ nodes → nodes ≤ 16 → OfNodes nodes incarnations → are_incarnations incarnations ≡ true
members_told nodes incarnations some most h =
    let each = h.each in
    and_from (is_node_count (length incarnations)) (list_all is_counted incarnations)
    (and_from _ _ (lt-ltb 0 (length incarnations) (omega (arith, each, some))) (lt-ltb (length incarnations) 17 (omega (arith, each, most))))
    h.counted
