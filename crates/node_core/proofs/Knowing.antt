-- What a site knows of the nodes, and stays known.
use Rattle.std.proofs.Common.{◌≡◌, ◌≢◌, ℕ, zero, suc, ◌<◌, ◌≤◌, max, Bool, true, false, ◌||◌, not, cond, ◌==◌, List, [], ◌∷◌, length, refl, sym, ap, ◌∙◌, arith}
use Rattle.std.specs.Prelude.{replicate, slice_index}
use Rattle.std.specs.List.{list_all}
use Rattle.std.proofs.lemmas.Bool.{and_from, and_parts, lt-ltb, ne_eqb, not_from_false, or_left}
use Rattle.std.proofs.lemmas.List.{length-replicate}
use Rattle.node_core.proofs.Telling.{counted_some, counted_told, not_registry}
use Rattle.node_core.specs.Formed.{IsKnown, is_another}
use Rattle.node_core.specs.Requests.{known_site}
use Rattle.node_core.specs.SiteView.{View}
use Rattle.packet_wire.specs.WellFormed.{are_incarnations, is_counted, is_incarnation_of, is_node, is_node_count, is_site}
use Rattle.steal_return.proofs.Learning.{known_length}
use Rattle.steal_return.specs.Members.{learnt, now_known}
use Rattle.packet_wire.proofs.Forms.{counted_below}

-- ---- sites

pub node_site : (node incarnation : ℕ) → 1 ≤ node → node ≤ 16 → is_counted incarnation ≡ true → is_site (record { node = node; incarnation = incarnation }) ≡ true
node_site node incarnation some most h =
    and_from (is_node node) (is_incarnation_of node incarnation) (lt-ltb node 17 (omega (arith, most)))
    (and_from (is_counted incarnation) (not (node == 0) || incarnation == 1) h (or_left (not (node == 0)) (incarnation == 1) (not_registry node some)))

counted_at : (known : List ℕ) (k : ℕ) → k < length known → list_all is_counted known ≡ true → is_counted (slice_index known k) ≡ true
counted_at [] k l h = absurd (omega (arith, l))
counted_at (n ∷ ns) zero l h = (and_parts (is_counted n) (list_all is_counted ns) h).0
counted_at (n ∷ ns) (suc k) l h = counted_at ns k (omega (arith, l)) (and_parts (is_counted n) (list_all is_counted ns) h).1

known_is_site : (nodes node : ℕ) (known : List ℕ) → nodes ≤ 16 → node ≤ nodes → IsKnown nodes known → is_site (record { node = node; incarnation = slice_index known node }) ≡ true
known_is_site nodes zero known most within k = ap (λ n. is_site (record { node = 0; incarnation = n })) k.registry
known_is_site nodes (suc node) known most within k =
    let each = k.each in
    node_site (suc node) (slice_index known (suc node)) (omega arith) (omega (arith, most, within)) (counted_at known (suc node) (omega (arith, within, each)) k.counted)

pub known_another : (view : View) (victim : ℕ) → view.nodes ≤ 16 → IsKnown view.nodes view.known → victim ≤ view.nodes → victim ≢ view.site.node → is_another view.site (known_site view victim) ≡ true
known_another view victim most k within other =
    and_from (is_site (known_site view victim)) (not (view.site.node == victim)) (known_is_site view.nodes victim view.known most within k)
    (not_from_false (view.site.node == victim) (ne_eqb view.site.node victim (λ e. other (sym e))))

-- ---- what is known at first

each_first : (n : ℕ) → list_all is_counted (replicate n 1) ≡ true
each_first zero = refl
each_first (suc n) = each_first n

pub first_known : (nodes : ℕ) → IsKnown nodes (replicate (suc nodes) 1)
first_known nodes = record { each = length-replicate (suc nodes) 1; registry = refl; counted = each_first (suc nodes) }

-- ---- what is learnt

pub counted_max : (k m : ℕ) → is_counted k ≡ true → is_counted m ≡ true → is_counted (max k m) ≡ true
counted_max k m h i =
    let some = counted_some k h in
    let first = counted_below k h in
    let second = counted_below m i in
    counted_told (max k m) (omega (arith, some)) (omega (arith, first, second))

learnt_counted : (self node : ℕ) (ks ms : List ℕ) → list_all is_counted ks ≡ true → list_all is_counted ms ≡ true → list_all is_counted (learnt self node ks ms) ≡ true
learnt_counted self node [] ms h i = refl
learnt_counted self node (k ∷ ks) [] h i = h
learnt_counted self node (k ∷ ks) (m ∷ ms) h i =
    let p = and_parts (is_counted k) (list_all is_counted ks) h in
    let q = and_parts (is_counted m) (list_all is_counted ms) i in
    and_from (is_counted (cond (node == self) k (max k m))) (list_all is_counted (learnt self (suc node) ks ms)) (go (node == self) p.0 q.0) (learnt_counted self (suc node) ks ms p.1 q.1)
  where
    go : (b : Bool) → is_counted k ≡ true → is_counted m ≡ true → is_counted (cond b k (max k m)) ≡ true
    go true p q = p
    go false p q = counted_max k m p q

now_counted : (self : ℕ) (known ms : List ℕ) → 0 < length known → list_all is_counted known ≡ true → list_all is_counted ms ≡ true → list_all is_counted (now_known self known ms) ≡ true
now_counted self [] ms l h i = absurd (omega (arith, l))
now_counted self (k ∷ ks) ms l h i =
    let p = and_parts (is_counted k) (list_all is_counted ks) h in
    and_from (is_counted k) (list_all is_counted (learnt self 1 ks ms)) p.0 (learnt_counted self 1 ks ms p.1 i)

pub learns_known : (nodes self : ℕ) (known ms : List ℕ) → are_incarnations ms ≡ true → IsKnown nodes known → IsKnown nodes (now_known self known ms)
learns_known nodes self known ms told k =
    let each = k.each in
    let some : 0 < length known = omega (arith, each) in
    record {
      each = known_length self known ms some ∙ k.each;
      registry = k.registry;
      counted = now_counted self known ms some k.counted (and_parts (is_node_count (length ms)) (list_all is_counted ms) told).1;
    }
