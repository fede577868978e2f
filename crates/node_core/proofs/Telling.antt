-- What has to be true of a packet that a site puts out, so that it has a spelling.
use Rattle.std.proofs.Common.{◌≡◌, ℕ, suc, ◌<◌, ◌≤◌, Bool, true, ◌&&◌, not, ◌==◌, nat_lt, List, [], ◌∷◌, ◌++◌, length, Option, Some, None, refl, sym, subst, ◌∙◌, arith}
use Rattle.std.specs.List.{AllByRecursion, list_all}
use Rattle.std.proofs.lemmas.List.{length-append}
use Rattle.std.proofs.lemmas.Bool.{and_from, and_parts, eqb-false, le-ltb, lt-ltb, ltb-true, ne_eqb, not-true, not_from_false}
use Rattle.cover_problem.proofs.Firsts.{few_options, found_option, found_prefix}
use Rattle.cover_problem.specs.Prefix.{are_apart, is_prefix}
use Rattle.cover_problem.specs.Prefix as prefixes
use Rattle.cover_problem.specs.Problem.{IsProblem, Problem}
use Rattle.cover_problem.specs.Search.{first}
use Rattle.node_core.specs.Formed.{AllFormed, is_another, is_thief}
use Rattle.packet_wire.specs.Kinds.{is_directed, is_routed, kind_of}
use Rattle.packet_wire.specs.WellFormed.{are_options, are_siblings, is_body, is_counted, is_next_serial, is_option, is_option_count, is_parent, is_result, is_serial, is_sibling, is_sibling_count, is_site, is_well_formed}
use Rattle.packet_wire.specs.declared.packet.Body.{Body}
use Rattle.packet_wire.specs.declared.packet.Body.TheVariants.{GiveMany}
use Rattle.packet_wire.specs.declared.packet.Packet.{Packet}
use Rattle.spawn_frame.specs.Gifts.{sibling_gifts}
use Rattle.spawn_frame.specs.declared.child_result.ChildResult.TheVariants.{Cover}
use Rattle.spawn_frame.specs.declared.siblings.Sibling.{Sibling}
use Rattle.spawn_frame.specs.declared.site.Site.{Site}

-- ---- numbers

pub serial_told : (n limit : ℕ) → n < limit → limit < 4294967296 → is_serial n ≡ true
serial_told n limit l m = lt-ltb n 4294967296 (omega (arith, l, m))

pub counted_told : (n : ℕ) → 1 ≤ n → n < 4294967296 → is_counted n ≡ true
counted_told n some l = and_from (nat_lt 0 n) (nat_lt n 4294967296) (lt-ltb 0 n (omega (arith, some))) (lt-ltb n 4294967296 l)

pub counted_some : (n : ℕ) → is_counted n ≡ true → 1 ≤ n
counted_some n h =
    let l = ltb-true 0 n (and_parts (nat_lt 0 n) (nat_lt n 4294967296) h).0 in
    omega (arith, l)

pub counted_more : (n : ℕ) → is_counted n ≡ true → n < 4294967295 → is_counted (suc n) ≡ true
counted_more n h l = counted_told (suc n) (omega arith) (omega (arith, l))

-- ---- options

each_told : (bound : ℕ) → bound ≤ 20000 → (options : List ℕ) → list_all (λ o. nat_lt o bound) options ≡ true → list_all is_option options ≡ true
each_told bound few [] h = refl
each_told bound few (o ∷ os) h =
    let p = and_parts (nat_lt o bound) (list_all (λ x. nat_lt x bound) os) h in
    let l = ltb-true o bound p.0 in
    and_from (is_option o) (list_all is_option os) (lt-ltb o 20000 (omega (arith, l, few))) (each_told bound few os p.1)

options_told : (problem : Problem) (options : List ℕ) (least : ℕ) → IsProblem problem → is_prefix problem options ≡ true → least ≤ length options → are_options least options ≡ true
options_told problem options least p h some =
    let few = few_options problem options p h in
    and_from (not (nat_lt (length options) least) && nat_lt (length options) 1001) (list_all is_option options)
    (and_from (not (nat_lt (length options) least)) (nat_lt (length options) 1001)
    (not_from_false (nat_lt (length options) least) (le-ltb (length options) least some)) (lt-ltb (length options) 1001 (omega (arith, few))))
    (each_told (length problem.options) p.options options (and_parts (prefixes.are_options problem options) (are_apart problem options) h).0)

pub prefix_told : (problem : Problem) (prefix : List ℕ) → IsProblem problem → is_prefix problem prefix ≡ true → are_options 0 prefix ≡ true
prefix_told problem prefix p h = options_told problem prefix 0 p h (omega arith)

all_snoc : (test : ℕ → Bool) (xs : List ℕ) (x : ℕ) → list_all test (xs ++ x ∷ []) ≡ true → (list_all test xs ≡ true) × (test x ≡ true)
all_snoc test [] x h = (refl, (and_parts (test x) true h).0)
all_snoc test (y ∷ ys) x h =
    let p = and_parts (test y) (list_all test (ys ++ x ∷ [])) h in
    let r = all_snoc test ys x p.1 in
    (and_from (test y) (list_all test ys) p.0 r.0, r.1)

-- the prefix of a parent can be told, and the option of its child
pub parent_told : (problem : Problem) (prefix : List ℕ) (option : ℕ) → IsProblem problem → is_prefix problem (prefix ++ option ∷ []) ≡ true → (is_parent prefix ≡ true) × (is_option option ≡ true)
parent_told problem prefix option p h =
    let told = and_parts (is_option_count 0 (length (prefix ++ option ∷ []))) (list_all is_option (prefix ++ option ∷ [])) (prefix_told problem (prefix ++ option ∷ []) p h) in
    let few = ltb-true (length (prefix ++ option ∷ [])) 1001 (and_parts (not (nat_lt (length (prefix ++ option ∷ [])) 0)) (nat_lt (length (prefix ++ option ∷ [])) 1001) told.0).1 in
    let each = all_snoc is_option prefix option told.1 in
    (and_from (nat_lt (length prefix) 1000) (list_all is_option prefix) (lt-ltb (length prefix) 1000 (omega (arith, few, length-append prefix (option ∷ [])))) each.0, each.1)

-- a cover that a search finds has a spelling
pub cover_told : (problem : Problem) (prefix cover : List ℕ) → IsProblem problem → is_prefix problem prefix ≡ true → first problem prefix ≡ Some cover → is_result (Cover cover) ≡ true
cover_told problem prefix cover p h e = options_told problem cover 1 p (found_prefix problem prefix cover h e) (found_option problem prefix cover p h e)

-- ---- sites

other_way : (a b : ℕ) → not (a == b) ≡ true → not (b == a) ≡ true
other_way a b h = not_from_false (b == a) (ne_eqb b a (λ e. eqb-false a b (not-true (a == b) h) (sym e)))

pub from_another : (kind : Bool) (from to : Site) → is_site from ≡ true → (not (from.node == to.node) && kind) ≡ true → is_another to from ≡ true
from_another kind from to site routed =
    and_from (is_site from) (not (to.node == from.node)) site (other_way from.node to.node (and_parts (not (from.node == to.node)) kind routed).0)

pub from_thief : (from to : Site) → is_site from ≡ true → (not (from.node == to.node) && not (from.node == 0)) ≡ true → is_thief to from ≡ true
from_thief from to site routed =
    and_from (is_another to from) (not (from.node == 0)) (from_another (not (from.node == 0)) from to site routed) (and_parts (not (from.node == to.node)) (not (from.node == 0)) routed).1

pub not_registry : (n : ℕ) → 1 ≤ n → not (n == 0) ≡ true
not_registry n some = not_from_false (n == 0) (ne_eqb n 0 (omega (arith, some)))

-- ---- packets

pub packet_told : (from to : Site) (body : Body) → is_site from ≡ true → is_another from to ≡ true → is_directed (kind_of body) from.node to.node ≡ true → is_body body ≡ true
    → is_well_formed (record { from = from; to = to; body = body }) ≡ true
packet_told from to body site other directed told =
    let o = and_parts (is_site to) (not (from.node == to.node)) other in
    and_from (is_site from) (is_site to && (is_routed (kind_of body) from to && is_body body)) site
    (and_from (is_site to) (is_routed (kind_of body) from to && is_body body) o.0
    (and_from (is_routed (kind_of body) from to) (is_body body)
    (and_from (not (from.node == to.node)) (is_directed (kind_of body) from.node to.node) o.1 directed) told))

-- one that goes to nodes alone
pub thief_told : (from to : Site) (body : Body) → is_site from ≡ true → is_thief from to ≡ true → is_directed (kind_of body) from.node to.node ≡ not (to.node == 0) → is_body body ≡ true
    → is_well_formed (record { from = from; to = to; body = body }) ≡ true
thief_told from to body site thief same told =
    let o = and_parts (is_another from to) (not (to.node == 0)) thief in
    packet_told from to body site o.0 (same ∙ o.1) told

pub none_put : (out : List Packet) → out ≡ [] → AllFormed out
none_put out e = subst AllFormed (sym e) tt

-- ---- what is true of a packet that is well formed

pub record IsWell (from to : Site) (body : Body) : Type 0 where
  pub sender : is_site from ≡ true
  pub routed : is_routed (kind_of body) from to ≡ true
  pub told : is_body body ≡ true

pub well_told : (packet : Packet) (site : Site) → packet.to ≡ site → is_well_formed packet ≡ true → IsWell packet.from site packet.body
well_told packet site here h =
    let first = and_parts (is_site packet.from) (is_site packet.to && (is_routed (kind_of packet.body) packet.from packet.to && is_body packet.body)) h in
    let second = and_parts (is_site packet.to) (is_routed (kind_of packet.body) packet.from packet.to && is_body packet.body) first.1 in
    let third = and_parts (is_routed (kind_of packet.body) packet.from packet.to) (is_body packet.body) second.1 in
    record {
      sender = first.0;
      routed = subst (λ s. is_routed (kind_of packet.body) packet.from s ≡ true) here third.0;
      told = third.1;
    }

-- ---- children that come together

attempts_from : (last : Option ℕ) (prefix : List ℕ) (ss : List Sibling) → are_siblings last ss ≡ true → AllByRecursion (λ g. 1 ≤ g.attempt) (sibling_gifts prefix ss)
attempts_from last prefix [] h = tt
attempts_from last prefix (s ∷ ss) h =
    let first = and_parts (is_sibling last s) (are_siblings (Some s.serial) ss) h in
    let parts = and_parts (is_next_serial last s.serial) (is_counted s.attempt && is_option s.option) first.0 in
    (counted_some s.attempt (and_parts (is_counted s.attempt) (is_option s.option) parts.1).0, attempts_from (Some s.serial) prefix ss first.1)

-- each is at an attempt from 1
pub attempts_some : (prefix : List ℕ) (ss : List Sibling) → is_body (GiveMany prefix ss) ≡ true → AllByRecursion (λ g. 1 ≤ g.attempt) (sibling_gifts prefix ss)
attempts_some prefix ss h =
    let parts = and_parts (is_sibling_count (length ss)) (is_parent prefix && are_siblings None ss) h in
    attempts_from None prefix ss (and_parts (is_parent prefix) (are_siblings None ss) parts.1).1
