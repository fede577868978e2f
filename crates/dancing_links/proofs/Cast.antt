-- What the nodes that cover tell of items and options.
use Rattle.std.proofs.Common.{◌≡◌, ℕ, ◌+◌, ◌-◌, ◌<◌, ◌≤◌, List, length, true, false, not, ◌==◌, ◌&&◌, get_or, refl, arith, sym, ap, ◌∙◌, inl, inr, subst}
use Rattle.std.proofs.lemmas.Bool.{both_ways, and_parts, and_from, cases_Bool, cases_lt, eq-eqb, eqb-true, ne_eqb, not-true, not_from_false, false_from_ne_true}
use Rattle.cover_problem.specs.Numbers.{is_in}
use Rattle.cover_problem.specs.Prefix.{agree, clash, is_covered, is_live}
use Rattle.cover_problem.specs.Problem.{Problem, IsProblem, items_of, names_item, colour_of}
use Rattle.cover_problem.proofs.Among.{all_at, all_by, any_at, some_with}
use Rattle.cover_problem.proofs.Clashes.{agreement, agree_by, clash_by, clash_item}
use Rattle.dancing_links.specs.Columns.{Columns, column_of, colour_at, option_of, begin_of, end_of, IsOptionNode}
use Rattle.dancing_links.specs.Covering.{has_colour}
use Rattle.dancing_links.specs.Table.{table}
use Rattle.dancing_links.proofs.Agreeing.{IsCovering, IsAmong, covers_some, covers_by}
use Rattle.dancing_links.proofs.Entries.{IsSeen, some_node, node_named}
use Rattle.dancing_links.proofs.Present.{covers, bars, is_dead, dead_at, dead_by}
use Rattle.cover_problem.proofs.Basics.{same_truth}
use Rattle.dancing_links.proofs.Tables.{IsNodeAt, node_by, node_colour, place_of, start_of}

-- the node of an option in the column of an item that it names
pub record IsNodeIn (p : Problem) (o i : ℕ) : Type 0 where
  pub node : ℕ
  pub place : ℕ
  pub at : IsNodeAt p node o place
  pub in_option : IsOptionNode (table p) node
  pub column : column_of (table p) node ≡ i
  pub option : option_of (table p) node ≡ o

pub node_in_option : (p : Problem) (o i : ℕ) → o < length p.options → names_item p o i ≡ true → IsNodeIn p o i
node_in_option p o i inside named =
    let place = place_of (items_of p o) i named in
    let at = node_by p (start_of p o + place.0) o place.0 inside place.1 refl in
    record {
      node = start_of p o + place.0;
      place = place.0;
      at = at;
      in_option = (omega (arith, at.low, at.node), omega (arith, at.high, at.node, at.place_in));
      column = at.item ∙ place.2;
      option = at.own;
    }

-- a covering of the nodes of some options
pub record IsCast (p : Problem) (c : Columns) (os seen nodes commits : List ℕ) : Type 0 where
  pub is_problem : IsProblem p
  pub options : (o : ℕ) → is_in os o ≡ true → o < length p.options
  pub covering : IsCovering c seen nodes commits
  pub seen_is : IsSeen p c seen os

-- the node that covers the item of a chosen option
cover_of : (p : Problem) (os seen nodes commits : List ℕ) (q i : ℕ) → IsCast p (table p) os seen nodes commits → is_in os q ≡ true → names_item p q i ≡ true → IsAmong (table p) nodes i (colour_of p q i)
cover_of p os seen nodes commits q i cast chosen named =
    let n = node_in_option p q i (cast.options q chosen) named in
    let here = cast.seen_is.to n.node n.in_option (ap (is_in os) n.option ∙ chosen) in
    let by = cast.covering.each n.node here in
    record {
      node = by.node;
      here = by.here;
      column = by.column ∙ n.column;
      colour = by.colour ∙ node_colour p n.node q n.place cast.is_problem n.at ∙ ap (colour_of p q) n.column;
    }

-- the items that are covered are those of chosen options
pub cast_names : (p : Problem) (os seen nodes commits : List ℕ) (i : ℕ) → IsCast p (table p) os seen nodes commits → covers (table p) nodes i ≡ is_covered p os i
cast_names p os seen nodes commits i cast = same_truth (covers (table p) nodes i) (is_covered p os i)
    (λ hit.
    let c : Columns = table p in
    let x = covers_some c nodes i hit in
    let by = cast.seen_is.from x.0 (cast.covering.subset x.0 x.1) in
    any_at (λ o. names_item p o i) os (option_of c x.0) by.1 (ap (names_item p (option_of c x.0)) (sym x.2) ∙ (node_named p x.0 by.0).1))
    (λ hit.
    let q = some_with (λ o. names_item p o i) os hit in
    let by = cover_of p os seen nodes commits q.0 i cast q.1 q.2 in
    ap (covers (table p) nodes) (sym by.column) ∙ covers_by (table p) nodes by.node by.here)

-- no colour was given to an item that is not covered
pub cast_free : (p : Problem) (os seen nodes commits : List ℕ) (i : ℕ) → IsCast p (table p) os seen nodes commits → is_covered p os i ≡ false → get_or commits i 0 ≡ 0
cast_free p os seen nodes commits i cast free = elim (cases_lt 0 (get_or commits i 0)) [
  | inr none ↦ omega (arith, none)
  | inl some ↦
      let c : Columns = table p in
      let z = cast.covering.some i (λ e. omega (arith, e, some)) in
      let by = cast.seen_is.from z.node z.here in
      absurd (both_ways (is_covered p os i) free (any_at (λ o. names_item p o i) os (option_of c z.node) by.1 (ap (names_item p (option_of c z.node)) (sym z.column) ∙ (node_named p z.node by.0).1)))
]

bars_some : (c : Columns) (nodes : List ℕ) (j : ℕ) → bars c nodes j ≡ true → (x : ℕ) × (is_in nodes x ≡ true) × (((column_of c x == column_of c j) && not (has_colour c (colour_at c x) j)) ≡ true)
bars_some c nodes j h = some_with (λ x. (column_of c x == column_of c j) && not (has_colour c (colour_at c x) j)) nodes h

-- a node of an option that is barred: the option clashes with a chosen one
bars_clash : (p : Problem) (os seen nodes commits : List ℕ) (k o j : ℕ) → IsCast p (table p) os seen nodes commits → IsNodeAt p k o j → bars (table p) nodes k ≡ true → is_live p os o ≡ false
bars_clash p os seen nodes commits k o j cast at h = false_from_ne_true (is_live p os o) (λ live.
    let c : Columns = table p in
    let i : ℕ = column_of (table p) k in
    let x = bars_some c nodes k h in
    let parts = and_parts (column_of c x.0 == column_of c k) (not (has_colour c (colour_at c x.0) k)) x.2 in
    let own : column_of (table p) x.0 ≡ column_of (table p) k = eqb-true (column_of c x.0) (column_of c k) parts.0 in
    let other = not-true (has_colour c (colour_at c x.0) k) parts.1 in
    let by = cast.seen_is.from x.0 (cast.covering.subset x.0 x.1) in
    let q : ℕ = option_of (table p) x.0 in
    let M : ℕ → Type 0 = λ n. names_item p (option_of (table p) x.0) n ≡ true in
    let on_q : names_item p (option_of (table p) x.0) (column_of (table p) k) ≡ true = subst M own (node_named p x.0 by.0).1 in
    let node_k : IsOptionNode (table p) k = (omega (arith, at.low, at.node), omega (arith, at.high, at.node, at.place_in)) in
    let N : ℕ → Type 0 = λ n. names_item p n (column_of (table p) k) ≡ true in
    let on_o : names_item p o (column_of (table p) k) ≡ true = subst N at.own (node_named p k node_k).1 in
    let some = some_node p x.0 by.0 in
    let colour_x : colour_at (table p) x.0 ≡ colour_of p (option_of (table p) x.0) (column_of (table p) k) = node_colour p x.0 q some.0 cast.is_problem some.1 ∙ ap (colour_of p q) own in
    let colour_k : colour_at (table p) k ≡ colour_of p o (column_of (table p) k) = node_colour p k o j cast.is_problem at in
    let apart = not-true (clash p q o) (all_at (λ n. not (clash p n o)) os q live by.1) in
    let disagree : agree p q o i ≡ false = false_from_ne_true (agree p q o i) (λ t.
    let a = agreement p q o i t in
    let same : colour_at (table p) k ≡ colour_at (table p) x.0 = colour_k ∙ sym a.same ∙ sym colour_x in
    let coloured : has_colour c (colour_at c x.0) k ≡ true = and_from (not (colour_at c x.0 == 0)) (colour_at c k == colour_at c x.0) (not_from_false (colour_at c x.0 == 0) (ne_eqb (colour_at c x.0) 0 (λ e. omega (arith, e, colour_x, a.some)))) (eq-eqb (colour_at c k) (colour_at c x.0) same) in
    both_ways (has_colour c (colour_at c x.0) k) other coloured) in
    both_ways (clash p q o) apart (clash_by p q o i on_q on_o disagree))

-- an option that clashes with a chosen one has such a node
clash_bars : (p : Problem) (os seen nodes commits : List ℕ) (o q : ℕ) → IsCast p (table p) os seen nodes commits → o < length p.options → is_in os q ≡ true → clash p q o ≡ true → (k j : ℕ) × IsNodeAt p k o j × (bars (table p) nodes k ≡ true)
clash_bars p os seen nodes commits o q cast inside chosen h =
    let c : Columns = table p in
    let common = clash_item p q o h in
    let i : ℕ = common.item in
    let n = node_in_option p o i inside common.second in
    let x = cover_of p os seen nodes commits q i cast chosen common.first in
    let colour_k : colour_at (table p) n.node ≡ colour_of p o common.item = node_colour p n.node o n.place cast.is_problem n.at ∙ ap (colour_of p o) n.column in
    let other : has_colour c (colour_at c x.node) n.node ≡ false = false_from_ne_true (has_colour c (colour_at c x.node) n.node) (λ t.
    let parts = and_parts (not (colour_at c x.node == 0)) (colour_at c n.node == colour_at c x.node) t in
    let same : colour_at (table p) n.node ≡ colour_at (table p) x.node = eqb-true (colour_at c n.node) (colour_at c x.node) parts.1 in
    let some : 1 ≤ colour_of p q common.item = elim (cases_lt 0 (colour_of p q common.item)) [
      | inl lt ↦ omega (arith, lt)
      | inr none ↦ absurd (both_ways (colour_at c x.node == 0) (not-true (colour_at c x.node == 0) parts.0) (eq-eqb (colour_at c x.node) 0 (omega (arith, x.colour, none))))
    ] in
    let secondary : p.primary ≤ common.item = elim (cases_lt common.item p.primary) [
      | inr above ↦ above
      | inl primary ↦ absurd (omega (arith, some, cast.is_problem.plain_primary q common.item primary))
    ] in
    both_ways (agree p q o i) common.apart (agree_by p q o i secondary some (sym x.colour ∙ sym same ∙ colour_k))) in
    let bar = and_from (column_of c x.node == column_of c n.node) (not (has_colour c (colour_at c x.node) n.node)) (eq-eqb (column_of c x.node) (column_of c n.node) (x.column ∙ sym n.column)) (not_from_false (has_colour c (colour_at c x.node) n.node) other) in
    (n.node, n.place, n.at, any_at (λ y. (column_of c y == column_of c n.node) && not (has_colour c (colour_at c y) n.node)) nodes x.node x.here bar)

-- a node's option is dead where it is not live
pub node_live : (p : Problem) (os seen nodes commits : List ℕ) (k o j : ℕ) → IsCast p (table p) os seen nodes commits → IsNodeAt p k o j → not (is_dead (table p) nodes k) ≡ is_live p os o
node_live p os seen nodes commits k o j cast at =
    let c : Columns = table p in
    elim (cases_Bool (is_dead c nodes k)) [
      | inl dead ↦
          let bar = dead_at c nodes (begin_of c k) (end_of c k - begin_of c k) dead in
          let place : ℕ = bar.0 - start_of p o in
          let by = node_by p bar.0 o (bar.0 - start_of p o) at.option_in (omega (arith, bar.1, bar.2, at.begin, at.end)) (omega (arith, bar.1, at.begin)) in
          ap not dead ∙ sym (bars_clash p os seen nodes commits bar.0 o place cast by bar.3)
      | inr alive ↦
          ap not alive ∙ sym (all_by (λ q. not (clash p q o)) os (λ q chosen. not_from_false (clash p q o) (false_from_ne_true (clash p q o) (λ h.
          let bar = clash_bars p os seen nodes commits o q cast at.option_in chosen h in
          both_ways (is_dead c nodes k) alive (dead_by c nodes (begin_of c k) (end_of c k - begin_of c k) bar.0 (omega (arith, bar.2.begin, bar.2.node, at.begin)) (omega (arith, bar.2.begin, bar.2.node, bar.2.place_in, at.begin, at.end)) bar.3)))))
    ]
