-- The nodes of choices: those of their options, each from the node on by which it was chosen.
use Rattle.std.proofs.Common.{◌≡◌, ℕ, zero, suc, ◌+◌, ◌-◌, ◌*◌, ◌<◌, ◌≤◌, List, [], ◌∷◌, ◌++◌, length, true, false, not, ◌||◌, get_or, map, drop, inl, inr, ◌==◌, refl, arith, sym, ap, ◌∙◌, subst, append_assoc, append-nil}
use Rattle.std.specs.List.{range_with_len, All}
use Rattle.std.proofs.lemmas.Bool.{and_parts, and_from, both_ways, not-true, not_from_false, or_left, or_right, or_cases, eqb-true, eq-eqb, cases_Bool, cases_eq, false_from_ne_true}
use Rattle.std.proofs.lemmas.List.{length-append}
use Rattle.std.proofs.lemmas.List.Concat.{flat_map-append}
use Rattle.cover_problem.specs.Numbers.{is_in, is_distinct}
use Rattle.cover_problem.specs.Prefix.{clash, is_live, is_prefix}
use Rattle.cover_problem.specs.Problem.{Problem, IsProblem, items_of, names_item, colour_of}
use Rattle.cover_problem.proofs.Among.{all_at}
use Rattle.cover_problem.proofs.Clashes.{agreement, clash_agree}
use Rattle.dancing_links.specs.Choices.{chosen_nodes}
use Rattle.dancing_links.specs.Columns.{Columns, among, column_of, colour_at, option_of, begin_of, end_of, node_after, IsOptionNode, IsTable}
use Rattle.dancing_links.specs.Covering.{in_turn, others, items_from, nodes_by}
use Rattle.dancing_links.specs.Table.{table, base_of}
use Rattle.dancing_links.proofs.Agreeing.{Agrees, AreAgreed}
use Rattle.cover_problem.proofs.Basics.{range_step}
use Rattle.dancing_links.proofs.Parts.{range_split, map_append}
use Rattle.cover_problem.proofs.Fronts.{prefix_front, last_live}
use Rattle.dancing_links.proofs.Present.{with_all}
use Rattle.dancing_links.proofs.Ranges.{range_at}
use Rattle.dancing_links.proofs.Round.{among-append, others_ranges, others_at, others_has}
use Rattle.dancing_links.proofs.Tables.{IsNodeAt, node_at, node_by, node_colour, option_distinct, start_of, table_is}

pub distinct-append : (xs ys : List ℕ) → is_distinct xs ≡ true → is_distinct ys ≡ true → ((i : ℕ) → is_in xs i ≡ true → is_in ys i ≡ false) → is_distinct (xs ++ ys) ≡ true
distinct-append [] ys dx dy apart = dy
distinct-append (x ∷ xs) ys dx dy apart =
    let parts = and_parts (not (is_in xs x)) (is_distinct xs) dx in
    let here : is_in ys x ≡ false = apart x (or_left (x == x) (is_in xs x) (eq-eqb x x refl)) in
    let new : is_in (xs ++ ys) x ≡ false = among-append xs ys x ∙ rw (not-true (is_in xs x) parts.0, here) refl in
    and_from (not (is_in (xs ++ ys) x)) (is_distinct (xs ++ ys)) (not_from_false (is_in (xs ++ ys) x) new)
    (distinct-append xs ys parts.1 dy (λ i h. apart i (or_right (x == i) (is_in xs i) h)))

-- ---- the items of one choice

abbrev items_by : Columns → ℕ → List ℕ
items_by c k = map (column_of c) (nodes_by c k)

-- a list turned round: its back first, then its front
record IsTurned (items by : List ℕ) : Type 0 where
  front : List ℕ
  back : List ℕ
  items_are : items ≡ front ++ back
  by_are : by ≡ back ++ front

turned : (p : Problem) (k o j : ℕ) → IsNodeAt p k o j → IsTurned (items_of p o) (items_by (table p) k)
unfolding items_from
turned p k o j at =
    let c : Columns = table p in
    let b : ℕ = begin_of c k in
    let e : ℕ = end_of c k in
    let low : begin_of (table p) k ≤ k = omega (arith, at.begin, at.node) in
    let high : k < end_of (table p) k = omega (arith, at.end, at.node, at.place_in) in
    let split : end_of (table p) k - begin_of (table p) k ≡ (k - begin_of (table p) k) + (end_of (table p) k - k) = omega (arith, low, high) in
    let middle : begin_of (table p) k + (k - begin_of (table p) k) ≡ k = omega (arith, low) in
    let one : end_of (table p) k - k ≡ suc (end_of (table p) k - (k + 1)) = omega (arith, high) in
    let range = range_at p o b e at.option_in at.begin at.end in
    let front : List ℕ = map (column_of c) (range_with_len b (k - b)) in
    let back : List ℕ = map (column_of c) (range_with_len k (e - k)) in
    record {
      front = front;
      back = back;
      items_are =
          sym range.items
          ∙ ap (λ n. map (column_of c) (range_with_len b n)) split
          ∙ ap (map (column_of c)) (range_split b (k - b) (e - k) ∙ ap (λ s. range_with_len b (k - b) ++ range_with_len s (e - k)) middle)
          ∙ map_append (column_of c) (range_with_len b (k - b)) (range_with_len k (e - k));
      by_are =
          ap (λ ks. column_of c k ∷ map (column_of c) ks) (others_ranges c k low high)
          ∙ ap (λ is. column_of c k ∷ is) (map_append (column_of c) (range_with_len (k + 1) (e - (k + 1))) (range_with_len b (k - b)))
          ∙ ap (λ ks. map (column_of c) ks ++ front) (sym (range_step k _ _ one));
    }

distinct_back : (xs ys : List ℕ) → is_distinct (xs ++ ys) ≡ true → is_distinct ys ≡ true
distinct_back [] ys h = h
distinct_back (x ∷ xs) ys h = distinct_back xs ys (and_parts (not (is_in (xs ++ ys) x)) (is_distinct (xs ++ ys)) h).1

distinct_front : (xs ys : List ℕ) → is_distinct (xs ++ ys) ≡ true → is_distinct xs ≡ true
distinct_front [] ys h = refl
distinct_front (x ∷ xs) ys h =
    let parts = and_parts (not (is_in (xs ++ ys) x)) (is_distinct (xs ++ ys)) h in
    let new = not-true (is_in (xs ++ ys) x) parts.0 in
    let fresh : is_in xs x ≡ false = false_from_ne_true (is_in xs x) (λ t. both_ways (is_in (xs ++ ys) x) new (among-append xs ys x ∙ or_left (is_in xs x) (is_in ys x) t)) in
    and_from (not (is_in xs x)) (is_distinct xs) (not_from_false (is_in xs x) fresh) (distinct_front xs ys parts.1)

distinct_apart : (xs ys : List ℕ) (i : ℕ) → is_distinct (xs ++ ys) ≡ true → is_in ys i ≡ true → is_in xs i ≡ false
distinct_apart [] ys i h there = refl
distinct_apart (x ∷ xs) ys i h there =
    let parts = and_parts (not (is_in (xs ++ ys) x)) (is_distinct (xs ++ ys)) h in
    let new = not-true (is_in (xs ++ ys) x) parts.0 in
    let rest = distinct_apart xs ys i parts.1 there in
    false_from_ne_true (is_in (x ∷ xs) i) (λ t. elim (or_cases (x == i) (is_in xs i) t) [
      | inl e ↦
          let same = eqb-true x i e in
          both_ways (is_in (xs ++ ys) x) new (among-append xs ys x ∙ or_right (is_in xs x) (is_in ys x) (ap (is_in ys) same ∙ there))
      | inr r ↦ both_ways (is_in xs i) rest r
    ])

-- and none of them twice
distinct_by : (p : Problem) (k o j : ℕ) → IsProblem p → IsNodeAt p k o j → is_distinct (items_by (table p) k) ≡ true
distinct_by p k o j is at =
    let t = turned p k o j at in
    let whole : is_distinct (t.front ++ t.back) ≡ true = ap is_distinct (sym t.items_are) ∙ option_distinct p o is at.option_in in
    ap is_distinct t.by_are
    ∙ distinct-append t.back t.front (distinct_back t.front t.back whole) (distinct_front t.front t.back whole) (λ i h. distinct_apart t.front t.back i whole h)

-- ---- nodes of options

pub each_head : (c : Columns) (k : ℕ) (es : List ℕ) → All (IsOptionNode c) (k ∷ es) → IsOptionNode c k
each_head c k es each = each 0 0 (omega arith)

pub each_tail : (c : Columns) (k : ℕ) (es : List ℕ) → All (IsOptionNode c) (k ∷ es) → All (IsOptionNode c) es
each_tail c k es each = λ j d lt. each (suc j) d (omega (arith, lt))

pub each_cons : (c : Columns) (k : ℕ) (es : List ℕ) → IsOptionNode c k → All (IsOptionNode c) es → All (IsOptionNode c) (k ∷ es)
each_cons c k es node each zero d lt = node
each_cons c k es node each (suc j) d lt = each j d (omega (arith, lt))

-- a node of an option, with its option
pub some_node : (p : Problem) (k : ℕ) → IsOptionNode (table p) k → (j : ℕ) × IsNodeAt p k (option_of (table p) k) j
some_node p k node =
    let low : base_of p ≤ k = omega (arith, node.0) in
    let some = node_at p k low node.1 in
    let P : ℕ → Type 0 = λ o. IsNodeAt p k o some.place in
    (some.place, subst P (sym some.at.own) some.at)

-- a node by its place
named_by : (p : Problem) (k o j : ℕ) → IsNodeAt p k o j → names_item p o (column_of (table p) k) ≡ true
named_by p k o j at = ap (names_item p o) at.item ∙ in_place (items_of p o) j at.place_in
  where
    in_place : (xs : List ℕ) (j : ℕ) → j < length xs → is_in xs (get_or xs j 0) ≡ true
    in_place [] j lt = absurd (omega (arith, lt))
    in_place (x ∷ xs) zero lt = or_left (x == x) (is_in xs x) (eq-eqb x x refl)
    in_place (x ∷ xs) (suc j) lt = or_right (x == get_or xs j 0) (is_in xs (get_or xs j 0)) (in_place xs j (omega (arith, lt)))

-- its option names its item, and is one of the problem
pub node_named : (p : Problem) (k : ℕ) → IsOptionNode (table p) k → (option_of (table p) k < length p.options) × (names_item p (option_of (table p) k) (column_of (table p) k) ≡ true)
node_named p k node = let some = some_node p k node in (some.1.option_in, named_by p k (option_of (table p) k) some.0 some.1)

-- the nodes of a choice are those of its row
pub by_row : (c : Columns) (k z : ℕ) → IsTable c → IsOptionNode c k → among (nodes_by c k) z ≡ true → (begin_of c k ≤ z) × (z < end_of c k)
by_row c k z t node h =
    let w = t.within k node.0 node.1 in
    elim (or_cases (k == z) (among (others c k) z) h) [
      | inl e ↦ let same = eqb-true k z e in (omega (arith, same, w.0), omega (arith, same, w.1))
      | inr r ↦ let at = others_at c k z w.0 w.1 r in (at.0, at.1)
    ]

pub row_by : (c : Columns) (k z : ℕ) → IsTable c → IsOptionNode c k → begin_of c k ≤ z → z < end_of c k → among (nodes_by c k) z ≡ true
row_by c k z t node low high =
    let w = t.within k node.0 node.1 in
    elim (cases_eq k z) [
      | inl e ↦ or_left (k == z) (among (others c k) z) (eq-eqb k z e)
      | inr ne ↦ or_right (k == z) (among (others c k) z) (others_has c k z w.0 w.1 low high (λ e. ne (sym e)))
    ]

-- each stands in the column of an item
pub row_item : (c : Columns) (k z : ℕ) → IsTable c → IsOptionNode c k → among (nodes_by c k) z ≡ true → column_of c z + 1 < c.heads
row_item c k z t node h =
    let at = by_row c k z t node h in
    let w = t.within k node.0 node.1 in
    t.option_columns z (omega (arith, at.0, w.2)) (omega (arith, at.1, w.3))

-- they are nodes of its option
by_option : (p : Problem) (k z : ℕ) → IsProblem p → IsOptionNode (table p) k → among (nodes_by (table p) k) z ≡ true → IsOptionNode (table p) z × (option_of (table p) z ≡ option_of (table p) k)
by_option p k z is node h =
    let t = table_is p is in
    let at = by_row (table p) k z t node h in
    let some = some_node p k node in
    let o : ℕ = option_of (table p) k in
    let by = node_by p z o (z - start_of p o) some.1.option_in (omega (arith, at.0, at.1, some.1.begin, some.1.end)) (omega (arith, at.0, some.1.begin)) in
    ((omega (arith, by.low, by.node), omega (arith, by.high, by.node, by.place_in)), by.own)

-- and all of them
option_by : (p : Problem) (k z : ℕ) → IsProblem p → IsOptionNode (table p) k → IsOptionNode (table p) z → option_of (table p) z ≡ option_of (table p) k → among (nodes_by (table p) k) z ≡ true
option_by p k z is node other same =
    let a = some_node p k node in
    let b = some_node p z other in
    let starts : start_of p (option_of (table p) z) ≡ start_of p (option_of (table p) k) = ap (start_of p) same in
    let items : length (items_of p (option_of (table p) z)) ≡ length (items_of p (option_of (table p) k)) = ap (λ o. length (items_of p o)) same in
    row_by (table p) k z (table_is p is) node (omega (arith, a.1.begin, b.1.node, starts)) (omega (arith, a.1.end, b.1.node, b.1.place_in, starts, items))

-- ---- nodes that were seen

-- all nodes of some options
pub record IsSeen (p : Problem) (c : Columns) (seen os : List ℕ) : Type 0 where
  pub from : (z : ℕ) → among seen z ≡ true → IsOptionNode c z × (is_in os (option_of c z) ≡ true)
  pub to : (z : ℕ) → IsOptionNode c z → is_in os (option_of c z) ≡ true → among seen z ≡ true

pub among_with_all : (seen ks : List ℕ) (z : ℕ) → among (with_all seen ks) z ≡ (among ks z || among seen z)
among_with_all seen [] z = refl
among_with_all seen (k ∷ ks) z =
    among_with_all (k ∷ seen) ks z ∙ elim (cases_Bool (k == z)) [
      | inl t ↦ rw t (elim (cases_Bool (among ks z)) [ inl u ↦ rw u refl | inr u ↦ rw u refl ])
      | inr f ↦ rw f refl
    ]

with_all_append : (seen xs ys : List ℕ) → with_all seen (xs ++ ys) ≡ with_all (with_all seen xs) ys
with_all_append seen [] ys = refl
with_all_append seen (x ∷ xs) ys = with_all_append (x ∷ seen) xs ys

pub seen_start : (p : Problem) (c : Columns) → IsSeen p c [] []
seen_start p c = record { from = λ z h. absurd (both_ways false refl h); to = λ z node h. absurd (both_ways false refl h) }

seen_row : (p : Problem) (seen os : List ℕ) (k : ℕ) → IsProblem p → IsOptionNode (table p) k → IsSeen p (table p) seen os → IsSeen p (table p) (with_all seen (nodes_by (table p) k)) (os ++ option_of (table p) k ∷ [])
seen_row p seen os k is node at =
    let c : Columns = table p in
    let o : ℕ = option_of (table p) k in
    record {
      from = λ z h. elim (or_cases (among (nodes_by c k) z) (among seen z) (sym (among_with_all seen (nodes_by c k) z) ∙ h)) [
        | inl row ↦
            let by = by_option p k z is node row in
            (by.0, among-append os (o ∷ []) (option_of c z) ∙ or_right (is_in os (option_of c z)) (is_in (o ∷ []) (option_of c z)) (or_left (o == option_of c z) false (eq-eqb o (option_of c z) (sym by.1))))
        | inr was ↦
            let by = at.from z was in
            (by.0, among-append os (o ∷ []) (option_of c z) ∙ or_left (is_in os (option_of c z)) (is_in (o ∷ []) (option_of c z)) by.1)
      ];
      to = λ z other h. among_with_all seen (nodes_by c k) z ∙ elim (or_cases (is_in os (option_of c z)) (is_in (o ∷ []) (option_of c z)) (sym (among-append os (o ∷ []) (option_of c z)) ∙ h)) [
        | inl was ↦ or_right (among (nodes_by c k) z) (among seen z) (at.to z other was)
        | inr now ↦ elim (or_cases (o == option_of c z) false now) [
          | inl e ↦ or_left (among (nodes_by c k) z) (among seen z) (option_by p k z is node other (sym (eqb-true o (option_of c z) e)))
          | inr never ↦ absurd (both_ways false refl never)
        ]
      ];
    }

-- ---- nodes of options that are apart agree

agrees_at : (p : Problem) (seen os : List ℕ) (o k : ℕ) → IsProblem p → IsSeen p (table p) seen os → is_live p os o ≡ true → IsOptionNode (table p) k → option_of (table p) k ≡ o → Agrees (table p) seen k
agrees_at p seen os o k is at live node own = λ z here column.
    let c : Columns = table p in
    let i : ℕ = column_of (table p) k in
    let by = at.from z here in
    let q : ℕ = option_of (table p) z in
    let N : ℕ → Type 0 = λ n. names_item p n (column_of (table p) k) ≡ true in
    let M : ℕ → Type 0 = λ n. names_item p (option_of (table p) z) n ≡ true in
    let on_o : names_item p o (column_of (table p) k) ≡ true = subst N own (node_named p k node).1 in
    let on_q : names_item p (option_of (table p) z) (column_of (table p) k) ≡ true = subst M column (node_named p z by.0).1 in
    let apart = not-true (clash p q o) (all_at (λ n. not (clash p n o)) os q live by.1) in
    let agreed = agreement p q o i (clash_agree p q o i apart on_q on_o) in
    let a = some_node p k node in
    let b = some_node p z by.0 in
    let colour_k : colour_at (table p) k ≡ colour_of p o (column_of (table p) k) = node_colour p k (option_of c k) a.0 is a.1 ∙ ap (λ n. colour_of p n i) own in
    let colour_z : colour_at (table p) z ≡ colour_of p (option_of (table p) z) (column_of (table p) k) = node_colour p z q b.0 is b.1 ∙ ap (colour_of p q) column in
    (λ none. omega (arith, none, colour_k, agreed.same, agreed.some), colour_z ∙ agreed.same ∙ sym colour_k)

agreed_list : (c : Columns) (seen ks : List ℕ) → ((z : ℕ) → among ks z ≡ true → (column_of c z + 1 < c.heads) × Agrees c seen z) → is_distinct (map (column_of c) ks) ≡ true → AreAgreed c seen ks
agreed_list c seen [] each distinct = tt
agreed_list c seen (k ∷ ks) each distinct =
    let parts = and_parts (not (is_in (map (column_of c) ks) (column_of c k))) (is_distinct (map (column_of c) ks)) distinct in
    let apart = not-true (is_in (map (column_of c) ks) (column_of c k)) parts.0 in (
      each k (or_left (k == k) (among ks k) (eq-eqb k k refl)),
      agreed_list c (k ∷ seen) ks (λ z here.
          let one = each z (or_right (k == z) (among ks z) here) in (
            one.0,
            λ y there column. elim (or_cases (k == y) (among seen y) there) [
              | inl e ↦ absurd (both_ways (is_in (map (column_of c) ks) (column_of c k)) apart (ap (is_in (map (column_of c) ks)) (ap (column_of c) (eqb-true k y e) ∙ column) ∙ in_map ks z here))
              | inr r ↦ one.1 y r column
            ],
          )) parts.1,
    )
  where
    in_map : (ks : List ℕ) (z : ℕ) → among ks z ≡ true → is_in (map (column_of c) ks) (column_of c z) ≡ true
    in_map [] z h = absurd (both_ways false refl h)
    in_map (y ∷ ys) z h = elim (or_cases (y == z) (among ys z) h) [
      | inl e ↦ or_left (column_of c y == column_of c z) (is_in (map (column_of c) ys) (column_of c z)) (eq-eqb (column_of c y) (column_of c z) (ap (column_of c) (eqb-true y z e)))
      | inr r ↦ or_right (column_of c y == column_of c z) (is_in (map (column_of c) ys) (column_of c z)) (in_map ys z r)
    ]

agreed_append : (c : Columns) (seen xs ys : List ℕ) → AreAgreed c seen xs → AreAgreed c (with_all seen xs) ys → AreAgreed c seen (xs ++ ys)
agreed_append c seen [] ys first second = second
agreed_append c seen (x ∷ xs) ys first second = (first.0, agreed_append c (x ∷ seen) xs ys first.1 second)

agreed_row : (p : Problem) (seen os : List ℕ) (k : ℕ) → IsProblem p → IsOptionNode (table p) k → IsSeen p (table p) seen os → is_live p os (option_of (table p) k) ≡ true → AreAgreed (table p) seen (nodes_by (table p) k)
agreed_row p seen os k is node at live =
    let t = table_is p is in
    let some = some_node p k node in
    agreed_list (table p) seen (nodes_by (table p) k)
    (λ z here. let by = by_option p k z is node here in (t.option_columns z by.0.0 by.0.1, agrees_at p seen os (option_of (table p) k) z is at live by.0 by.1))
    (distinct_by p k (option_of (table p) k) some.0 is some.1)

-- the nodes of all choices
pub record AreSeen (p : Problem) (c : Columns) (seen os es : List ℕ) : Type 0 where
  pub agreed : AreAgreed c seen (chosen_nodes c es)
  pub after : IsSeen p c (with_all seen (chosen_nodes c es)) (os ++ map (option_of c) es)

pub seen_all : (p : Problem) (seen os es : List ℕ) → IsProblem p → All (IsOptionNode (table p)) es → IsSeen p (table p) seen os → is_prefix p (os ++ map (option_of (table p)) es) ≡ true → AreSeen p (table p) seen os es
seen_all p seen os [] is each at prefix =
    let P : List ℕ → Type 0 = λ xs. IsSeen p (table p) seen xs in
    record { agreed = tt; after = subst P (sym (append-nil os)) at }
seen_all p seen os (k ∷ es) is each at prefix =
    let c : Columns = table p in
    let o : ℕ = option_of (table p) k in
    let node = each_head c k es each in
    let turn : os ++ option_of (table p) k ∷ map (option_of (table p)) es ≡ (os ++ option_of (table p) k ∷ []) ++ map (option_of (table p)) es = sym (append_assoc os (o ∷ []) (map (option_of c) es)) in
    let prefix' = ap (is_prefix p) (sym turn) ∙ prefix in
    let live = last_live p os o (prefix_front p (os ++ o ∷ []) (map (option_of c) es) prefix') in
    let row = seen_row p seen os k is node at in
    let rest = seen_all p (with_all seen (nodes_by c k)) (os ++ o ∷ []) es is (each_tail c k es each) row prefix' in
    let P : List ℕ → Type 0 = λ xs. IsSeen p (table p) xs ((os ++ option_of (table p) k ∷ []) ++ map (option_of (table p)) es) in
    let Q : List ℕ → Type 0 = λ xs. IsSeen p (table p) (with_all seen (chosen_nodes (table p) (k ∷ es))) xs in
    record {
      agreed = agreed_append c seen (nodes_by c k) (chosen_nodes c es) (agreed_row p seen os k is node at live) rest.agreed;
      after = subst Q (sym turn) (subst P (sym (with_all_append seen (nodes_by c k) (chosen_nodes c es))) rest.after);
    }

-- ---- how many they are

in_turn_long : (b e n count : ℕ) → length (in_turn b e n count) ≡ count
in_turn_long b e n zero = refl
in_turn_long b e n (suc count) = ap suc (in_turn_long b e (node_after b e n) count)

row_short : (c : Columns) (k : ℕ) → IsTable c → IsOptionNode c k → length (nodes_by c k) ≤ c.tails
unfolding others
row_short c k t node =
    let w = t.within k node.0 node.1 in
    let long = in_turn_long (begin_of c k) (end_of c k) (node_after (begin_of c k) (end_of c k) k) (end_of c k - (begin_of c k + 1)) in
    omega (arith, long, w.0, w.1, w.3)

pub nodes_short : (c : Columns) (es : List ℕ) → IsTable c → c.tails ≤ 300000 → All (IsOptionNode c) es → length (chosen_nodes c es) ≤ 300000 * length es
nodes_short c [] t small each = omega arith
nodes_short c (k ∷ es) t small each =
    let first = row_short c k t (each_head c k es each) in
    let rest = nodes_short c es t small (each_tail c k es each) in
    omega (arith, first, rest, small, length-append (nodes_by c k) (chosen_nodes c es))

pub nodes_more : (c : Columns) (es : List ℕ) (k : ℕ) → chosen_nodes c (es ++ k ∷ []) ≡ chosen_nodes c es ++ nodes_by c k
nodes_more c es k = flat_map-append (nodes_by c) es (k ∷ []) ∙ ap (λ ks. chosen_nodes c es ++ ks) (append-nil (nodes_by c k))

-- ---- nodes that are known by their option and their item

pub one_node : (p : Problem) (c : Columns) (k j : ℕ) → c ≡ table p → IsProblem p → IsOptionNode c k → IsOptionNode c j → option_of c k ≡ option_of c j → column_of c k ≡ column_of c j → k ≡ j
one_node p c k j same is =
    let P : Columns → Type 0 = λ t. IsOptionNode t k → IsOptionNode t j → option_of t k ≡ option_of t j → column_of t k ≡ column_of t j → k ≡ j in
    subst P (sym same) (λ at_k at_j option column.
    let t = table_is p is in
    let a = some_node p k at_k in
    let b = some_node p j at_j in
    let starts : start_of p (option_of (table p) k) ≡ start_of p (option_of (table p) j) = ap (start_of p) option in
    let items : length (items_of p (option_of (table p) k)) ≡ length (items_of p (option_of (table p) j)) = ap (λ o. length (items_of p o)) option in
    sym (t.apart k j at_k.0 at_k.1 (omega (arith, a.1.begin, b.1.node, starts)) (omega (arith, a.1.end, b.1.node, b.1.place_in, starts, items)) (sym column)))

pub one_nodes : (p : Problem) (c : Columns) (xs ys : List ℕ) → c ≡ table p → IsProblem p → All (IsOptionNode c) xs → All (IsOptionNode c) ys → map (option_of c) xs ≡ map (option_of c) ys → map (column_of c) xs ≡ map (column_of c) ys → xs ≡ ys
one_nodes p c [] [] same is a b options columns = refl
one_nodes p c [] (y ∷ ys) same is a b options columns = absurd (omega (arith, ap length options))
one_nodes p c (x ∷ xs) [] same is a b options columns = absurd (omega (arith, ap length options))
one_nodes p c (x ∷ xs) (y ∷ ys) same is a b options columns =
    let H : List ℕ → ℕ = λ ks. get_or ks 0 0 in
    let T : List ℕ → List ℕ = λ ks. drop 1 ks in
    let first = one_node p c x y same is (each_head c x xs a) (each_head c y ys b) (ap H options) (ap H columns) in
    let rest = one_nodes p c xs ys same is (each_tail c x xs a) (each_tail c y ys b) (ap T options) (ap T columns) in
    rw (first, rest) refl
