-- Which nodes are out once nodes cover their items: those of options that name such an item, and give it not the same colour.
use Rattle.std.proofs.Common.{◌≡◌, ℕ, zero, suc, ◌+◌, ◌-◌, ◌<◌, ◌≤◌, List, [], ◌∷◌, ◌++◌, Bool, true, false, not, ◌==◌, ◌&&◌, ◌||◌, filter, refl, arith, sym, ap, ◌∙◌, inl, inr, ◌⊎◌}
use Rattle.std.specs.List.{range_with_len, list_any, flat_map}
use Rattle.std.proofs.lemmas.Bool.{eq-eqb, eqb-true, eqb-false, ne_eqb, cases_Bool, cases_eq, both_ways, or_cases, or_left, or_right, and_parts, and_from, not-true, not_from_false, false_from_ne_true}
use Rattle.dancing_links.specs.Columns.{among, Columns, column_of, colour_at, begin_of, end_of, column_from, IsTable, IsOptionNode}
use Rattle.dancing_links.specs.Covering.{outs, others, has_colour, hidden_at, hidden_from, covered, covered_by, IsOpen, AreOpen, outs_all}
use Rattle.dancing_links.proofs.Law.{in_other}
use Rattle.dancing_links.proofs.Round.{among-append, others_at, others_has}
use Rattle.dancing_links.proofs.Walk.{option_node, hidden_other, hidden_others, outs_same}

pub outs_kept : (xs out : List ℕ) (k : ℕ) → among out k ≡ true → among (outs xs out) k ≡ true
outs_kept [] out k h = h
outs_kept (x ∷ xs) out k h = outs_kept xs (x ∷ out) k (or_right (x == k) (among out k) h)

pub outs_new : (xs out : List ℕ) (k : ℕ) → among xs k ≡ true → among (outs xs out) k ≡ true
outs_new [] out k h = absurd (both_ways false refl h)
outs_new (x ∷ xs) out k h = elim (or_cases (x == k) (among xs k) h) [
  | inl t ↦ outs_kept xs (x ∷ out) k (or_left (x == k) (among out k) t)
  | inr t ↦ outs_new xs (x ∷ out) k t
]

-- what is out was out, or was taken out
pub outs_either : (xs out : List ℕ) (k : ℕ) → among (outs xs out) k ≡ true → (among xs k ≡ true) ⊎ (among out k ≡ true)
outs_either [] out k h = inr h
outs_either (x ∷ xs) out k h = elim (outs_either xs (x ∷ out) k h) [
  | inl t ↦ inl (or_right (x == k) (among xs k) t)
  | inr t ↦ elim (or_cases (x == k) (among out k) t) [
    | inl e ↦ inl (or_left (x == k) (among xs k) e)
    | inr o ↦ inr o
  ]
]

-- what is hidden is another node of an option with a node in the column that was in, and that has not the colour
pub record IsHidden (c : Columns) (out : List ℕ) (i a k : ℕ) : Type 0 where
  pub node : ℕ
  pub low : c.heads ≤ node
  pub high : node < c.tails
  pub own : column_of c node ≡ i
  pub here : among out node ≡ false
  pub other_colour : has_colour c a node ≡ false
  pub other : among (others c node) k ≡ true

hidden_in : (c : Columns) (out : List ℕ) (i a k n start : ℕ) → c.heads ≤ start → start + n ≤ c.tails → among (flat_map (hidden_at c a) (filter (λ j. (column_of c j == i) && not (among out j)) (range_with_len start n))) k ≡ true → IsHidden c out i a k
hidden_in c out i a k zero start low high h = absurd (both_ways false refl h)
hidden_in c out i a k (suc n) start low high h =
    let rest = hidden_in c out i a k n (start + 1) (omega (arith, low)) (omega (arith, high)) in
    elim (cases_Bool ((column_of c start == i) && not (among out start))) [
      | inr f ↦ rest (rw f at h)
      | inl t ↦
          let parts = and_parts (column_of c start == i) (not (among out start)) t in
          let h' : among (hidden_at c a start ++ flat_map (hidden_at c a) (filter (λ j. (column_of c j == i) && not (among out j)) (range_with_len (start + 1) n))) k ≡ true = rw t at h in
          elim (or_cases (among (hidden_at c a start) k) (among (flat_map (hidden_at c a) (filter (λ j. (column_of c j == i) && not (among out j)) (range_with_len (start + 1) n))) k) (sym (among-append (hidden_at c a start) (flat_map (hidden_at c a) (filter (λ j. (column_of c j == i) && not (among out j)) (range_with_len (start + 1) n))) k) ∙ h')) [
            | inl here ↦
                let hid = hidden_other c a start k here in
                record { node = start; low = low; high = omega (arith, high); own = eqb-true (column_of c start) i parts.0; here = not-true (among out start) parts.1; other_colour = hid.0; other = hid.1 }
            | inr there ↦ rest there
          ]
    ]

pub hidden_by : (c : Columns) (out : List ℕ) (i a k : ℕ) → IsTable c → among (hidden_from c out i a c.heads) k ≡ true → IsHidden c out i a k
unfolding hidden_from column_from
hidden_by c out i a k t h = hidden_in c out i a k (c.tails - c.heads) c.heads (omega arith) (omega (arith, t.order)) h

-- and each such node is hidden
hides_in : (c : Columns) (out : List ℕ) (i a k node n start : ℕ) → start ≤ node → node < start + n → column_of c node ≡ i → among out node ≡ false → among (hidden_at c a node) k ≡ true → among (flat_map (hidden_at c a) (filter (λ j. (column_of c j == i) && not (among out j)) (range_with_len start n))) k ≡ true
hides_in c out i a k node zero start low high own here other = absurd (omega (arith, low, high))
hides_in c out i a k node (suc n) start low high own here other =
    let more : List ℕ = flat_map (hidden_at c a) (filter (λ j. (column_of c j == i) && not (among out j)) (range_with_len (start + 1) n)) in
    elim (cases_eq start node) [
      | inl e ↦
          let test : ((column_of c start == i) && not (among out start)) ≡ true = rw (e, eq-eqb (column_of c node) i own, here) refl in
          let is_other : among (hidden_at c a start) k ≡ true = rw e other in
          rw test (among-append (hidden_at c a start) more k ∙ or_left (among (hidden_at c a start) k) (among more k) is_other)
      | inr ne ↦
          let rest = hides_in c out i a k node n (start + 1) (omega (arith, low, ne)) (omega (arith, high)) own here other in
          elim (cases_Bool ((column_of c start == i) && not (among out start))) [
            | inl t ↦ rw t (among-append (hidden_at c a start) more k ∙ or_right (among (hidden_at c a start) k) (among more k) rest)
            | inr f ↦ rw f rest
          ]
    ]

pub hides_at : (c : Columns) (out : List ℕ) (i a k node : ℕ) → c.heads ≤ node → node < c.tails → column_of c node ≡ i → among out node ≡ false → has_colour c a node ≡ false → among (others c node) k ≡ true → among (hidden_from c out i a c.heads) k ≡ true
unfolding hidden_from column_from
hides_at c out i a k node low high own here colour other = hides_in c out i a k node (c.tails - c.heads) c.heads low (omega (arith, low, high)) own here (ap (λ (ks : List ℕ). among ks k) (hidden_others c a node colour) ∙ other)

-- ---- what nodes cover

-- whether one of some nodes stands in the column of an item
abbrev pub covers : Columns → List ℕ → ℕ → Bool
covers c nodes i = list_any (λ x. column_of c x == i) nodes

-- whether one of them stands in the column of a node that has not its colour
abbrev pub bars : Columns → List ℕ → ℕ → Bool
bars c nodes j = list_any (λ x. (column_of c x == column_of c j) && not (has_colour c (colour_at c x) j)) nodes

-- whether the option of a node has such a node
abbrev pub is_dead_from : Columns → List ℕ → ℕ → ℕ → Bool
is_dead_from c nodes start n = list_any (bars c nodes) (range_with_len start n)

abbrev pub is_dead : Columns → List ℕ → ℕ → Bool
is_dead c nodes k = is_dead_from c nodes (begin_of c k) (end_of c k - begin_of c k)

pub dead_by : (c : Columns) (nodes : List ℕ) (start n j : ℕ) → start ≤ j → j < start + n → bars c nodes j ≡ true → is_dead_from c nodes start n ≡ true
dead_by c nodes start zero j low high h = absurd (omega (arith, low, high))
dead_by c nodes start (suc n) j low high h = elim (cases_eq start j) [
  | inl e ↦ or_left (bars c nodes start) (is_dead_from c nodes (start + 1) n) (ap (bars c nodes) e ∙ h)
  | inr ne ↦ or_right (bars c nodes start) (is_dead_from c nodes (start + 1) n) (dead_by c nodes (start + 1) n j (omega (arith, low, ne)) (omega (arith, high)) h)
]

pub dead_at : (c : Columns) (nodes : List ℕ) (start n : ℕ) → is_dead_from c nodes start n ≡ true → (j : ℕ) × (start ≤ j) × (j < start + n) × (bars c nodes j ≡ true)
dead_at c nodes start zero h = absurd (both_ways false refl h)
dead_at c nodes start (suc n) h = elim (or_cases (bars c nodes start) (is_dead_from c nodes (start + 1) n) h) [
  | inl t ↦ (start, omega arith, omega arith, t)
  | inr t ↦ let at = dead_at c nodes (start + 1) n t in (at.0, omega (arith, at.1), omega (arith, at.2), at.3)
]

-- two nodes of one option are dead together
dead_same : (c : Columns) (nodes : List ℕ) (k j : ℕ) → begin_of c j ≡ begin_of c k → end_of c j ≡ end_of c k → is_dead c nodes j ≡ is_dead c nodes k
dead_same c nodes k j begin end = rw (begin, end) refl

-- a node that bars another one covers its item
bars_covers : (c : Columns) (nodes : List ℕ) (j : ℕ) → bars c nodes j ≡ true → covers c nodes (column_of c j) ≡ true
bars_covers c [] j h = absurd (both_ways false refl h)
bars_covers c (x ∷ xs) j h = elim (or_cases ((column_of c x == column_of c j) && not (has_colour c (colour_at c x) j)) (bars c xs j) h) [
  | inl here ↦ or_left (column_of c x == column_of c j) (covers c xs (column_of c j)) (and_parts (column_of c x == column_of c j) (not (has_colour c (colour_at c x) j)) here).0
  | inr there ↦ or_right (column_of c x == column_of c j) (covers c xs (column_of c j)) (bars_covers c xs j there)
]

covers_other : (c : Columns) (x : ℕ) (nodes : List ℕ) (i : ℕ) → covers c (x ∷ nodes) i ≡ false → (covers c nodes i ≡ false) × (column_of c x ≡ i → ⊥)
covers_other c x nodes i h = elim (cases_Bool (column_of c x == i)) [
  | inl t ↦ absurd (both_ways (covers c (x ∷ nodes) i) h (or_left (column_of c x == i) (covers c nodes i) t))
  | inr f ↦ elim (cases_Bool (covers c nodes i)) [
    | inl t ↦ absurd (both_ways (covers c (x ∷ nodes) i) h (or_right (column_of c x == i) (covers c nodes i) t))
    | inr g ↦ (g, eqb-false (column_of c x) i f)
  ]
]

-- What is out once nodes cover their items: the nodes of those items, in the column of each other item the nodes of dead options, and no node of a live one.
pub record IsOut (c : Columns) (nodes out : List ℕ) : Type 0 where
  pub items_out : (i : ℕ) → i + 1 < c.heads → covers c nodes i ≡ false → among out (c.heads + i) ≡ false
  pub items_in : (i : ℕ) → i + 1 < c.heads → covers c nodes i ≡ true → among out (c.heads + i) ≡ true
  pub dead_out : (k : ℕ) → c.heads + c.heads ≤ k + 1 → k < c.tails → covers c nodes (column_of c k) ≡ false → is_dead c nodes k ≡ true → among out k ≡ true
  pub out_dead : (k : ℕ) → c.heads + c.heads ≤ k + 1 → k < c.tails → among out k ≡ true → is_dead c nodes k ≡ true

pub out_start : (c : Columns) → IsOut c [] []
out_start c = record {
  items_out = λ i lt h. refl;
  items_in = λ i lt h. absurd (both_ways false refl h);
  dead_out = λ k low high h dead. let at = dead_at c [] (begin_of c k) (end_of c k - begin_of c k) dead in absurd (both_ways false refl at.3);
  out_dead = λ k low high out. absurd (both_ways false refl out);
}

-- an item that is not covered can be covered
pub open_by : (c : Columns) (nodes out : List ℕ) (i : ℕ) → IsTable c → IsOut c nodes out → i + 1 < c.heads → covers c nodes i ≡ false → IsOpen c out i
open_by c nodes out i t o item new = record {
  item = item;
  here = o.items_out i item new;
  whole = λ k j low high own here above below.
      let wk = t.within k low high in
      let low_j : c.heads + c.heads ≤ j + 1 = omega (arith, wk.2, above) in
      let high_j : j < c.tails = omega (arith, wk.3, below) in
      let same = t.same k j low high above below in
      false_from_ne_true (among out j) (λ gone.
      both_ways (among out k) here (o.dead_out k low high (ap (covers c nodes) own ∙ new) (sym (dead_same c nodes k j same.0 same.1) ∙ o.out_dead j low_j high_j gone)));
}

dead_more : (c : Columns) (x : ℕ) (nodes : List ℕ) (k : ℕ) → is_dead c nodes k ≡ true → is_dead c (x ∷ nodes) k ≡ true
dead_more c x nodes k h =
    let at = dead_at c nodes (begin_of c k) (end_of c k - begin_of c k) h in
    dead_by c (x ∷ nodes) (begin_of c k) (end_of c k - begin_of c k) at.0 at.1 at.2 (or_right ((column_of c x == column_of c at.0) && not (has_colour c (colour_at c x) at.0)) (bars c nodes at.0) at.3)

-- and so it is once one more node covers its item
pub out_step : (c : Columns) (nodes out : List ℕ) (n : ℕ) → IsTable c → IsOut c nodes out → column_of c n + 1 < c.heads → covers c nodes (column_of c n) ≡ false → IsOut c (n ∷ nodes) (outs (covered_by c out n) out)
unfolding covered
out_step c nodes out n t o item new =
    let i : ℕ = column_of c n in
    let a : ℕ = colour_at c n in
    let x : ℕ = c.heads + i in
    let hidden : List ℕ = hidden_from c (x ∷ out) i a c.heads in
    record {
      items_out = λ j lt h.
          let other = covers_other c n nodes j h in
          false_from_ne_true (among (outs hidden (x ∷ out)) (c.heads + j)) (λ gone. elim (outs_either hidden (x ∷ out) (c.heads + j) gone) [
            | inl hid ↦
                let at = hidden_by c (x ∷ out) i a (c.heads + j) t hid in
                let option = option_node c i at.node t item at.low at.own in
                let w = t.within at.node option at.high in
                let in_option = others_at c at.node (c.heads + j) w.0 w.1 at.other in
                omega (arith, w.2, in_option.0, lt)
            | inr old ↦ elim (or_cases (x == c.heads + j) (among out (c.heads + j)) old) [
              | inl same ↦ other.1 (omega (arith, eqb-true x (c.heads + j) same))
              | inr was ↦ both_ways (among out (c.heads + j)) (o.items_out j lt other.0) was
            ]
          ]);
      items_in = λ j lt h. elim (or_cases (i == j) (covers c nodes j) h) [
        | inl e ↦ outs_kept hidden (x ∷ out) (c.heads + j) (or_left (x == c.heads + j) (among out (c.heads + j)) (eq-eqb x (c.heads + j) (ap (λ m. c.heads + m) (eqb-true i j e))))
        | inr was ↦ outs_kept hidden (x ∷ out) (c.heads + j) (or_right (x == c.heads + j) (among out (c.heads + j)) (o.items_in j lt was))
      ];
      dead_out = λ k low high h dead.
          let other = covers_other c n nodes (column_of c k) h in
          let w = t.within k low high in
          elim (cases_Bool (is_dead c nodes k)) [
            | inl was ↦ outs_kept hidden (x ∷ out) k (or_right (x == k) (among out k) (o.dead_out k low high other.0 was))
            | inr alive ↦
                let at = dead_at c (n ∷ nodes) (begin_of c k) (end_of c k - begin_of c k) dead in
                let j : ℕ = at.0 in
                let below : j < end_of c k = omega (arith, at.2, w.0, w.1) in
                let low_j : c.heads + c.heads ≤ j + 1 = omega (arith, w.2, at.1) in
                let high_j : j < c.tails = omega (arith, w.3, below) in
                let same = t.same k j low high at.1 below in
                elim (or_cases ((i == column_of c j) && not (has_colour c a j)) (bars c nodes j) at.3) [
                  | inr was ↦ absurd (both_ways (is_dead c nodes k) alive (dead_by c nodes (begin_of c k) (end_of c k - begin_of c k) j at.1 at.2 was))
                  | inl both ↦
                      let parts = and_parts (i == column_of c j) (not (has_colour c a j)) both in
                      let own : column_of c j ≡ i = sym (eqb-true i (column_of c j) parts.0) in
                      let here : among out j ≡ false = false_from_ne_true (among out j) (λ gone. both_ways (is_dead c nodes k) alive (sym (dead_same c nodes k j same.0 same.1) ∙ o.out_dead j low_j high_j gone)) in
                      let here' : among (x ∷ out) j ≡ false = in_other out x j here (λ f. omega (arith, f, low_j, item)) in
                      let member = others_has c j k (omega (arith, same.0, at.1)) (omega (arith, same.1, below)) (omega (arith, same.0, w.0)) (omega (arith, same.1, w.1)) (λ f. other.1 (sym own ∙ ap (column_of c) (sym f))) in
                      outs_new hidden (x ∷ out) k (hides_at c (x ∷ out) i a k j (omega (arith, low_j, item)) high_j own here' (not-true (has_colour c a j) parts.1) member)
                ]
          ];
      out_dead = λ k low high gone.
          elim (outs_either hidden (x ∷ out) k gone) [
            | inl hid ↦
                let at = hidden_by c (x ∷ out) i a k t hid in
                let option = option_node c i at.node t item at.low at.own in
                let w = t.within at.node option at.high in
                let in_option = others_at c at.node k w.0 w.1 at.other in
                let same = t.same at.node k option at.high in_option.0 in_option.1 in
                let bar : ((i == column_of c at.node) && not (has_colour c a at.node)) ≡ true = and_from (i == column_of c at.node) (not (has_colour c a at.node)) (eq-eqb i (column_of c at.node) (sym at.own)) (not_from_false (has_colour c a at.node) at.other_colour) in
                dead_by c (n ∷ nodes) (begin_of c k) (end_of c k - begin_of c k) at.node (omega (arith, same.0, w.0)) (omega (arith, same.0, same.1, w.0, w.1)) (or_left ((i == column_of c at.node) && not (has_colour c a at.node)) (bars c nodes at.node) bar)
            | inr old ↦ elim (or_cases (x == k) (among out k) old) [
              | inl same ↦ absurd (omega (arith, eqb-true x k same, low, item))
              | inr was ↦ dead_more c n nodes k (o.out_dead k low high was)
            ]
          ];
    }

-- nodes of items that are not covered yet, none of them twice
abbrev pub AreNew : Columns → List ℕ → List ℕ → Type 0
AreNew c nodes [] = Unit {0}
AreNew c nodes (k ∷ ks) = ((column_of c k + 1 < c.heads) × (covers c nodes (column_of c k) ≡ false)) × AreNew c (k ∷ nodes) ks

abbrev pub with_all : List ℕ → List ℕ → List ℕ
with_all nodes [] = nodes
with_all nodes (k ∷ ks) = with_all (k ∷ nodes) ks

-- such nodes can cover their items one after the other, and then just the options that they bar are dead besides
pub are_open : (c : Columns) (nodes out ks : List ℕ) → IsTable c → IsOut c nodes out → AreNew c nodes ks → AreOpen c out ks
are_open c nodes out [] t o new = tt
are_open c nodes out (k ∷ ks) t o new = (open_by c nodes out (column_of c k) t o new.0.0 new.0.1, are_open c (k ∷ nodes) (outs (covered_by c out k) out) ks t (out_step c nodes out k t o new.0.0 new.0.1) new.1)

pub out_all : (c : Columns) (nodes out ks : List ℕ) → IsTable c → IsOut c nodes out → AreNew c nodes ks → IsOut c (with_all nodes ks) (outs_all c out ks)
out_all c nodes out [] t o new = o
out_all c nodes out (k ∷ ks) t o new = out_all c (k ∷ nodes) (outs (covered_by c out k) out) ks t (out_step c nodes out k t o new.0.0 new.0.1) new.1

pub new_rest : (c : Columns) (nodes xs ys : List ℕ) → AreNew c nodes (xs ++ ys) → AreNew c (with_all nodes xs) ys
new_rest c nodes [] ys new = new
new_rest c nodes (x ∷ xs) ys new = new_rest c (x ∷ nodes) xs ys new.1

-- ---- what stays as it is

-- a node without a colour bars all options that name its item
pub dead_named : (c : Columns) (nodes : List ℕ) (k y : ℕ) → IsTable c → IsOptionNode c y → column_of c y ≡ column_of c k → colour_at c k ≡ 0 → is_dead c (k ∷ nodes) y ≡ true
dead_named c nodes k y t node own none =
    let w = t.within y node.0 node.1 in
    let bar : ((column_of c k == column_of c y) && not (has_colour c (colour_at c k) y)) ≡ true = and_from (column_of c k == column_of c y) (not (has_colour c (colour_at c k) y)) (eq-eqb (column_of c k) (column_of c y) (sym own)) (ap (λ (a : ℕ). not (has_colour c a y)) none) in
    dead_by c (k ∷ nodes) (begin_of c y) (end_of c y - begin_of c y) y w.0 (omega (arith, w.0, w.1)) (or_left ((column_of c k == column_of c y) && not (has_colour c (colour_at c k) y)) (bars c nodes y) bar)

-- covering one item more takes no node of an option out that was dead before
dead_stays : (c : Columns) (nodes out : List ℕ) (n y : ℕ) → IsTable c → IsOut c nodes out → column_of c n + 1 < c.heads → covers c nodes (column_of c n) ≡ false → column_of c y + 1 < c.heads → (IsOptionNode c y → is_dead c nodes y ≡ true) → among (outs (covered_by c out n) out) y ≡ among out y
unfolding covered
dead_stays c nodes out n y t o item new named dead =
    let i : ℕ = column_of c n in
    let x : ℕ = c.heads + i in
    let hidden : List ℕ = hidden_from c (x ∷ out) i (colour_at c n) c.heads in
    let own = t.item_columns i item in
    let other : x ≡ y → ⊥ = (λ e. omega (arith, own, ap (column_of c) e, named)) in
    let never : among hidden y ≡ false = false_from_ne_true (among hidden y) (λ hid.
    let at = hidden_by c (x ∷ out) i (colour_at c n) y t hid in
    let low = option_node c i at.node t item at.low at.own in
    let w = t.within at.node low at.high in
    let in_option = others_at c at.node y w.0 w.1 at.other in
    let same = t.same at.node y low at.high in_option.0 in_option.1 in
    let was : is_dead c nodes at.node ≡ true = sym (dead_same c nodes at.node y same.0 same.1) ∙ dead (omega (arith, w.2, in_option.0), omega (arith, w.3, in_option.1)) in
    let gone = o.dead_out at.node low at.high (ap (covers c nodes) at.own ∙ new) was in
    both_ways (among (x ∷ out) at.node) at.here (or_right (x == at.node) (among out at.node) gone)) in
    outs_same hidden (x ∷ out) y never ∙ ap (λ (b : Bool). b || among out y) (ne_eqb x y other)

-- nor does covering several
pub dead_stay : (c : Columns) (nodes out ks : List ℕ) (y : ℕ) → IsTable c → IsOut c nodes out → AreNew c nodes ks → column_of c y + 1 < c.heads → (IsOptionNode c y → is_dead c nodes y ≡ true) → among (outs_all c out ks) y ≡ among out y
dead_stay c nodes out [] y t o new named dead = refl
dead_stay c nodes out (k ∷ ks) y t o new named dead =
    dead_stay c (k ∷ nodes) (outs (covered_by c out k) out) ks y t (out_step c nodes out k t o new.0.0 new.0.1) new.1 named (λ node. dead_more c k nodes y (dead node))
    ∙ dead_stays c nodes out k y t o new.0.0 new.0.1 named dead
