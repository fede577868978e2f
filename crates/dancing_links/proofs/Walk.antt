-- Nodes taken out in a row, and the walk down a column.
use Rattle.std.proofs.Common.{◌≡◌, ℕ, zero, suc, ◌+◌, ◌-◌, ◌<◌, ◌≤◌, List, [], ◌∷◌, ◌++◌, Bool, true, false, not, ◌==◌, ◌||◌, filter, length, refl, arith, sym, ap, ◌∙◌, subst, inl, inr, append_assoc, append-nil}
use Rattle.std.specs.List.{range_with_len, flat_map}
use Rattle.std.proofs.lemmas.Bool.{eq-eqb, ne_eqb, cases_Bool, cases_eq, cases_lt, both_ways, false_from_ne_true}
use Rattle.std.proofs.lemmas.List.{length-append}
use Rattle.cover_problem.proofs.Among.{filter_fewer}
use Rattle.dancing_links.specs.declared.link.Link.{Link}
use Rattle.dancing_links.specs.Columns.{among, Columns, column_of, begin_of, end_of, IsSpelled, column_from, IsTable}
use Rattle.dancing_links.specs.Keys.{fewer, more, with_less, with_more}
use Rattle.dancing_links.specs.Trail.{Trails, HasRoom, count_in}
use Rattle.dancing_links.specs.Covering.{outs, others, has_colour, hidden_at, hidden_from, AreWhole, IsOpen, Covers}
use Rattle.dancing_links.specs.Linking.{down_of, unlinked, unlinks}
use Rattle.dancing_links.proofs.Law.{spelled_unlink, spelled_mark, in_other, out_other}
use Rattle.cover_problem.proofs.Basics.{range_step}
use Rattle.dancing_links.proofs.Round.{range_at, others_at, others_ranges}

-- nodes that can be taken out in turn
abbrev pub AreIn : Columns → List ℕ → List ℕ → Type 0
AreIn c out [] = Unit {0}
AreIn c out (x ∷ xs) = ((c.heads ≤ x) × (x < c.tails) × (among out x ≡ false) × (column_of c x + 1 < c.heads)) × AreIn c (x ∷ out) xs

pub spelled_unlinks : (c : Columns) (out : List ℕ) (m : List Link) (xs : List ℕ) → IsSpelled c out m → AreIn c out xs → IsSpelled c (outs xs out) (unlinks m xs)
spelled_unlinks c out m [] s are = s
spelled_unlinks c out m (x ∷ xs) s are = spelled_unlinks c (x ∷ out) (unlinked m x) xs (spelled_unlink c out m x s are.0.0 are.0.1 are.0.3 are.0.2) are.1

-- ---- how many nodes are in

pub same_filter : (p q : ℕ → Bool) (n start : ℕ) → ((k : ℕ) → start ≤ k → k < start + n → p k ≡ q k) → filter p (range_with_len start n) ≡ filter q (range_with_len start n)
same_filter p q zero start same = refl
same_filter p q (suc n) start same =
    let rest = same_filter p q n (start + 1) (λ k low high. same k (omega (arith, low)) (omega (arith, high))) in
    let here = same start (omega arith) (omega arith) in
    elim (cases_Bool (q start)) [
      | inl t ↦ rw (here, t, rest) refl
      | inr f ↦ rw (here, f, rest) refl
    ]

pub filter_one_less : (p q : ℕ → Bool) (x n s : ℕ) → ((k : ℕ) → (k ≡ x → ⊥) → p k ≡ q k) → p x ≡ true → q x ≡ false → s ≤ x → x < s + n → length (filter p (range_with_len s n)) ≡ suc (length (filter q (range_with_len s n)))
filter_one_less p q x zero s same yes_p no_q low high = absurd (omega (arith, low, high))
filter_one_less p q x (suc n) s same yes_p no_q low high = elim (cases_eq s x) [
  | inl e ↦
      let here : p s ≡ true = ap p e ∙ yes_p in
      let gone : q s ≡ false = ap q e ∙ no_q in
      let rest : filter p (range_with_len (s + 1) n) ≡ filter q (range_with_len (s + 1) n) = same_filter p q n (s + 1) (λ k above below. same k (λ f. omega (arith, f, e, above))) in
      rw (here, gone, rest) refl
  | inr ne ↦
      let rest = filter_one_less p q x n (s + 1) same yes_p no_q (omega (arith, low, ne)) (omega (arith, high)) in
      let both : p s ≡ q s = same s ne in
      elim (cases_Bool (q s)) [
        | inl t ↦ rw (both, t) (ap suc rest)
        | inr f ↦ rw (both, f) rest
      ]
]

-- a node that is taken out is one less
count_out : (c : Columns) (out : List ℕ) (x : ℕ) → c.heads ≤ x → x < c.tails → among out x ≡ false → count_in c out ≡ suc (count_in c (x ∷ out))
unfolding count_in
count_out c out x low high here =
    filter_one_less (λ k. not (among out k)) (λ k. not (among (x ∷ out) k)) x (c.tails - c.heads) c.heads
    (λ k ne. rw (ne_eqb x k (λ e. ne (sym e))) refl)
    (rw here refl)
    (rw (eq-eqb x x refl) refl)
    low (omega (arith, low, high))

pub count_outs : (c : Columns) (out xs : List ℕ) → AreIn c out xs → length xs + count_in c (outs xs out) ≡ count_in c out
count_outs c out [] are = omega arith
count_outs c out (x ∷ xs) are = omega (arith, count_out c out x are.0.0 are.0.1 are.0.2, count_outs c (x ∷ out) xs are.1)

not_less : (a b : Bool) → not (a || b) ≡ true → not b ≡ true
not_less true b h = absurd (both_ways false refl h)
not_less false b h = h

-- a mark makes no node more
pub count_mark : (c : Columns) (out : List ℕ) (x : ℕ) → count_in c (x ∷ out) ≤ count_in c out
unfolding count_in
count_mark c out x = filter_fewer (λ k. not (among out k)) (λ k. not (among (x ∷ out) k)) (λ k h. not_less (x == k) (among out k) h) (range_with_len c.heads (c.tails - c.heads))

pub unlinks-append : (m : List Link) (xs ys : List ℕ) → unlinks m (xs ++ ys) ≡ unlinks (unlinks m xs) ys
unlinks-append m [] ys = refl
unlinks-append m (x ∷ xs) ys = unlinks-append (unlinked m x) xs ys

pub outs-append : (xs ys out : List ℕ) → outs (xs ++ ys) out ≡ outs ys (outs xs out)
outs-append [] ys out = refl
outs-append (x ∷ xs) ys out = outs-append xs ys (x ∷ out)

pub outs_same : (xs out : List ℕ) (k : ℕ) → among xs k ≡ false → among (outs xs out) k ≡ among out k
outs_same [] out k h = refl
outs_same (x ∷ xs) out k h =
    let other = out_other xs x k h in
    outs_same xs (x ∷ out) k other.0 ∙ ap (λ (b : Bool). b || among out k) (ne_eqb x k (λ e. other.1 (sym e)))

range_in : (c : Columns) (out : List ℕ) (n start : ℕ) → c.heads ≤ start → start + n ≤ c.tails → ((j : ℕ) → start ≤ j → j < start + n → column_of c j + 1 < c.heads) → ((j : ℕ) → start ≤ j → j < start + n → among out j ≡ false) → AreIn c out (range_with_len start n)
range_in c out zero start low high own here = tt
range_in c out (suc n) start low high own here =
    ((low, omega (arith, high), here start (omega arith) (omega arith), own start (omega arith) (omega arith)), range_in c (start ∷ out) n (start + 1) (omega (arith, low)) (omega (arith, high)) (λ j above below. own j (omega (arith, above)) (omega (arith, below))) (λ j above below. in_other out start j (here j (omega (arith, above)) (omega (arith, below))) (λ f. omega (arith, f, above))))

pub are_in-append : (c : Columns) (out xs ys : List ℕ) → AreIn c out xs → AreIn c (outs xs out) ys → AreIn c out (xs ++ ys)
are_in-append c out [] ys are more = more
are_in-append c out (x ∷ xs) ys are more = (are.0, are_in-append c (x ∷ out) xs ys are.1 more)

-- the others of a node can be taken out where its option is in as a whole
pub others_are_in : (c : Columns) (out : List ℕ) (node : ℕ) → IsTable c → c.heads + c.heads ≤ node + 1 → node < c.tails → ((j : ℕ) → begin_of c node ≤ j → j < end_of c node → among out j ≡ false) → AreIn c out (others c node)
others_are_in c out node t low high here =
    let w = t.within node low high in
    let n : ℕ = end_of c node - (node + 1) in
    let after : List ℕ = range_with_len (node + 1) (end_of c node - (node + 1)) in
    let before : List ℕ = range_with_len (begin_of c node) (node - begin_of c node) in
    let are : AreIn c out after = range_in c out n (node + 1) (omega (arith, low, t.order)) (omega (arith, w.1, w.3)) (λ j above below. t.option_columns j (omega (arith, low, above)) (omega (arith, below, w.1, w.3))) (λ j above below. here j (omega (arith, w.0, above)) (omega (arith, below, w.1))) in
    let fresh : (j : ℕ) → begin_of c node ≤ j → j < begin_of c node + (node - begin_of c node) → among (outs after out) j ≡ false = (λ j above below.
    outs_same after out j (false_from_ne_true (among after j) (λ yes. let at = range_at n (node + 1) j yes in omega (arith, at.0, below, w.0))) ∙ here j above (omega (arith, below, w.0, w.1))) in
    let then : AreIn c (outs after out) before = range_in c (outs after out) (node - begin_of c node) (begin_of c node) (omega (arith, w.2, t.order, low)) (omega (arith, w.0, high)) (λ j above below. t.option_columns j (omega (arith, above, w.2)) (omega (arith, below, w.0, high))) fresh in
    let P : List ℕ → Type 0 = λ ks. AreIn c out ks in
    subst P (sym (others_ranges c node w.0 w.1)) (are_in-append c out after before are then)

-- going down a column
pub column_from_take : (c : Columns) (out : List ℕ) (i k : ℕ) → k < c.tails → column_of c k ≡ i → among out k ≡ false → column_from c out i k ≡ k ∷ column_from c out i (k + 1)
unfolding column_from
column_from_take c out i k h own here = let e : c.tails - k ≡ suc (c.tails - (k + 1)) = omega arith in rw (range_step k _ _ e, eq-eqb (column_of c k) i own, here) refl

pub column_from_skip : (c : Columns) (out : List ℕ) (i k : ℕ) → k < c.tails → (column_of c k ≡ i → among out k ≡ true) → column_from c out i k ≡ column_from c out i (k + 1)
unfolding column_from
column_from_skip c out i k h gone =
    let e : c.tails - k ≡ suc (c.tails - (k + 1)) = omega arith in
    elim (cases_eq (column_of c k) i) [
      | inl own ↦ rw (range_step k _ _ e, eq-eqb (column_of c k) i own, gone own) refl
      | inr ne ↦ rw (range_step k _ _ e, ne_eqb (column_of c k) i ne) refl
    ]

pub column_from_end : (c : Columns) (out : List ℕ) (i k : ℕ) → c.tails ≤ k → column_from c out i k ≡ []
unfolding column_from
column_from_end c out i k h = let e : c.tails - k ≡ 0 = omega arith in rw e refl

pub column_skip_to : (c : Columns) (out : List ℕ) (i n k d : ℕ) → d ≡ k + n → ((y : ℕ) → k ≤ y → y < d → column_of c y ≡ i → among out y ≡ true) → column_from c out i k ≡ column_from c out i d
column_skip_to c out i zero k d e gone = ap (column_from c out i) (omega (arith, e))
column_skip_to c out i (suc n) k d e gone =
    elim (cases_lt k c.tails) [
      | inl h ↦ column_from_skip c out i k h (gone k (omega arith) (omega (arith, e))) ∙ column_skip_to c out i n (k + 1) d (omega (arith, e)) (λ y above below own. gone y (omega (arith, above)) below own)
      | inr h ↦ column_from_end c out i k h ∙ sym (column_from_end c out i d (omega (arith, h, e)))
    ]

-- ---- what is hidden at a node

hidden_none : (c : Columns) (a node : ℕ) → has_colour c a node ≡ true → hidden_at c a node ≡ []
unfolding hidden_at
hidden_none c a node h = rw h refl

pub hidden_others : (c : Columns) (a node : ℕ) → has_colour c a node ≡ false → hidden_at c a node ≡ others c node
unfolding hidden_at
hidden_others c a node h = rw h refl

-- an item that gets no colour hides all options that name it
pub hidden_plain : (c : Columns) (node : ℕ) → hidden_at c 0 node ≡ others c node
unfolding hidden_at
hidden_plain c node = refl

pub hidden_other : (c : Columns) (a node k : ℕ) → among (hidden_at c a node) k ≡ true → (has_colour c a node ≡ false) × (among (others c node) k ≡ true)
hidden_other c a node k h = elim (cases_Bool (has_colour c a node)) [
  | inl t ↦ absurd (both_ways (among (hidden_at c a node) k) (ap (λ (ks : List ℕ). among ks k) (hidden_none c a node t)) h)
  | inr f ↦ (f, sym (ap (λ (ks : List ℕ). among ks k) (hidden_others c a node f)) ∙ h)
]

pub hidden_row : (c : Columns) (a node k : ℕ) → begin_of c node ≤ node → node < end_of c node → among (hidden_at c a node) k ≡ true → (begin_of c node ≤ k) × (k < end_of c node) × (k ≡ node → ⊥)
hidden_row c a node k low high h = others_at c node k low high (hidden_other c a node k h).1

pub hidden_are_in : (c : Columns) (out : List ℕ) (a node : ℕ) → IsTable c → c.heads + c.heads ≤ node + 1 → node < c.tails → ((j : ℕ) → begin_of c node ≤ j → j < end_of c node → among out j ≡ false) → AreIn c out (hidden_at c a node)
hidden_are_in c out a node t low high here =
    let P : List ℕ → Type 0 = λ ks. AreIn c out ks in
    elim (cases_Bool (has_colour c a node)) [
      | inl h ↦ subst P (sym (hidden_none c a node h)) tt
      | inr f ↦ subst P (sym (hidden_others c a node f)) (others_are_in c out node t low high here)
    ]

-- on the way down the column of an item: what was done, and what is left
pub record IsGoing (c : Columns) (out : List ℕ) (i a : ℕ) (old now : List Link) (node : ℕ) (done : List ℕ) : Type 0 where
  pub links : now ≡ unlinks old done
  pub are_in : AreIn c out done
  pub left : done ++ hidden_from c out i a node ≡ hidden_from c out i a c.heads
  pub column : column_of c node ≡ i
  pub here : among (outs done out) node ≡ false
  pub own : (k : ℕ) → column_of c k ≡ i → among (outs done out) k ≡ among out k
  pub later : (k : ℕ) → node < c.tails → begin_of c node ≤ k → among (outs done out) k ≡ among out k

-- a node of an item's column is one of an option
pub option_node : (c : Columns) (i k : ℕ) → IsTable c → i + 1 < c.heads → c.heads ≤ k → column_of c k ≡ i → c.heads + c.heads ≤ k + 1
option_node c i k t item low own = elim (cases_lt (k + 1) (c.heads + c.heads)) [
  | inl less ↦
      let j : ℕ = k - c.heads in
      let e : c.heads + j ≡ k = omega arith in
      let at = t.item_columns j (omega (arith, less)) in
      let same : column_of c (c.heads + j) ≡ i = ap (column_of c) e ∙ own in
      absurd (omega (arith, at, same, item))
  | inr more ↦ more
]

-- options of two nodes of one column follow each other
pub option_after : (c : Columns) (a b : ℕ) → IsTable c → c.heads + c.heads ≤ a + 1 → a < b → b < c.tails → column_of c b ≡ column_of c a → end_of c a ≤ begin_of c b
option_after c a b t low less high own =
    let wa = t.within a low (omega (arith, less, high)) in
    let wb = t.within b (omega (arith, low, less)) high in
    elim (cases_lt b (end_of c a)) [
      | inl in_a ↦ absurd (omega (arith, less, t.apart a b low (omega (arith, less, high)) (omega (arith, wa.0, less)) in_a own))
      | inr past ↦ elim (cases_lt (begin_of c b) (end_of c a)) [
        | inr fine ↦ fine
        | inl cross ↦ elim (cases_lt (begin_of c b) (begin_of c a)) [
          | inl before ↦
              let s = t.same b a (omega (arith, low, less)) high (omega (arith, before, wa.0)) (omega (arith, less, wb.1)) in
              absurd (omega (arith, s.1, past, wb.1))
          | inr after ↦
              let s = t.same a (begin_of c b) low (omega (arith, less, high)) after cross in
              let r = t.same b (begin_of c b) (omega (arith, low, less)) high (omega arith) (omega (arith, wb.0, wb.1)) in
              absurd (omega (arith, s.1, r.1, past, wb.1))
        ]
      ]
    ]

pub going_start : (c : Columns) (out : List ℕ) (i a : ℕ) (m : List Link) → IsTable c → i + 1 < c.heads → IsSpelled c out m → IsGoing c out i a m m (down_of m i) []
unfolding hidden_from
going_start c out i a m t item s =
    let own : column_of c i ≡ i = t.head_columns i (omega (arith, item)) in
    let next = s.down i (omega (arith, item, s.order)) (omega (arith, own, item)) (s.heads_in i (omega (arith, item))) in
    record {
      links = refl;
      are_in = tt;
      left = ap (flat_map (hidden_at c a)) (sym (column_skip_to c out i (down_of m i - c.heads) c.heads (down_of m i) (omega (arith, next.low)) (λ y above below same. next.nearest y (omega (arith, above, item)) below (same ∙ sym own))));
      column = next.column ∙ own;
      here = next.in_down;
      own = λ k same. refl;
      later = λ k high after. refl;
    }

pub going_step : (c : Columns) (out : List ℕ) (i a : ℕ) (old now : List Link) (node : ℕ) (done : List ℕ) → IsTable c → i + 1 < c.heads → IsSpelled c out old → AreWhole c out i → c.heads ≤ node → node < c.tails → IsGoing c out i a old now node done → IsGoing c out i a old (unlinks now (hidden_at c a node)) (down_of (unlinks now (hidden_at c a node)) node) (done ++ hidden_at c a node)
unfolding hidden_from
going_step c out i a old now node done t item s whole low high g =
    let option = option_node c i node t item low g.column in
    let w = t.within node option high in
    let order : begin_of c node ≤ end_of c node = omega (arith, w.0, w.1) in
    let here : among out node ≡ false = sym (g.own node g.column) ∙ g.here in
    let all_in = hidden_are_in c (outs done out) a node t option high (λ j above below. g.later j high above ∙ whole node j option high g.column here above below) in
    let both = are_in-append c out done (hidden_at c a node) g.are_in all_in in
    let links : unlinks now (hidden_at c a node) ≡ unlinks old (done ++ hidden_at c a node) = rw (unlinks-append old done (hidden_at c a node), g.links) refl in
    let spelled : IsSpelled c (outs (done ++ hidden_at c a node) out) (unlinks now (hidden_at c a node)) = rw links (spelled_unlinks c out old (done ++ hidden_at c a node) s both) in
    let keep : (k : ℕ) → (among (hidden_at c a node) k ≡ true → ⊥) → among (outs (done ++ hidden_at c a node) out) k ≡ among (outs done out) k =
    (λ k never. rw (outs-append done (hidden_at c a node) out) (outs_same (hidden_at c a node) (outs done out) k (false_from_ne_true (among (hidden_at c a node) k) never))) in
    let own : (k : ℕ) → column_of c k ≡ i → among (outs (done ++ hidden_at c a node) out) k ≡ among out k =
    (λ k same. keep k (λ yes. let at = hidden_row c a node k w.0 w.1 yes in at.2 (t.apart node k option high at.0 at.1 (same ∙ sym g.column))) ∙ g.own k same) in
    let node_in : among (outs (done ++ hidden_at c a node) out) node ≡ false = own node g.column ∙ here in
    let next = spelled.down node high (t.option_columns node option high) node_in in
    let d : ℕ = down_of (unlinks now (hidden_at c a node)) node in
    let take = column_from_take c out i node high g.column here in
    let skip = column_skip_to c out i (d - (node + 1)) (node + 1) d (omega (arith, next.below)) (λ y above below same. sym (own y same) ∙ next.nearest y (omega (arith, above)) below (same ∙ sym g.column)) in
    let column : column_from c out i node ≡ node ∷ column_from c out i d = take ∙ ap (λ ks. node ∷ ks) skip in
    record {
      links = links;
      are_in = both;
      left = append_assoc done (hidden_at c a node) (flat_map (hidden_at c a) (column_from c out i d)) ∙ ap (λ ks. done ++ flat_map (hidden_at c a) ks) (sym column) ∙ g.left;
      column = next.column ∙ g.column;
      here = next.in_down;
      own = own;
      later = λ k inside after.
          let follow = option_after c node d t option next.below inside next.column in
          keep k (λ yes. let at = hidden_row c a node k w.0 w.1 yes in omega (arith, at.1, follow, after))
          ∙ g.later k high (omega (arith, follow, after, order));
    }

pub going_done : (c : Columns) (out : List ℕ) (i a : ℕ) (old now : List Link) (node : ℕ) (done : List ℕ) → c.tails ≤ node → IsGoing c out i a old now node done → done ≡ hidden_from c out i a c.heads
unfolding hidden_from
going_done c out i a old now node done past g = sym (append-nil done) ∙ ap (λ ks. done ++ flat_map (hidden_at c a) ks) (sym (column_from_end c out i node past)) ∙ g.left

pub going_end : (c : Columns) (out : List ℕ) (i a : ℕ) (old now : List Link) (node : ℕ) (done : List ℕ) → c.tails ≤ node → IsGoing c out i a old now node done → now ≡ unlinks old (hidden_from c out i a c.heads)
unfolding hidden_from
going_end c out i a old now node done past g = g.links ∙ ap (unlinks old) (going_done c out i a old now node done past g)

-- an item that can be covered, once it is marked
pub whole_item : (c : Columns) (out : List ℕ) (i : ℕ) → IsTable c → IsOpen c out i → AreWhole c ((c.heads + i) ∷ out) i
whole_item c out i t can = λ k j low high own here above below.
    let w = t.within k low high in
    let other = out_other out (c.heads + i) k here in
    in_other out (c.heads + i) j (can.whole k j low high own other.0 above below) (λ e. omega (arith, e, w.2, above, can.item))

pub item_out : (c : Columns) (out : List ℕ) (i : ℕ) (m : List Link) → IsTable c → IsOpen c out i → IsSpelled c out m → IsSpelled c ((c.heads + i) ∷ out) m
item_out c out i m t can s = spelled_mark c out m (c.heads + i) s (omega arith) (omega (arith, can.item, t.order)) (t.item_columns i can.item)

-- on the way down: what was done, to the links, to the keys and to the trail
pub record IsWalk (c : Columns) (out : List ℕ) (i a : ℕ) (old now : List Link) (was is first trail : List ℕ) (node : ℕ) : Type 0 where
  pub done : List ℕ
  pub going : IsGoing c out i a old now node done
  pub keys : is ≡ fewer c was done
  pub trail_is : trail ≡ first ++ done

abbrev pub Going : Columns → List Link → ℕ → ℕ → List Link → List ℕ → List ℕ → List ℕ → List ℕ → ℕ → Type 0
Going c old i a now was is first trail node = (out : List ℕ) → IsSpelled c out old → IsOpen c out i → IsWalk c ((c.heads + i) ∷ out) i a old now was is first trail node

pub fewer-append : (c : Columns) (keys xs ys : List ℕ) → fewer c keys (xs ++ ys) ≡ fewer c (fewer c keys xs) ys
fewer-append c keys [] ys = refl
fewer-append c keys (x ∷ xs) ys = fewer-append c (with_less c keys x) xs ys

pub more-append : (c : Columns) (keys xs ys : List ℕ) → more c keys (xs ++ ys) ≡ more c (more c keys ys) xs
more-append c keys [] ys = refl
more-append c keys (x ∷ xs) ys = ap (λ (k : List ℕ). with_more c k x) (more-append c keys xs ys)

pub cover_start : (c : Columns) (old : List Link) (was first : List ℕ) (i a : ℕ) → IsTable c → Going c old i a old was was first first (down_of old i)
cover_start c old was first i a t = λ out s can. record {
  done = [];
  going = going_start c ((c.heads + i) ∷ out) i a old t can.item (item_out c out i old t can s);
  keys = refl;
  trail_is = sym (append-nil first);
}

pub cover_step : (c : Columns) (old now new : List Link) (was is less first trail longer : List ℕ) (i a node : ℕ) → IsTable c → c.heads ≤ node → node < c.tails → new ≡ unlinks now (hidden_at c a node) → less ≡ fewer c is (hidden_at c a node) → longer ≡ trail ++ hidden_at c a node → Going c old i a now was is first trail node → Going c old i a new was less first longer (down_of new node)
cover_step c old now new was is less first trail longer i a node t low high e f h going = λ out s can.
    let w = going out s can in
    record {
      done = w.done ++ hidden_at c a node;
      going = rw e (going_step c ((c.heads + i) ∷ out) i a old now node w.done t can.item (item_out c out i old t can s) (whole_item c out i t can) low high w.going);
      keys = f ∙ ap (λ (k : List ℕ). fewer c k (hidden_at c a node)) w.keys ∙ sym (fewer-append c was w.done (hidden_at c a node));
      trail_is = h ∙ ap (λ (k : List ℕ). k ++ hidden_at c a node) w.trail_is ∙ append_assoc first w.done (hidden_at c a node);
    }

pub cover_end : (c : Columns) (old now : List Link) (was is first trail : List ℕ) (i a node : ℕ) → c.tails ≤ node → Going c old i a now was is first trail node → Covers c old i a now
cover_end c old now was is first trail i a node past going = λ out s can. let w = going out s can in going_end c ((c.heads + i) ∷ out) i a old now node w.done past w.going

-- what was put on the trail
pub cover_trail : (c : Columns) (old now : List Link) (was is first trail : List ℕ) (i a node : ℕ) → c.tails ≤ node → Going c old i a now was is first trail node → Trails c old i a first trail
cover_trail c old now was is first trail i a node past going = λ out s can.
    let w = going out s can in
    w.trail_is ∙ ap (λ (done : List ℕ). first ++ done) (going_done c ((c.heads + i) ∷ out) i a old now node w.done past w.going)

-- what is hidden at a node on the way can be taken out
pub going_next : (c : Columns) (out : List ℕ) (i a : ℕ) (old now : List Link) (node : ℕ) (done : List ℕ) → IsTable c → i + 1 < c.heads → AreWhole c out i → c.heads ≤ node → node < c.tails → IsGoing c out i a old now node done → AreIn c out (done ++ hidden_at c a node)
going_next c out i a old now node done t item whole low high g =
    let option = option_node c i node t item low g.column in
    let here : among out node ≡ false = sym (g.own node g.column) ∙ g.here in
    are_in-append c out done (hidden_at c a node) g.are_in (hidden_are_in c (outs done out) a node t option high (λ j above below. g.later j high above ∙ whole node j option high g.column here above below))

-- so the trail has room for it
pub walk_room : (c : Columns) (old now : List Link) (was is first trail : List ℕ) (i a node room : ℕ) → IsTable c → c.heads ≤ node → node < c.tails → HasRoom c old i first room → Going c old i a now was is first trail node → length trail + length (hidden_at c a node) ≤ room
walk_room c old now was is first trail i a node room t low high r going =
    let w = going r.out r.spelled r.can in
    let out : List ℕ = (c.heads + i) ∷ r.out in
    let all = going_next c out i a old now node w.done t r.can.item (whole_item c r.out i t r.can) low high w.going in
    let count = count_outs c out (w.done ++ hidden_at c a node) all in
    omega (arith, count, count_mark c r.out (c.heads + i), r.enough, ap length w.trail_is, length-append first w.done, length-append w.done (hidden_at c a node))
