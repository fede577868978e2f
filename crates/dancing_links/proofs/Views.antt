-- What the views of the links answer.
use Rattle.std.proofs.Common.{◌≡◌, ℕ, zero, suc, ◌+◌, ◌-◌, ◌*◌, Bool, ◌<◌, ◌≤◌, List, [], ◌∷◌, length, nat_lt, not, ◌==◌, true, false, get_or, map, refl, arith, sym, ap, ◌∙◌, inl, inr, subst, slice_get, Some, None, Option, IfSome}
use Rattle.std.proofs.lemmas.Bool.{cases_lt, lt-ltb, le-ltb, not-true, both_ways, and_parts, cases_Bool, false_from_ne_true}
use Rattle.std.proofs.lemmas.List.{length-map}
use Rattle.cover_problem.specs.Branching.{live_options, is_choice, IsOpen}
use Rattle.cover_problem.specs.Onward.{open_items_from, live_options_from}
use Rattle.cover_problem.specs.Prefix.{is_covered, is_live}
use Rattle.cover_problem.specs.Problem.{Problem, names_item}
use Rattle.cover_problem.proofs.Prefixes.{live_at}
use Rattle.cover_problem.proofs.Remaining.{open_items_from_take, open_items_from_skip, open_items_from_end, live_options_from_take, live_options_from_skip, live_options_from_end}
use Rattle.dancing_links.specs.declared.link.Link.{Link}
use Rattle.choices.specs.Choices.{IsChild}
use Rattle.dancing_links.specs.Choices.{IsLinks, IsPrimary, out_of, chosen_nodes, covering_nodes, commits_of}
use Rattle.dancing_links.specs.Columns.{Columns, among, column_of, column_from, option_of, IsTable, IsLinked, IsSpelled}
use Rattle.dancing_links.specs.Keys.{mark_of, AreMarked, IsFirstUnmarked}
use Rattle.dancing_links.specs.Linking.{up_of, down_of}
use Rattle.dancing_links.specs.Walking.{walk, options_left}
use Rattle.dancing_links.specs.Table.{table, heads_of, base_of}
use Rattle.dancing_links.proofs.Keyed.{few}
use Rattle.dancing_links.proofs.Walk.{column_skip_to, column_from_take, column_from_end}
use Rattle.dancing_links.proofs.Nodes.{starts_next}
use Rattle.dancing_links.proofs.Tables.{IsNodeAt, start_of, table_is}
use Rattle.dancing_links.proofs.Present.{IsOut, covers, is_dead, with_all}
use Rattle.cover_problem.proofs.Basics.{same_truth}
use Rattle.dancing_links.proofs.State.{state_of, item_gone, known_test}
use Rattle.dancing_links.proofs.Cast.{IsCast, cast_names, node_live}
use Rattle.dancing_links.proofs.Entries.{some_node}
use Rattle.dancing_links.proofs.Columned.{column_options, column_options_from}

-- an item's column, by options
pub column_is : (p : Problem) (c : Columns) (os es : List ℕ) (m : List Link) (keys : List ℕ) (room i : ℕ) → IsLinks p c os es m keys room → i < length p.names → is_covered p os i ≡ false → map (option_of c) (column_from c (out_of c es) i c.heads) ≡ live_options p os i
column_is p c os es m keys room i is h free =
    let P : Columns → Type 0 = λ t. IsLinks p t os es m keys room in
    let s = state_of p (table p) os es m keys room (subst P is.layout is) in
    let Q : Columns → Type 0 = λ t. map (option_of t) (column_from t (out_of t es) i t.heads) ≡ live_options p os i in
    subst Q (sym is.layout) (column_options p os (with_all [] (chosen_nodes (table p) es)) (with_all [] (covering_nodes (table p) es)) (commits_of (table p) es) (out_of (table p) es) i s.cast s.out h free)

-- the key of an item has the mark where it is covered
pub key_is : (p : Problem) (c : Columns) (os es : List ℕ) (m : List Link) (keys : List ℕ) (room i : ℕ) → IsLinks p c os es m keys room → i < length p.names → get_or keys i 0 ≡ i + 65536 * length (column_from c (out_of c es) i c.heads) + mark_of (is_covered p os i)
key_is p c os es m keys room i is h =
    let heads : c.heads ≡ heads_of p = ap (λ (t : Columns). t.heads) is.layout in
    is.history.keyed.key i (omega (arith, heads, h)) ∙ ap (λ (b : Bool). i + 65536 * length (column_from c (out_of c es) i c.heads) + mark_of b) (item_gone p c os es m i (state_of p c os es m keys room is) h)

-- that of an uncovered one counts the live options that name it
pub open_key : (p : Problem) (c : Columns) (os es : List ℕ) (m : List Link) (keys : List ℕ) (room i : ℕ) → IsLinks p c os es m keys room → i < length p.names → is_covered p os i ≡ false → get_or keys i 0 ≡ i + 65536 * length (live_options p os i)
open_key p c os es m keys room i is h free =
    let marked = ap mark_of free in
    let live = sym (length-map (column_from c (out_of c es) i c.heads) (option_of c)) ∙ ap length (column_is p c os es m keys room i is h free) in
    omega (arith, key_is p c os es m keys room i is h, marked, live)

-- and has no mark
pub open_key_small : (p : Problem) (c : Columns) (os es : List ℕ) (m : List Link) (keys : List ℕ) (room i : ℕ) → IsLinks p c os es m keys room → i < length p.names → is_covered p os i ≡ false → get_or keys i 0 < 2147483648
open_key_small p c os es m keys room i is h free =
    let s = state_of p c os es m keys room is in
    let heads : c.heads ≡ heads_of p = ap (λ (t : Columns). t.heads) is.layout in
    let marked = ap mark_of free in
    omega (arith, key_is p c os es m keys room i is h, marked, few c (out_of c es) i s.table_is (omega (arith, heads, h)), heads, h, is.is_problem.names)

-- ---- the next uncovered item

open_skip_to : (p : Problem) (os : List ℕ) (n start j : ℕ) → j ≡ start + n → j ≤ p.primary → ((k : ℕ) → start ≤ k → k < j → is_covered p os k ≡ true) → open_items_from p os start ≡ open_items_from p os j
open_skip_to p os zero start j e high hit = ap (open_items_from p os) (omega (arith, e))
open_skip_to p os (suc n) start j e high hit =
    open_items_from_skip p os start (omega (arith, e, high)) (hit start (omega arith) (omega (arith, e)))
    ∙ open_skip_to p os n (start + 1) j (omega (arith, e)) high (λ k low under. hit k (omega (arith, low)) under)

pub item_keyed_in : (p : Problem) (c : Columns) (os es : List ℕ) (m : List Link) (keys : List ℕ) (room i : ℕ) → IsLinks p c os es m keys room → i < length p.names → i < length keys
item_keyed_in p c os es m keys room i is h = omega (arith, is.history.keyed.columns, ap (λ (t : Columns). t.heads) is.layout, h)

-- an item whose key has the mark is covered, and the others are not
pub marked_covered : (p : Problem) (c : Columns) (os es : List ℕ) (m : List Link) (keys : List ℕ) (room i : ℕ) → IsLinks p c os es m keys room → i < length p.names → 2147483648 ≤ get_or keys i 0 → is_covered p os i ≡ true
marked_covered p c os es m keys room i is h marked = elim (cases_Bool (is_covered p os i)) [
  | inl hit ↦ hit
  | inr free ↦ absurd (omega (arith, open_key_small p c os es m keys room i is h free, marked))
]

pub unmarked_free : (p : Problem) (c : Columns) (os es : List ℕ) (m : List Link) (keys : List ℕ) (room i : ℕ) → IsLinks p c os es m keys room → i < length p.names → get_or keys i 0 < 2147483648 → is_covered p os i ≡ false
unmarked_free p c os es m keys room i is h small = elim (cases_Bool (is_covered p os i)) [
  | inl hit ↦ absurd (omega (arith, key_is p c os es m keys room i is h, ap mark_of hit, small))
  | inr free ↦ free
]

-- so the mark shows it
pub covered_test : (p : Problem) (c : Columns) (os es : List ℕ) (m : List Link) (keys : List ℕ) (room i : ℕ) → IsLinks p c os es m keys room → i < length p.names → not (nat_lt (get_or keys i 0) 2147483648) ≡ is_covered p os i
covered_test p c os es m keys room i is h =
    let key : ℕ = get_or keys i 0 in
    elim (cases_lt (get_or keys i 0) 2147483648) [
      | inl small ↦ rw (lt-ltb key 2147483648 small) (sym (unmarked_free p c os es m keys room i is h small))
      | inr marked ↦ rw (le-ltb key 2147483648 marked) (sym (marked_covered p c os es m keys room i is h marked))
    ]

-- what the first key without a mark says, from an item on
pub record IsFirstOpen (p : Problem) (os : List ℕ) (start : ℕ) (r : Option ℕ) : Type 0 where
  pub first : r ≡ slice_get (open_items_from p os start) 0
  pub uncovered : IfSome r (IsOpen p os)

pub first_open : (p : Problem) (c : Columns) (os es : List ℕ) (m : List Link) (keys read : List ℕ) (room start bound : ℕ) (r : Option ℕ) → IsLinks p c os es m keys room → read ≡ keys → bound ≡ p.primary → IsFirstUnmarked read start bound r → IsFirstOpen p os start r
first_open p c os es m keys read room start bound r is e f at =
    let P : List ℕ → Type 0 = λ ks. IsFirstUnmarked ks start bound r in
    let Q : ℕ → Type 0 = λ n. IsFirstUnmarked keys start n r in
    go r (subst Q f (subst P e at))
  where
    hit : (end : ℕ) → end ≤ p.primary → AreMarked keys start end → (k : ℕ) → start ≤ k → k < end → is_covered p os k ≡ true
    hit end high marked k low under = marked_covered p c os es m keys room k is (omega (arith, under, high, is.is_problem.primary)) (marked k low under)

    go : (r : Option ℕ) → IsFirstUnmarked keys start p.primary r → IsFirstOpen p os start r
    go None all = record {
      first = elim (cases_lt start p.primary) [
        | inl less ↦ sym (ap (λ (items : List ℕ). slice_get items 0) (open_skip_to p os (p.primary - start) start p.primary (omega (arith, less)) (omega arith) (hit p.primary (omega arith) all) ∙ open_items_from_end p os p.primary (omega arith)))
        | inr past ↦ sym (ap (λ (items : List ℕ). slice_get items 0) (open_items_from_end p os start past))
      ];
      uncovered = tt;
    }
    go (Some i) at =
        let free = unmarked_free p c os es m keys room i is (omega (arith, at.1, is.is_problem.primary)) at.2 in
        let skip = open_skip_to p os (i - start) start i (omega (arith, at.0)) (omega (arith, at.1)) (hit i (omega (arith, at.1)) at.3) in
        record {
          first = sym (ap (λ (items : List ℕ). slice_get items 0) (skip ∙ open_items_from_take p os i at.1 free));
          uncovered = record { primary = at.1; uncovered = free };
        }

-- ---- down the column of an item

-- once there are steps enough, more of them change nothing
walk_enough : (c : Columns) (m : List Link) (n k node : ℕ) → IsTable c → IsLinked c m → c.tails ≤ node + n → c.tails ≤ node + k → walk c m n node ≡ walk c m k node
walk_enough c m zero zero node t l hn hk = refl
walk_enough c m zero (suc k) node t l hn hk = rw (le-ltb node c.tails (omega (arith, hn))) refl
walk_enough c m (suc n) zero node t l hn hk = rw (le-ltb node c.tails (omega (arith, hk))) refl
walk_enough c m (suc n) (suc k) node t l hn hk = elim (cases_lt node c.tails) [
  | inr past ↦ rw (le-ltb node c.tails past) refl
  | inl high ↦
      let rise = ((l.1 node (omega (arith, l.0, t.ends, high))).rises high).0 in
      let rest = walk_enough c m n k (down_of m node) t l (omega (arith, hn, rise)) (omega (arith, hk, rise)) in
      rw (lt-ltb node c.tails high) (ap (λ os. option_of c node ∷ os) rest)
]

-- the first of what is left, and the others
pub left_take : (c : Columns) (m : List Link) (node : ℕ) → IsTable c → IsLinked c m → node < c.tails → options_left c m node ≡ option_of c node ∷ options_left c m (down_of m node)
left_take c m node t l high =
    let rise = ((l.1 node (omega (arith, l.0, t.ends, high))).rises high).0 in
    let d : ℕ = down_of m node in
    let e : c.tails - node ≡ suc (c.tails - (node + 1)) = omega (arith, high) in
    ap (λ n. walk c m n node) e
    ∙ rw (lt-ltb node c.tails high) (ap (λ os. option_of c node ∷ os) (walk_enough c m (c.tails - (node + 1)) (c.tails - d) d t l (omega (arith, rise)) (omega arith)))

pub left_none : (c : Columns) (m : List Link) (node : ℕ) → c.tails ≤ node → options_left c m node ≡ []
left_none c m node past = let e : c.tails - node ≡ 0 = omega (arith, past) in ap (λ n. walk c m n node) e

walk_column : (c : Columns) (out : List ℕ) (m : List Link) (i n node : ℕ) → IsSpelled c out m → i + 1 < c.heads → c.heads ≤ node → column_of c node ≡ i → among out node ≡ false → c.tails ≤ node + n → walk c m n node ≡ map (option_of c) (column_from c out i node)
walk_column c out m i zero node s item low own here enough = ap (map (option_of c)) (sym (column_from_end c out i node (omega (arith, enough))))
walk_column c out m i (suc n) node s item low own here enough = elim (cases_lt node c.tails) [
  | inr past ↦ rw (le-ltb node c.tails past) (ap (map (option_of c)) (sym (column_from_end c out i node past)))
  | inl high ↦
      let next = s.down node high (omega (arith, own, item)) here in
      let d : ℕ = down_of m node in
      let skip = column_skip_to c out i (d - (node + 1)) (node + 1) d (omega (arith, next.below)) (λ y above below same. next.nearest y (omega (arith, above)) below (same ∙ sym own)) in
      let rest = walk_column c out m i n d s item next.low (next.column ∙ own) next.in_down (omega (arith, enough, next.below)) in
      rw (lt-ltb node c.tails high) (ap (λ os. option_of c node ∷ os) rest ∙ ap (map (option_of c)) (sym (column_from_take c out i node high own here ∙ ap (λ ks. node ∷ ks) skip)))
]

-- what is left from the head of an uncovered item on
pub left_all : (p : Problem) (c : Columns) (os es : List ℕ) (m : List Link) (keys : List ℕ) (room i : ℕ) → IsLinks p c os es m keys room → i < length p.names → is_covered p os i ≡ false → options_left c m (down_of m i) ≡ live_options p os i
left_all p c os es m keys room i is h free =
    let s = state_of p c os es m keys room is in
    let heads : c.heads ≡ heads_of p = ap (λ (t : Columns). t.heads) is.layout in
    let head : i < c.heads = omega (arith, heads, h) in
    let own = s.table_is.head_columns i head in
    let item : i + 1 < c.heads = omega (arith, heads, h) in
    let next = s.spelled.down i (omega (arith, head, s.spelled.order)) (omega (arith, own, item)) (s.spelled.heads_in i head) in
    let d : ℕ = down_of m i in
    let skip = column_skip_to c (out_of c es) i (d - c.heads) c.heads d (omega (arith, next.low)) (λ y above below same. next.nearest y (omega (arith, above, head)) below (same ∙ sym own)) in
    walk_column c (out_of c es) m i (c.tails - d) d s.spelled item next.low (next.column ∙ own) next.in_down (omega arith)
    ∙ ap (map (option_of c)) (sym skip) ∙ column_is p c os es m keys room i is h free

-- what a step of the iterator takes
pub left_step : (c : Columns) (m : List Link) (node option : ℕ) (left : List ℕ) → IsTable c → IsLinked c m → node < c.tails → option ≡ option_of c node → options_left c m node ≡ left → left ≡ option ∷ options_left c m (down_of m node)
left_step c m node option left t l high e f =
    sym f ∙ left_take c m node t l high ∙ ap (λ o. o ∷ options_left c m (down_of m node)) (sym e)

-- ---- the next option of an item

-- the node of a live option is in
pub node_in : (p : Problem) (os seen nodes commits out : List ℕ) (node o j : ℕ) → IsCast p (table p) os seen nodes commits → IsOut (table p) nodes out → IsNodeAt p node o j → is_live p os o ≡ true → among out node ≡ false
node_in p os seen nodes commits out node o j cast gone at live =
    let c : Columns = table p in
    let low : c.heads + c.heads ≤ node + 1 = omega (arith, at.low, at.node) in
    let high : node < c.tails = omega (arith, at.high, at.place_in, at.node) in
    let alive : is_dead c nodes node ≡ false = not-true (is_dead c nodes node) (node_live p os seen nodes commits node o j cast at ∙ live) in
    false_from_ne_true (among out node) (λ t. both_ways (is_dead c nodes node) alive (gone.out_dead node low high t))

-- and where its item is uncovered, it is in only there
pub live_test : (p : Problem) (os seen nodes commits out : List ℕ) (node o j : ℕ) → IsCast p (table p) os seen nodes commits → IsOut (table p) nodes out → IsNodeAt p node o j → is_covered p os (column_of (table p) node) ≡ false → not (among out node) ≡ is_live p os o
live_test p os seen nodes commits out node o j cast gone at free =
    let c : Columns = table p in
    let low : c.heads + c.heads ≤ node + 1 = omega (arith, at.low, at.node) in
    let high : node < c.tails = omega (arith, at.high, at.place_in, at.node) in
    let new : covers c nodes (column_of c node) ≡ false = cast_names p os seen nodes commits (column_of c node) cast ∙ free in
    ap not (same_truth (among out node) (is_dead c nodes node) (gone.out_dead node low high) (gone.dead_out node low high new))
    ∙ node_live p os seen nodes commits node o j cast at

-- an option is live where its first primary item is uncovered, and its node there is known from above
pub live_known : (p : Problem) (c : Columns) (os es : List ℕ) (m : List Link) (keys : List ℕ) (room o k : ℕ) → IsLinks p c os es m keys room → IsPrimary p c o k → is_covered p os (column_of c k) ≡ false → (down_of m (up_of m k) == k) ≡ is_live p os o
live_known p c os es m keys room o k is at free =
    let s = state_of p c os es m keys room is in
    let P : Columns → Type 0 = λ t. IsCast p t os (with_all [] (chosen_nodes t es)) (with_all [] (covering_nodes t es)) (commits_of t es) → IsOut t (with_all [] (covering_nodes t es)) (out_of t es) → IsPrimary p t o k → is_covered p os (column_of t k) ≡ false → not (among (out_of t es) k) ≡ is_live p os o in
    known_test p c os es m k s (omega (arith, at.in_option.0, s.table_is.some)) at.in_option.1 (s.table_is.option_columns k at.in_option.0 at.in_option.1)
    ∙ subst P (sym is.layout) (λ cast gone at free.
    let some = some_node p k at.in_option in
    let N : ℕ → Type 0 = λ q. IsNodeAt p k q some.0 in
    live_test p os (with_all [] (chosen_nodes (table p) es)) (with_all [] (covering_nodes (table p) es)) (commits_of (table p) es) (out_of (table p) es) k o some.0 cast gone (subst N at.own some.1) free) s.cast s.out at free

-- and not where that item is covered
pub live_covered : (p : Problem) (c : Columns) (os : List ℕ) (o k : ℕ) → IsPrimary p c o k → is_covered p os (column_of c k) ≡ true → is_live p os o ≡ false
live_covered p c os o k at hit = false_from_ne_true (is_live p os o) (λ live. both_ways (is_covered p os (column_of c k)) (live_at p os o (column_of c k) at.primary live at.named) hit)

-- after the node of an option its column holds nodes of the live options after it
pub rest_at : (p : Problem) (os seen nodes commits out : List ℕ) (i node o j : ℕ) → IsCast p (table p) os seen nodes commits → IsOut (table p) nodes out → i < length p.names → is_covered p os i ≡ false → IsNodeAt p node o j → column_of (table p) node ≡ i → map (option_of (table p)) (column_from (table p) out i (node + 1)) ≡ live_options_from p os i (o + 1)
rest_at p os seen nodes commits out i node o j cast gone h free at own =
    let c : Columns = table p in
    let t = table_is p cast.is_problem in
    let low : c.heads + c.heads ≤ node + 1 = omega (arith, at.low, at.node) in
    let high : node < c.tails = omega (arith, at.high, at.place_in, at.node) in
    let follow = starts_next (base_of p) p.options o at.option_in in
    let skip = column_skip_to c out i (start_of p (o + 1) - (node + 1)) (node + 1) (start_of p (o + 1)) (omega (arith, follow, at.node, at.place_in)) (λ y above below same.
    absurd (omega (arith, above, t.apart node y low high (omega (arith, at.begin, at.node, above)) (omega (arith, at.end, follow, below)) (same ∙ sym own)))) in
    ap (map (option_of c)) skip ∙ column_options_from p os seen nodes commits out i (o + 1) cast gone h free (omega (arith, at.option_in))

-- ---- the first of the options that are left

head_from : (p : Problem) (os : List ℕ) (i n start o : ℕ) → length p.options ≤ start + n → slice_get (live_options_from p os i start) 0 ≡ Some o → IsChild p os i o × (start ≤ o)
head_from p os i zero start o enough e =
    let none : None ≡ Some o = sym (ap (λ (is : List ℕ). slice_get is 0) (live_options_from_end p os i start (omega (arith, enough)))) ∙ e in
    absurd (cc)
head_from p os i (suc n) start o enough e = elim (cases_lt start (length p.options)) [
  | inr past ↦
      let none : None ≡ Some o = sym (ap (λ (is : List ℕ). slice_get is 0) (live_options_from_end p os i start past)) ∙ e in
      absurd (cc)
  | inl inside ↦ elim (cases_Bool (is_choice p os i start)) [
    | inr no_choice ↦
        let rest = head_from p os i n (start + 1) o (omega (arith, enough)) (sym (ap (λ (is : List ℕ). slice_get is 0) (live_options_from_skip p os i start inside no_choice)) ∙ e) in
        (rest.0, omega (arith, rest.1))
    | inl choice ↦
        let same : Some start ≡ Some o = sym (ap (λ (is : List ℕ). slice_get is 0) (live_options_from_take p os i start inside choice)) ∙ e in
        let equal : start ≡ o = cc in
        let parts = and_parts (is_live p os start) (names_item p start i) choice in
        let P : ℕ → Type 0 = λ k. IsChild p os i k in
        (subst P equal (record { inside = inside; live = parts.0; named = parts.1 }), omega (arith, equal))
  ]
]

pub head_child : (p : Problem) (os : List ℕ) (i start : ℕ) (r : Option ℕ) → r ≡ slice_get (live_options_from p os i start) 0 → IfSome r (IsChild p os i)
head_child p os i start None e = tt
head_child p os i start (Some o) e = (head_from p os i (length p.options) start o (omega arith) (sym e)).0
