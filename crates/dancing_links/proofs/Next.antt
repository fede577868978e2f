-- The node below the one of the last choice, once the other items of its option are uncovered.
use Rattle.std.proofs.Common.{◌≡◌, ℕ, ◌+◌, ◌-◌, ◌<◌, ◌≤◌, List, [], ◌∷◌, ◌++◌, length, true, false, ◌||◌, Bool, map, refl, arith, sym, ap, ◌∙◌, subst, append_assoc, slice_get, Some, None}
use Rattle.std.proofs.lemmas.Bool.{ne_eqb, false_from_ne_true}
use Rattle.cover_problem.specs.Onward.{live_options_from}
use Rattle.cover_problem.specs.Prefix.{is_covered, is_live}
use Rattle.cover_problem.specs.Problem.{Problem}
use Rattle.cover_problem.proofs.Remaining.{live_options_start}
use Rattle.dancing_links.specs.declared.link.Link.{Link}
use Rattle.choices.specs.Choices.{IsChild}
use Rattle.dancing_links.specs.Choices.{IsHistory, IsLinks, chosen_nodes, covering_nodes, commits_of, out_of}
use Rattle.dancing_links.specs.Columns.{Columns, among, column_of, colour_at, column_from, option_of, IsTable, IsSpelled, IsOptionNode}
use Rattle.dancing_links.specs.Committing.{commit, covering}
use Rattle.dancing_links.specs.Covering.{outs, outs_all, covered, covered_by, hidden_from, others, IsOpen}
use Rattle.dancing_links.specs.Linking.{down_of}
use Rattle.dancing_links.specs.Table.{table, heads_of}
use Rattle.dancing_links.proofs.Walk.{outs_same, option_node, column_skip_to, column_from_take, column_from_end}
use Rattle.dancing_links.proofs.Round.{others_at}
use Rattle.dancing_links.proofs.Choose.{spelled_all, open_parts, out_append}
use Rattle.dancing_links.proofs.Present.{AreNew, IsOut, dead_named, dead_stay, hidden_by, new_rest, open_by, out_all, out_start, out_step, with_all}
use Rattle.cover_problem.proofs.Fronts.{last_live}
use Rattle.dancing_links.proofs.Tables.{IsNodeAt}
use Rattle.dancing_links.proofs.Entries.{some_node}
use Rattle.dancing_links.proofs.Cast.{IsCast}
use Rattle.dancing_links.proofs.Chosen.{IsFrame, covering_push, frame_cast, frame_of, frame_table, frame_new, frame_front, last_free, push_open}
use Rattle.dancing_links.proofs.State.{frame_names, state_of}
use Rattle.dancing_links.proofs.Views.{column_is, head_child, node_in, rest_at}

-- covering an item takes no node out of its own column
own_kept : (c : Columns) (out : List ℕ) (i a y : ℕ) → IsTable c → IsOpen c out i → column_of c y ≡ i → among (outs (covered c out i a) out) y ≡ among out y
unfolding covered
own_kept c out i a y t can own =
    let x : ℕ = c.heads + i in
    let hidden : List ℕ = hidden_from c (x ∷ out) i a c.heads in
    let item = t.item_columns i can.item in
    let other : x ≡ y → ⊥ = (λ e. omega (arith, item, ap (column_of c) e, own, can.item)) in
    let never : among hidden y ≡ false = false_from_ne_true (among hidden y) (λ hid.
    let at = hidden_by c (x ∷ out) i a y t hid in
    let option = option_node c i at.node t can.item at.low at.own in
    let w = t.within at.node option at.high in
    let in_option = others_at c at.node y w.0 w.1 at.other in
    in_option.2 (t.apart at.node y option at.high in_option.0 in_option.1 (own ∙ sym at.own))) in
    outs_same hidden (x ∷ out) y never ∙ ap (λ (b : Bool). b || among out y) (ne_eqb x y other)

-- a node that stands for the first live option that names an item, from one on, or a tail where there is none
pub record IsBelow (p : Problem) (c : Columns) (os : List ℕ) (i start d : ℕ) : Type 0 where
  pub some : d < c.tails → IsOptionNode c d × (column_of c d ≡ i) × (slice_get (live_options_from p os i start) 0 ≡ Some (option_of c d))
  pub none : c.tails ≤ d → slice_get (live_options_from p os i start) 0 ≡ None

below_by : (p : Problem) (c : Columns) (os out : List ℕ) (i start d : ℕ) → IsTable c → i + 1 < c.heads → c.heads ≤ d → column_of c d ≡ i → among out d ≡ false → live_options_from p os i start ≡ map (option_of c) (column_from c out i d) → IsBelow p c os i start d
below_by p c os out i start d t item low own here rest = record {
  some = λ high.
      let take = column_from_take c out i d high own here in
      ((option_node c i d t item low own, high), own, ap (λ (xs : List ℕ). slice_get xs 0) (rest ∙ ap (map (option_of c)) take));
  none = λ past. ap (λ (xs : List ℕ). slice_get xs 0) (rest ∙ ap (map (option_of c)) (column_from_end c out i d past));
}

-- below the head of an uncovered item
pub below_head : (p : Problem) (c : Columns) (os es : List ℕ) (m : List Link) (keys : List ℕ) (room i : ℕ) (read : List Link) → IsLinks p c os es m keys room → i < length p.names → is_covered p os i ≡ false → read ≡ m → IsBelow p c os i 0 (down_of read i)
below_head p c os es m keys room i read is h free e =
    let s = state_of p c os es m keys room is in
    let heads : c.heads ≡ heads_of p = ap (λ (t : Columns). t.heads) is.layout in
    let lt : i < c.heads = omega (arith, heads, h) in
    let item : i + 1 < c.heads = omega (arith, heads, h) in
    let own = s.table_is.head_columns i lt in
    let next = s.spelled.down i (omega (arith, lt, s.spelled.order)) (omega (arith, own, item)) (s.spelled.heads_in i lt) in
    let d : ℕ = down_of m i in
    let skip = column_skip_to c (out_of c es) i (d - c.heads) c.heads d (omega (arith, next.low)) (λ y above below same. next.nearest y (omega (arith, above, lt)) below (same ∙ sym own)) in
    let rest : live_options_from p os i 0 ≡ map (option_of c) (column_from c (out_of c es) i (down_of m i)) = live_options_start p os i ∙ sym (column_is p c os es m keys room i is h free) ∙ ap (map (option_of c)) skip in
    let P : List Link → Type 0 = λ links. IsBelow p c os i 0 (down_of links i) in
    subst P (sym e) (below_by p c os (out_of c es) i 0 d s.table_is item next.low (next.column ∙ own) next.in_down rest)

-- the option that is chosen by such a node
pub record IsChoice (p : Problem) (c : Columns) (os : List ℕ) (i start k o : ℕ) : Type 0 where
  pub node : IsOptionNode c k
  pub column : column_of c k ≡ i
  pub option : option_of c k ≡ o
  pub first : Some o ≡ slice_get (live_options_from p os i start) 0
  pub child : IsChild p os i o

pub choice_of : (p : Problem) (c : Columns) (os : List ℕ) (i start k o : ℕ) → IsTable c → IsBelow p c os i start k → k < c.tails → o ≡ option_of c k → IsChoice p c os i start k o
choice_of p c os i start k o t below high e =
    let at = below.some high in
    let first : Some o ≡ slice_get (live_options_from p os i start) 0 = ap Some e ∙ sym at.2 in
    record { node = at.0; column = at.1; option = sym e; first = first; child = head_child p os i start (Some o) first }

-- what was so at the last choice
pub record IsLast (p : Problem) (c : Columns) (os es : List ℕ) (i o k : ℕ) : Type 0 where
  pub item : i + 1 < c.heads
  pub named : i < length p.names
  pub free : is_covered p os i ≡ false
  pub live : is_live p os o ≡ true
  pub can : IsOpen c (out_of c es) i
  pub here : among (out_of c es) k ≡ false
  pub rest : map (option_of c) (column_from c (out_of c es) i (k + 1)) ≡ live_options_from p os i (o + 1)

rest_of : (p : Problem) (c : Columns) (os seen nodes commits out : List ℕ) (i k o : ℕ) → c ≡ table p → IsCast p c os seen nodes commits → IsOut c nodes out → i < length p.names → is_covered p os i ≡ false → is_live p os o ≡ true → IsOptionNode c k → option_of c k ≡ o → column_of c k ≡ i → (among out k ≡ false) × (map (option_of c) (column_from c out i (k + 1)) ≡ live_options_from p os i (o + 1))
rest_of p c os seen nodes commits out i k o same =
    let P : Columns → Type 0 = λ t. IsCast p t os seen nodes commits → IsOut t nodes out → i < length p.names → is_covered p os i ≡ false → is_live p os o ≡ true → IsOptionNode t k → option_of t k ≡ o → column_of t k ≡ i → (among out k ≡ false) × (map (option_of t) (column_from t out i (k + 1)) ≡ live_options_from p os i (o + 1)) in
    subst P (sym same) (λ cast gone named free live node option own.
    let some = some_node p k node in
    let N : ℕ → Type 0 = λ q. IsNodeAt p k q some.0 in
    let at = subst N option some.1 in
    (node_in p os seen nodes commits out k o some.0 cast gone at live, rest_at p os seen nodes commits out i k o some.0 cast gone named free at own))

pub last_of : (p : Problem) (c : Columns) (os es : List ℕ) (room o k : ℕ) → IsFrame p c (os ++ o ∷ []) (es ++ k ∷ []) room → IsLast p c os es (column_of c k) o k
last_of p c os es room o k f =
    let t = frame_table p c (os ++ o ∷ []) (es ++ k ∷ []) room f in
    let front = frame_front p c os es room o k f in
    let i : ℕ = column_of c k in
    let heads : c.heads ≡ heads_of p = ap (λ (t : Columns). t.heads) f.layout in
    let item : column_of c k + 1 < c.heads = t.option_columns k front.1.0 front.1.1 in
    let named : column_of c k < length p.names = omega (arith, item, heads) in
    let cast = (frame_cast p c os es room front.0).cast in
    let seen : List ℕ = with_all [] (chosen_nodes c es) in
    let nodes : List ℕ = with_all [] (covering_nodes c es) in
    let gone : IsOut c (with_all [] (covering_nodes c es)) (out_of c es) = out_all c [] [] (covering_nodes c es) t (out_start c) (frame_new p c os es room front.0) in
    let free = last_free p c os es room o k f in
    let can = open_by c nodes (out_of c es) i t gone item (frame_names p c os es room i front.0 ∙ free) in
    let live = last_live p os o f.prefix in
    let rest = rest_of p c os seen nodes (commits_of c es) (out_of c es) i k o f.layout cast gone named free live front.1 front.2 refl in
    record { item = item; named = named; free = free; live = live; can = can; here = rest.0; rest = rest.1 }

-- the node below that of the last choice, where what is out in its column is as it was before
below_in : (p : Problem) (c : Columns) (os es gone : List ℕ) (m : List Link) (o k : ℕ) → IsTable c → IsLast p c os es (column_of c k) o k → k < c.tails → IsSpelled c gone m → ((y : ℕ) → column_of c y ≡ column_of c k → among gone y ≡ among (out_of c es) y) → IsBelow p c os (column_of c k) (o + 1) (down_of m k)
below_in p c os es gone m o k t last inside spelled own =
    let i : ℕ = column_of c k in
    let out : List ℕ = out_of c es in
    let next = spelled.down k inside last.item (own k refl ∙ last.here) in
    let d : ℕ = down_of m k in
    let skip = column_skip_to c out i (d - (k + 1)) (k + 1) d (omega (arith, next.below)) (λ y above below same. sym (own y same) ∙ next.nearest y (omega (arith, above)) below same) in
    let rest : live_options_from p os (column_of c k) (o + 1) ≡ map (option_of c) (column_from c (out_of c es) (column_of c k) (down_of m k)) = sym last.rest ∙ ap (map (option_of c)) skip in
    below_by p c os out i (o + 1) d t last.item next.low next.column (sym (own d next.column) ∙ next.in_down) rest

pub below_last : (p : Problem) (c : Columns) (os es : List ℕ) (mid : List Link) (half : List ℕ) (room o k : ℕ) → IsFrame p c (os ++ o ∷ []) (es ++ k ∷ []) room → IsHistory c (covering_nodes c es ++ k ∷ []) mid half → IsBelow p c os (column_of c k) (o + 1) (down_of mid k)
below_last p c os es mid half room o k f h =
    let t = frame_table p c (os ++ o ∷ []) (es ++ k ∷ []) room f in
    let front = frame_front p c os es room o k f in
    let i : ℕ = column_of c k in
    let out : List ℕ = out_of c es in
    let last = last_of p c os es room o k f in
    let first = (open_parts c [] (covering_nodes c es ++ k ∷ []) (covering c (commit c (commits_of c es) k) (others c k)) (push_open p c os es room o k f)).0 in
    let both : outs_all c [] (covering_nodes c es ++ k ∷ []) ≡ outs (covered_by c (out_of c es) k) (out_of c es) = out_append c [] (covering_nodes c es) (k ∷ []) in
    let P : List Link → Type 0 = λ links. IsSpelled c (outs_all c [] (covering_nodes c es ++ k ∷ [])) links in
    let Q : List ℕ → Type 0 = λ gone. IsSpelled c gone mid in
    let spelled = subst Q both (subst P (sym h.links_are) (spelled_all c [] h.before (covering_nodes c es ++ k ∷ []) t h.built.spelled first)) in
    let own : (y : ℕ) → column_of c y ≡ column_of c k → among (outs (covered_by c (out_of c es) k) (out_of c es)) y ≡ among (out_of c es) y = (λ y same. own_kept c out i (colour_at c k) y t last.can same) in
    below_in p c os es (outs (covered_by c (out_of c es) k) (out_of c es)) mid o k t last front.1.1 spelled own

-- below that node while the others of its option cover their items, too, if it has no colour
pub below_covered : (p : Problem) (c : Columns) (os es : List ℕ) (m : List Link) (keys : List ℕ) (room o k : ℕ) → IsLinks p c (os ++ o ∷ []) (es ++ k ∷ []) m keys room → colour_at c k ≡ 0 → IsBelow p c os (column_of c k) (o + 1) (down_of m k)
below_covered p c os es m keys room o k is none =
    let f = frame_of p c (os ++ o ∷ []) (es ++ k ∷ []) m keys room is in
    let t = frame_table p c (os ++ o ∷ []) (es ++ k ∷ []) room f in
    let front = frame_front p c os es room o k f in
    let i : ℕ = column_of c k in
    let out : List ℕ = out_of c es in
    let last = last_of p c os es room o k f in
    let nodes : List ℕ = with_all [] (covering_nodes c es) in
    let rest : List ℕ = covering c (commit c (commits_of c es) k) (others c k) in
    let all : covering_nodes c (es ++ k ∷ []) ≡ covering_nodes c es ++ k ∷ covering c (commit c (commits_of c es) k) (others c k) = covering_push p c os es room k front.0 last.free ∙ append_assoc (covering_nodes c es) (k ∷ []) rest in
    let N : List ℕ → Type 0 = λ ks. AreNew c [] ks in
    let new = new_rest c [] (covering_nodes c es) (k ∷ rest) (subst N all (frame_new p c (os ++ o ∷ []) (es ++ k ∷ []) room f)) in
    let gone : IsOut c (with_all [] (covering_nodes c es)) (out_of c es) = out_all c [] [] (covering_nodes c es) t (out_start c) (frame_new p c os es room front.0) in
    let after = out_step c nodes out k t gone new.0.0 new.0.1 in
    let both : outs_all c [] (covering_nodes c (es ++ k ∷ [])) ≡ outs_all c (outs (covered_by c (out_of c es) k) (out_of c es)) (covering c (commit c (commits_of c es) k) (others c k)) = ap (outs_all c []) all ∙ out_append c [] (covering_nodes c es) (k ∷ rest) in
    let P : List ℕ → Type 0 = λ gone. IsSpelled c gone m in
    let spelled = subst P both (state_of p c (os ++ o ∷ []) (es ++ k ∷ []) m keys room is).spelled in
    let own : (y : ℕ) → column_of c y ≡ column_of c k → among (outs_all c (outs (covered_by c (out_of c es) k) (out_of c es)) (covering c (commit c (commits_of c es) k) (others c k))) y ≡ among (out_of c es) y = (λ y same.
    dead_stay c (k ∷ nodes) (outs (covered_by c out k) out) rest y t after new.1 (omega (arith, last.item, same)) (λ node. dead_named c nodes k y t node same none) ∙ own_kept c out i (colour_at c k) y t last.can same) in
    below_in p c os es (outs_all c (outs (covered_by c (out_of c es) k) (out_of c es)) rest) m o k t last front.1.1 spelled own
