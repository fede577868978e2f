-- What the links tell of the nodes, once nodes cover their items.
use Rattle.std.proofs.Common.{◌≡◌, ℕ, ◌+◌, ◌<◌, ◌≤◌, List, [], ◌∷◌, length, true, false, not, ◌==◌, map, refl, arith, sym, ap, ◌∙◌, inl, inr, subst}
use Rattle.std.proofs.lemmas.Bool.{both_ways, or_cases, cases_Bool, cases_eq, eq-eqb, ne_eqb, eqb-true}
use Rattle.cover_problem.specs.Prefix.{is_covered}
use Rattle.cover_problem.specs.Problem.{Problem, IsProblem}
use Rattle.dancing_links.specs.declared.link.Link.{Link}
use Rattle.dancing_links.specs.Choices.{IsLinks, chosen_nodes, covering_nodes, commits_of, out_of}
use Rattle.dancing_links.specs.Columns.{Columns, among, column_of, colour_at, IsTable, IsSpelled}
use Rattle.dancing_links.specs.Covering.{outs, hidden, covered, hides, covered_by, IsOpen, AreOpen, outs_all, links_all}
use Rattle.dancing_links.specs.Linking.{unlinked, unlinks, up_of, down_of}
use Rattle.dancing_links.specs.Table.{table, heads_of}
use Rattle.dancing_links.proofs.Law.{between, from_up, up-unlinked_other, down-unlinked_at, down-unlinked_other, spelled_unlink}
use Rattle.dancing_links.proofs.Walk.{AreIn, item_out, whole_item}
use Rattle.dancing_links.proofs.Chain.{going_all}
use Rattle.dancing_links.proofs.Choose.{spelled_by, spelled_all}
use Rattle.dancing_links.proofs.Unique.{one_built}
use Rattle.dancing_links.proofs.Present.{IsOut, covers, with_all, out_start, out_all}
use Rattle.dancing_links.proofs.Cast.{IsCast, cast_names}
use Rattle.dancing_links.proofs.Entries.{one_nodes}
use Rattle.dancing_links.proofs.Ranges.{table_of}
use Rattle.dancing_links.proofs.Chosen.{IsFrame, IsCastBy, frame_of, frame_cast, frame_table, frame_open, frame_new}

-- a node that is out is not known by its neighbour above
abbrev pub IsAway : Columns → List ℕ → List Link → Type 0
IsAway c out m = (y : ℕ) → c.heads ≤ y → y < c.tails → column_of c y + 1 < c.heads → among out y ≡ true → down_of m (up_of m y) ≡ y → ⊥

away_unlink : (c : Columns) (out : List ℕ) (m : List Link) (x : ℕ) → IsSpelled c out m → c.heads ≤ x → x < c.tails → column_of c x + 1 < c.heads → among out x ≡ false → IsAway c out m → IsAway c (x ∷ out) (unlinked m x)
away_unlink c out m x s low high own here away = λ y low_y high_y own_y gone back.
    let b = between c out m x s low high own here in
    let d = s.down x high own here in
    elim (cases_eq y x) [
      | inl e ↦
          let up : up_of (unlinked m x) y ≡ up_of m x = ap (up_of (unlinked m x)) e ∙ up-unlinked_other m x x b.up_in b.down_other in
          b.down_other (sym e ∙ sym back ∙ ap (down_of (unlinked m x)) up ∙ down-unlinked_at m x b.up_in b.down_in)
      | inr ne ↦
          let was : among out y ≡ true = elim (or_cases (x == y) (among out y) gone) [ inl t ↦ absurd (ne (sym (eqb-true x y t))) | inr t ↦ t ] in
          let other : y ≡ down_of m x → ⊥ = (λ e. both_ways (among out (down_of m x)) d.in_down (ap (among out) (sym e) ∙ was)) in
          let up : up_of (unlinked m x) y ≡ up_of m y = up-unlinked_other m x y b.up_in other in
          elim (cases_eq (up_of m y) (up_of m x)) [
            | inl e ↦ other (sym back ∙ ap (down_of (unlinked m x)) (up ∙ e) ∙ down-unlinked_at m x b.up_in b.down_in)
            | inr apart ↦ away y low_y high_y own_y was (sym (down-unlinked_other m x (up_of m y) b.down_in apart) ∙ ap (down_of (unlinked m x)) (sym up) ∙ back)
          ]
    ]

away_unlinks : (c : Columns) (out : List ℕ) (m : List Link) (xs : List ℕ) → IsSpelled c out m → AreIn c out xs → IsAway c out m → IsAway c (outs xs out) (unlinks m xs)
away_unlinks c out m [] s are away = away
away_unlinks c out m (x ∷ xs) s are away = away_unlinks c (x ∷ out) (unlinked m x) xs (spelled_unlink c out m x s are.0.0 are.0.1 are.0.3 are.0.2) are.1 (away_unlink c out m x s are.0.0 are.0.1 are.0.3 are.0.2 away)

-- the mark of a covered item is no node of an item's column
away_mark : (c : Columns) (out : List ℕ) (m : List Link) (x : ℕ) → column_of c x + 1 ≡ c.heads → IsAway c out m → IsAway c (x ∷ out) m
away_mark c out m x item away = λ y low high own gone back. elim (or_cases (x == y) (among out y) gone) [
  | inl t ↦ absurd (omega (arith, ap (column_of c) (eqb-true x y t), item, own))
  | inr was ↦ away y low high own was back
]

away_cover : (c : Columns) (out : List ℕ) (m : List Link) (i a : ℕ) → IsTable c → IsSpelled c out m → IsOpen c out i → IsAway c out m → IsAway c (outs (covered c out i a) out) (unlinks m (hidden c out i a))
unfolding covered
away_cover c out m i a t s can away =
    let out' : List ℕ = (c.heads + i) ∷ out in
    let s1 = item_out c out i m t can s in
    away_unlinks c out' m (hidden c out i a) s1 (going_all c out' i a m t can.item s1 (whole_item c out i t can)) (away_mark c out m (c.heads + i) (t.item_columns i can.item) away)

away_all : (c : Columns) (out : List ℕ) (m : List Link) (ks : List ℕ) → IsTable c → IsSpelled c out m → AreOpen c out ks → IsAway c out m → IsAway c (outs_all c out ks) (links_all c out m ks)
away_all c out m [] t s are away = away
away_all c out m (k ∷ ks) t s are away =
    away_all c (outs (covered_by c out k) out) (unlinks m (hides c out k)) ks t (spelled_by c out m k t s are.0) are.1
    (away_cover c out m (column_of c k) (colour_at c k) t s are.0 away)

-- what the links tell
pub record IsState (p : Problem) (c : Columns) (os es : List ℕ) (m : List Link) : Type 0 where
  pub is_problem : IsProblem p
  pub layout : c ≡ table p
  pub table_is : IsTable c
  pub spelled : IsSpelled c (out_of c es) m
  pub away : IsAway c (out_of c es) m
  pub out : IsOut c (with_all [] (covering_nodes c es)) (out_of c es)
  pub cast : IsCast p c os (with_all [] (chosen_nodes c es)) (with_all [] (covering_nodes c es)) (commits_of c es)
  pub names : (i : ℕ) → covers c (with_all [] (covering_nodes c es)) i ≡ is_covered p os i

-- the items that are covered, as what is out is known by them
pub frame_names : (p : Problem) (c : Columns) (os es : List ℕ) (room i : ℕ) → IsFrame p c os es room → covers c (with_all [] (covering_nodes c es)) i ≡ is_covered p os i
frame_names p c os es room i f =
    let P : Columns → Type 0 = λ t. IsCastBy p t os es → covers t (with_all [] (covering_nodes t es)) i ≡ is_covered p os i in
    subst P (sym f.layout) (λ at. cast_names p os (with_all [] (chosen_nodes (table p) es)) (with_all [] (covering_nodes (table p) es)) (commits_of (table p) es) i at.cast) (frame_cast p c os es room f)

pub state_of : (p : Problem) (c : Columns) (os es : List ℕ) (m : List Link) (keys : List ℕ) (room : ℕ) → IsLinks p c os es m keys room → IsState p c os es m
state_of p c os es m keys room is =
    let f = frame_of p c os es m keys room is in
    let t = frame_table p c os es room f in
    let are = frame_open p c os es room f in
    let P : List Link → Type 0 = λ links. IsSpelled c (out_of c es) links in
    let Q : List Link → Type 0 = λ links. IsAway c (out_of c es) links in
    let h = is.history in
    record {
      is_problem = is.is_problem;
      layout = is.layout;
      table_is = t;
      spelled = subst P (sym h.links_are) (spelled_all c [] h.before (covering_nodes c es) t h.built.spelled are);
      away = subst Q (sym h.links_are) (away_all c [] h.before (covering_nodes c es) t h.built.spelled are (λ y low high own gone back. both_ways false refl gone));
      out = out_all c [] [] (covering_nodes c es) t (out_start c) (frame_new p c os es room f);
      cast = (frame_cast p c os es room f).cast;
      names = λ i. frame_names p c os es room i f;
    }

-- whether an item has the mark
pub item_gone : (p : Problem) (c : Columns) (os es : List ℕ) (m : List Link) (i : ℕ) → IsState p c os es m → i < length p.names → among (out_of c es) (c.heads + i) ≡ is_covered p os i
item_gone p c os es m i s h =
    let heads : c.heads ≡ heads_of p = ap (λ (t : Columns). t.heads) s.layout in
    elim (cases_Bool (is_covered p os i)) [
      | inl hit ↦ s.out.items_in i (omega (arith, heads, h)) (s.names i ∙ hit) ∙ sym hit
      | inr free ↦ s.out.items_out i (omega (arith, heads, h)) (s.names i ∙ free) ∙ sym free
    ]

-- a node is in where it is known from above
pub known_test : (p : Problem) (c : Columns) (os es : List ℕ) (m : List Link) (x : ℕ) → IsState p c os es m → c.heads ≤ x → x < c.tails → column_of c x + 1 < c.heads → (down_of m (up_of m x) == x) ≡ not (among (out_of c es) x)
known_test p c os es m x s low high own = elim (cases_Bool (among (out_of c es) x)) [
  | inl gone ↦ rw (ne_eqb (down_of m (up_of m x)) x (s.away x low high own gone), gone) refl
  | inr here ↦ rw (eq-eqb (down_of m (up_of m x)) x (from_up c (out_of c es) m x s.spelled low (omega (arith, s.spelled.ends, high)) own here), here) refl
]

-- links are known by the problem, what is chosen and by which item each
pub one_links : (p : Problem) (c d : Columns) (os es ks : List ℕ) (m n : List Link) (keys tallies : List ℕ) (room more : ℕ) → IsLinks p c os es m keys room → IsLinks p d os ks n tallies more → map (column_of c) es ≡ map (column_of d) ks → m ≡ n
one_links p c d os es ks m n keys tallies room more a b branches =
    let e : d ≡ c = b.layout ∙ sym a.layout in
    let P : Columns → Type 0 = λ t. IsLinks p t os ks n tallies more in
    let b' = subst P e b in
    let columns = branches ∙ ap (λ (t : Columns). map (column_of t) ks) e in
    let entries : es ≡ ks = one_nodes p c es ks a.layout a.is_problem a.each_node b'.each_node (a.options ∙ sym b'.options) columns in
    let before = a.history.before in
    let other = b'.history.before in
    let same : before ≡ other = one_built c before other (table_of p c a.is_problem a.layout) a.history.built b'.history.built in
    a.history.links_are
    ∙ ap (λ (links : List Link). links_all c [] links (covering_nodes c es)) same
    ∙ ap (λ (nodes : List ℕ). links_all c [] other (covering_nodes c nodes)) entries
    ∙ sym b'.history.links_are
