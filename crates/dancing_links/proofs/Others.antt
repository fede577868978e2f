-- Going over the other nodes of an option, from the next one on.
use Rattle.std.proofs.Common.{◌≡◌, ℕ, suc, ◌+◌, ◌-◌, ◌<◌, ◌≤◌, ◌⊎◌, List, [], ◌∷◌, refl, arith, ap, ◌∙◌, sym, inl, inr, if◌then◌else◌}
use Rattle.std.specs.Prelude.{nat_lt}
use Rattle.std.proofs.lemmas.Bool.{eq-eqb, ne_eqb, cases_eq, cases_lt, lt-ltb, le-ltb}
use Rattle.dancing_links.specs.Columns.{Columns, begin_of, end_of, node_after, place_at, IsOptionNode, IsTable}
use Rattle.dancing_links.specs.Covering.{in_turn, others}

-- ---- going round a row

-- how many nodes of a row come before one is reached, from another one on
unfoldable pub ahead : ℕ → ℕ → ℕ → ℕ → ℕ
ahead begin end node other = if nat_lt node other then end - other + (node - begin) else node - other

ahead_above : (begin end node other : ℕ) → node < other → ahead begin end node other ≡ end - other + (node - begin)
unfolding ahead
ahead_above begin end node other h = rw (lt-ltb node other h) refl

ahead_below : (begin end node other : ℕ) → other ≤ node → ahead begin end node other ≡ node - other
unfolding ahead
ahead_below begin end node other h = rw (le-ltb node other h) refl

ahead_start : (begin end node : ℕ) → begin ≤ node → node < end → ahead begin end node (node_after begin end node) ≡ end - (begin + 1)
ahead_start begin end node low high = elim (cases_eq (node + 1) end) [
  | inl last ↦ rw (eq-eqb (node + 1) end last) (ahead_below begin end node begin low ∙ omega (arith, last))
  | inr ne ↦ rw (ne_eqb (node + 1) end ne) (ahead_above begin end node (node + 1) (omega arith) ∙ omega (arith, low, high, ne))
]

ahead_next : (begin end node other : ℕ) → (begin ≤ node) × (node < end) → (begin ≤ other) × (other < end) → (other ≡ node → ⊥) → ahead begin end node other ≡ suc (ahead begin end node (node_after begin end other))
ahead_next begin end node other row here ne = elim (cases_lt node other) [
  | inl above ↦ elim (cases_eq (other + 1) end) [
    | inl last ↦ rw (eq-eqb (other + 1) end last) (ahead_above begin end node other above ∙ omega (arith, last, row.0, ahead_below begin end node begin row.0))
    | inr more ↦ rw (ne_eqb (other + 1) end more) (ahead_above begin end node other above ∙ omega (arith, more, above, here.1, ahead_above begin end node (other + 1) (omega (arith, above))))
  ]
  | inr below ↦
      let less : other + 1 ≤ node = omega (arith, below, ne) in
      rw (ne_eqb (other + 1) end (λ e. omega (arith, e, less, row.1))) (ahead_below begin end node other below ∙ omega (arith, less, ahead_below begin end node (other + 1) less))
]

-- the nodes from one on before another one is reached
abbrev pub to_come : Columns → ℕ → ℕ → List ℕ
to_come c node other = in_turn (begin_of c node) (end_of c node) other (ahead (begin_of c node) (end_of c node) node other)

-- on the way round: at the node itself, or at another one of its row
abbrev pub IsRound : Columns → ℕ → ℕ → Type 0
IsRound c node other = (other ≡ node) ⊎ (IsOptionNode c node × (begin_of c node ≤ other) × (other < end_of c node))

after_in : (begin end node : ℕ) → begin ≤ node → node < end → (begin ≤ node_after begin end node) × (node_after begin end node < end)
after_in begin end node low high = elim (cases_eq (node + 1) end) [
  | inl last ↦ rw (eq-eqb (node + 1) end last) (omega arith, omega (arith, low, high))
  | inr ne ↦ rw (ne_eqb (node + 1) end ne) (omega (arith, low), omega (arith, high, ne))
]

-- all others are to come at the node to the right
pub round_start : (c : Columns) (node other : ℕ) → IsTable c → c.heads ≤ node → node < c.tails → other ≡ (place_at c node).right → IsRound c node other × (to_come c node other ≡ others c node)
unfolding others
round_start c node other t low high e = elim (cases_lt (node + 1) (c.heads + c.heads)) [
  | inl item ↦
      let alone = e ∙ t.alone node low item in
      let none = t.no_row node low item in
      let zero : end_of c node - (begin_of c node + 1) ≡ 0 = omega (arith, none) in
      let done : ahead (begin_of c node) (end_of c node) node other ≡ 0 = ahead_below (begin_of c node) (end_of c node) node other (omega (arith, alone)) ∙ omega (arith, alone) in
      (inl alone, rw (done, zero) refl)
  | inr option ↦
      let w = t.within node option high in
      let after = e ∙ t.right node option high in
      let count : ahead (begin_of c node) (end_of c node) node other ≡ end_of c node - (begin_of c node + 1) = ap (ahead (begin_of c node) (end_of c node) node) after ∙ ahead_start (begin_of c node) (end_of c node) node w.0 w.1 in
      let in_row = after_in (begin_of c node) (end_of c node) node w.0 w.1 in
      (inr ((option, high), omega (arith, after, in_row.0), omega (arith, after, in_row.1)), ap (λ n. in_turn (begin_of c node) (end_of c node) n (ahead (begin_of c node) (end_of c node) node other)) after ∙ ap (in_turn (begin_of c node) (end_of c node) (node_after (begin_of c node) (end_of c node) node)) count)
]

-- another one of the row
pub record IsOnWay (c : Columns) (node other next : ℕ) : Type 0 where
  pub option : IsOptionNode c other
  pub round : IsRound c node next
  pub come : to_come c node other ≡ other ∷ to_come c node next
  pub fewer : ahead (begin_of c node) (end_of c node) node other ≡ suc (ahead (begin_of c node) (end_of c node) node next)

pub round_step : (c : Columns) (node other next : ℕ) → IsTable c → IsRound c node other → (other ≡ node → ⊥) → next ≡ (place_at c other).right → IsOnWay c node other next
round_step c node other next t round ne e = elim round [
  | inl same ↦ absurd (ne same)
  | inr at ↦
      let w = t.within node at.0.0 at.0.1 in
      let low : c.heads + c.heads ≤ other + 1 = omega (arith, w.2, at.1) in
      let high : other < c.tails = omega (arith, w.3, at.2) in
      let s = t.same node other at.0.0 at.0.1 at.1 at.2 in
      let v = t.within other low high in
      let after : next ≡ node_after (begin_of c node) (end_of c node) other = e ∙ t.right other low high ∙ ap (λ b. node_after b (end_of c other) other) s.0 ∙ ap (λ n. node_after (begin_of c node) n other) s.1 in
      let in_row = after_in (begin_of c node) (end_of c node) other at.1 at.2 in
      let count = ahead_next (begin_of c node) (end_of c node) node other (w.0, w.1) (at.1, at.2) ne ∙ ap (λ n. suc (ahead (begin_of c node) (end_of c node) node n)) (sym after) in
      record {
        option = (low, high);
        round = inr (at.0, omega (arith, after, in_row.0), omega (arith, after, in_row.1));
        come = ap (in_turn (begin_of c node) (end_of c node) other) count ∙ ap (λ n. other ∷ in_turn (begin_of c node) (end_of c node) n (ahead (begin_of c node) (end_of c node) node next)) (sym after);
        fewer = count;
      }
]

-- back at the node none is to come
pub round_end : (c : Columns) (node other : ℕ) → other ≡ node → to_come c node other ≡ []
round_end c node other e =
    let done : ahead (begin_of c node) (end_of c node) node other ≡ 0 = ahead_below (begin_of c node) (end_of c node) node other (omega (arith, e)) ∙ omega (arith, e) in
    rw done refl
