-- The nodes of a column that a cover goes down by, last first, and all that is hidden on the way.
use Rattle.std.proofs.Common.{◌≡◌, ℕ, zero, suc, ◌+◌, ◌<◌, ◌≤◌, List, [], ◌∷◌, ◌++◌, false, refl, arith, sym, ap, ◌∙◌, inl, inr}
use Rattle.std.proofs.lemmas.Bool.{cases_lt}
use Rattle.dancing_links.specs.declared.link.Link.{Link}
use Rattle.dancing_links.specs.Columns.{among, Columns, column_of, IsSpelled, IsTable}
use Rattle.dancing_links.specs.Covering.{outs, hidden_at, hidden_from, AreWhole}
use Rattle.dancing_links.specs.Linking.{down_of, unlinks}
use Rattle.dancing_links.proofs.Walk.{AreIn, IsGoing, going_start, going_step, going_done, spelled_unlinks}

-- the links after those nodes' options were taken out
abbrev pub state : Columns → ℕ → List Link → List ℕ → List Link
state c a m [] = m
state c a m (k ∷ ks) = unlinks (state c a m ks) (hidden_at c a k)

abbrev pub top : ℕ → List ℕ → ℕ
top i [] = i
top i (k ∷ ks) = k

-- what was taken out on the way, in that order
abbrev pub flat : Columns → ℕ → List ℕ → List ℕ
flat c a [] = []
flat c a (k ∷ ks) = flat c a ks ++ hidden_at c a k

-- each was the next of the one before it
abbrev pub IsChain : Columns → ℕ → List Link → ℕ → List ℕ → Type 0
IsChain c a m i [] = Unit {0}
IsChain c a m i (k ∷ ks) = ((k ≡ down_of (state c a m ks) (top i ks)) × (c.heads ≤ k) × (k < c.tails)) × IsChain c a m i ks

pub going_of : (c : Columns) (out : List ℕ) (i a : ℕ) (m : List Link) (ks : List ℕ) → IsTable c → i + 1 < c.heads → IsSpelled c out m → AreWhole c out i → IsChain c a m i ks → IsGoing c out i a m (state c a m ks) (down_of (state c a m ks) (top i ks)) (flat c a ks)
going_of c out i a m [] t item s whole chain = going_start c out i a m t item s
going_of c out i a m (k ∷ ks) t item s whole chain =
    let before = going_of c out i a m ks t item s whole chain.1 in
    going_step c out i a m (state c a m ks) k (flat c a ks) t item s whole chain.0.1 chain.0.2 (rw chain.0.0 before)

-- how the links are spelled at each node of the chain
pub spelled_of : (c : Columns) (out : List ℕ) (i a : ℕ) (m now : List Link) (node : ℕ) (done : List ℕ) → IsSpelled c out m → IsGoing c out i a m now node done → IsSpelled c (outs done out) now
spelled_of c out i a m now node done s g = rw g.links (spelled_unlinks c out m done s g.are_in)

-- the whole way down
pub record IsWay (c : Columns) (m : List Link) (i a : ℕ) (ks : List ℕ) : Type 0 where
  pub chain : IsChain c a m i ks
  pub past : c.tails ≤ down_of (state c a m ks) (top i ks)

way_from : (c : Columns) (out : List ℕ) (i a : ℕ) (m : List Link) (ks : List ℕ) (n : ℕ) → IsTable c → i + 1 < c.heads → IsSpelled c out m → AreWhole c out i → IsChain c a m i ks → c.tails ≤ down_of (state c a m ks) (top i ks) + n → (all : List ℕ) × IsWay c m i a all
way_from c out i a m ks zero t item s whole chain past = (ks, record { chain = chain; past = omega (arith, past) })
way_from c out i a m ks (suc n) t item s whole chain past =
    let node : ℕ = down_of (state c a m ks) (top i ks) in
    elim (cases_lt node c.tails) [
      | inr done ↦ (ks, record { chain = chain; past = done })
      | inl high ↦
          let g = going_of c out i a m ks t item s whole chain in
          let s' = spelled_of c out i a m (state c a m ks) node (flat c a ks) s g in
          let low : c.heads ≤ node = low_of c out i a m ks t item s whole chain in
          let more : IsChain c a m i (node ∷ ks) = ((refl, low, high), chain) in
          let g' = going_of c out i a m (node ∷ ks) t item s whole more in
          let s'' = spelled_of c out i a m (state c a m (node ∷ ks)) (down_of (state c a m (node ∷ ks)) node) (flat c a (node ∷ ks)) s g' in
          let next = s''.down node high (omega (arith, g.column, item)) (g'.own node g.column ∙ sym (g.own node g.column) ∙ g.here) in
          way_from c out i a m (node ∷ ks) n t item s whole more (omega (arith, past, next.below))
    ]
  where
    low_of : (c : Columns) (out : List ℕ) (i a : ℕ) (m : List Link) (ks : List ℕ) → IsTable c → i + 1 < c.heads → IsSpelled c out m → AreWhole c out i → IsChain c a m i ks → c.heads ≤ down_of (state c a m ks) (top i ks)
    low_of c out i a m [] t item s whole chain = (s.down i (omega (arith, item, s.order)) (omega (arith, t.head_columns i (omega (arith, item)), item)) (s.heads_in i (omega (arith, item)))).low
    low_of c out i a m (k ∷ ks) t item s whole chain =
        let g = going_of c out i a m ks t item s whole chain.1 in
        let g' = going_of c out i a m (k ∷ ks) t item s whole chain in
        let s' = spelled_of c out i a m (state c a m (k ∷ ks)) (down_of (state c a m (k ∷ ks)) k) (flat c a (k ∷ ks)) s g' in
        let own : column_of c k ≡ i = ap (column_of c) chain.0.0 ∙ g.column in
        let here : among (outs (flat c a ks) out) k ≡ false = rw chain.0.0 g.here in
        (s'.down k chain.0.2 (omega (arith, own, item)) (g'.own k own ∙ sym (g.own k own) ∙ here)).low

pub way : (c : Columns) (out : List ℕ) (i a : ℕ) (m : List Link) → IsTable c → i + 1 < c.heads → IsSpelled c out m → AreWhole c out i → (all : List ℕ) × IsWay c m i a all
way c out i a m t item s whole = way_from c out i a m [] c.tails t item s whole tt (omega arith)

-- all that is hidden can be taken out in turn
pub going_all : (c : Columns) (out : List ℕ) (i a : ℕ) (m : List Link) → IsTable c → i + 1 < c.heads → IsSpelled c out m → AreWhole c out i → AreIn c out (hidden_from c out i a c.heads)
going_all c out i a m t item s whole =
    let found = way c out i a m t item s whole in
    let ks = found.0 in
    let g = going_of c out i a m ks t item s whole found.1.chain in
    let d : ℕ = down_of (state c a m ks) (top i ks) in
    rw (sym (going_done c out i a m (state c a m ks) d (flat c a ks) found.1.past g)) g.are_in
