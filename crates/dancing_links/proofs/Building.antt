-- Columns that are built node by node.
use Rattle.std.proofs.Common.{◌≡◌, ℕ, zero, suc, ◌+◌, ◌<◌, ◌≤◌, List, [], length, get_or, set, replicate, refl, arith, sym, ap, ◌∙◌, inl, inr, subst}
use Rattle.std.specs.List.{range_with_len}
use Rattle.std.proofs.lemmas.Bool.{cases_lt, cases_eq}
use Rattle.std.proofs.lemmas.List.{length-set, get_or-set_same, get_or-set_other, length-replicate}
use Rattle.std.proofs.lemmas.List.FromFn.{length-range_with_len, get_or-range_with_len}
use Rattle.std.proofs.lemmas.List.Elements.{All-get_or}
use Rattle.dancing_links.specs.declared.link.Link.{Link}
use Rattle.dancing_links.specs.Building.{IsBuilt, IsLast, IsBuilding}
use Rattle.dancing_links.specs.Columns.{Columns, column_of, IsNext, IsTable}
use Rattle.dancing_links.specs.Linking.{up_of, down_of, with_up, with_down}
use Rattle.dancing_links.proofs.Law.{up-with_up_same, up-with_up_other, down-with_up, down-with_down_same, down-with_down_other, up-with_down, length-with_up, length-with_down}

alone : Link
alone = record { up = 0; down = 0 }

copies_at : {X : Type 0} (n k : ℕ) (x : X) → get_or (replicate n x) k x ≡ x
copies_at zero k x = refl
copies_at (suc n) zero x = refl
copies_at (suc n) (suc k) x = copies_at n k x

pub building_start : (c : Columns) (lasts : List ℕ) (m : List Link) → IsTable c → lasts ≡ range_with_len 0 c.heads → m ≡ replicate (length c.column) (record { up = 0; down = 0 }) → IsBuilding c c.heads lasts m
building_start c lasts m t e f =
    let at : (i : ℕ) → i < c.heads → get_or lasts i 0 ≡ i = (λ i h. ap (λ (xs : List ℕ). get_or xs i 0) e ∙ get_or-range_with_len 0 c.heads i 0 h ∙ omega arith) in
    let U : Link → ℕ = λ l. l.up in
    let D : Link → ℕ = λ l. l.down in
    let none : Link = record { up = 0; down = 0 } in
    record {
      count = ap length f ∙ length-replicate (length c.column) none;
      columns = ap length e ∙ length-range_with_len 0 c.heads;
      last = λ i h. record {
        below_is = omega (arith, at i h);
        column = ap (column_of c) (at i h) ∙ t.head_columns i h;
        nearest = λ y above below own. omega (arith, t.head_columns y below, own, above, at i h);
      };
      up = λ x low high. absurd (omega arith);
      down = λ x high ne. absurd (ne (sym (ap (λ i. get_or lasts i 0) (t.head_columns x high) ∙ at x high)));
      heads_up = λ k h. ap (λ (links : List Link). up_of links k) f ∙ ap U (copies_at (length c.column) k none);
      tails_down = λ k h. ap (λ (links : List Link). down_of links k) f ∙ ap D (copies_at (length c.column) k none);
    }

-- the last node so far is no tail where one more node of the column follows
last_high : (c : Columns) (last node : ℕ) → IsTable c → last < node → node < length c.column → column_of c last ≡ column_of c node → last < c.tails
last_high c last node t less inside same = elim (cases_lt last c.tails) [
  | inl h ↦ h
  | inr past ↦ absurd (omega (arith, t.tail_columns last past (omega (arith, less, inside)), t.tail_columns node (omega (arith, less, past)) inside, same, less))
]

-- once a node follows the last one of its column
pub building_step : (c : Columns) (node above : ℕ) (lasts : List ℕ) (m : List Link) → IsTable c → c.heads ≤ node → node < length c.column → above ≡ get_or lasts (column_of c node) 0 → IsBuilding c node lasts m → IsBuilding c (node + 1) (set lasts (column_of c node) node) (with_up (with_down m above node) node above)
building_step c node above lasts m t low inside is b =
    let i : ℕ = column_of c node in
    let P : ℕ → Type 0 = λ k. k < c.heads in
    let column : i < c.heads = All-get_or P c.column node 0 inside t.each_column in
    let Q : ℕ → Type 0 = λ k. IsLast c node i k in
    let last : IsLast c node i above = subst Q (sym is) (b.last i column) in
    let high : above < c.tails = last_high c above node t last.below_is inside last.column in
    let next : IsNext c [] above node = record {
      below = last.below_is;
      low = low;
      high = high;
      inside = inside;
      column = sym last.column;
      in_up = refl;
      in_down = refl;
      nearest = λ y over under own. absurd (last.nearest y over under (own ∙ last.column));
    } in
    let in_m : above < length m = omega (arith, b.count, last.below_is, inside) in
    let in_w : node < length (with_down m above node) = omega (arith, length-with_down m above node, b.count, inside) in
    let new : List Link = with_up (with_down m above node) node above in
    let up_other : (x : ℕ) → (x ≡ node → ⊥) → up_of new x ≡ up_of m x = (λ x ne. up-with_up_other (with_down m above node) node above x ne ∙ up-with_down m above node x in_m) in
    let down_other : (x : ℕ) → (x ≡ above → ⊥) → down_of new x ≡ down_of m x = (λ x ne. down-with_up (with_down m above node) node above x in_w ∙ down-with_down_other m above node x ne) in
    let down_at : down_of new above ≡ node = down-with_up (with_down m above node) node above above in_w ∙ down-with_down_same m above node in_m in
    let same : get_or (set lasts i node) i 0 ≡ node = get_or-set_same lasts i node 0 (omega (arith, b.columns, column)) in
    let other : (j : ℕ) → (j ≡ i → ⊥) → get_or (set lasts i node) j 0 ≡ get_or lasts j 0 = (λ j ne. get_or-set_other lasts i j node 0 ne) in
    record {
      count = length-with_up (with_down m above node) node above ∙ length-with_down m above node ∙ b.count;
      columns = length-set lasts i node ∙ b.columns;
      last = λ j h. elim (cases_eq j i) [
        | inl e ↦
            let at : get_or (set lasts i node) j 0 ≡ node = ap (λ k. get_or (set lasts i node) k 0) e ∙ same in
            record { below_is = omega (arith, at); column = ap (column_of c) at ∙ sym e; nearest = λ y over under own. omega (arith, at, over, under) }
        | inr ne ↦
            let at : get_or (set lasts i node) j 0 ≡ get_or lasts j 0 = other j ne in
            let was = b.last j h in
            record {
              below_is = omega (arith, at, was.below_is);
              column = ap (column_of c) at ∙ was.column;
              nearest = λ y over under own. elim (cases_eq y node) [
                | inl f ↦ ne (sym own ∙ ap (column_of c) f)
                | inr g ↦ was.nearest y (omega (arith, at, over)) (omega (arith, g, under)) own
              ];
            }
      ];
      up = λ x low_x high_x. elim (cases_eq x node) [
        | inl e ↦
            let at : up_of new x ≡ above = ap (up_of new) e ∙ up-with_up_same (with_down m above node) node above in_w in
            rw (at, e) next
        | inr ne ↦ rw (up_other x ne) (b.up x low_x (omega (arith, ne, high_x)))
      ];
      down = λ x high_x ne. elim (cases_eq x node) [
        | inl e ↦ absurd (ne (e ∙ sym (ap (λ k. get_or (set lasts i node) (column_of c k) 0) e ∙ same)))
        | inr off ↦ elim (cases_eq x above) [
          | inl e ↦ let at : down_of new x ≡ node = ap (down_of new) e ∙ down_at in rw (at, e) next
          | inr apart ↦
              rw (down_other x apart) (b.down x (omega (arith, off, high_x)) (λ f. elim (cases_eq (column_of c x) i) [
                | inl own ↦ apart (f ∙ ap (λ k. get_or lasts k 0) own ∙ sym is)
                | inr away ↦ ne (f ∙ sym (other (column_of c x) away))
              ]))
        ]
      ];
      heads_up = λ k h. up_other k (λ e. omega (arith, e, h, low)) ∙ b.heads_up k h;
      tails_down = λ k h. down_other k (λ e. omega (arith, e, h, high)) ∙ b.tails_down k h;
    }

pub building_end : (c : Columns) (lasts : List ℕ) (m : List Link) → IsTable c → IsBuilding c (length c.column) lasts m → IsBuilt c m
building_end c lasts m t b = record {
  spelled = record {
    count = b.count;
    order = omega (arith, t.order);
    ends = omega (arith, t.ends);
    heads_in = λ x h. refl;
    tails_in = λ x h. refl;
    down = λ x high own here. below x high;
    up = λ x low inside own here. b.up x low inside;
  };
  items_down = λ x high own. below x high;
  items_up = λ x low inside own. b.up x low inside;
  heads_up = b.heads_up;
  tails_down = b.tails_down;
}
  where
    below : (x : ℕ) → x < c.tails → IsNext c [] x (down_of m x)
    below x high = b.down x (omega (arith, t.ends, high)) (λ e.
        let P : ℕ → Type 0 = λ k. k < c.heads in
        let column : column_of c x < c.heads = All-get_or P c.column x 0 (omega (arith, t.ends, high)) t.each_column in
        let last = b.last (column_of c x) column in
        let tail : ℕ = c.tails + column_of c x in
        let inside : tail < length c.column = omega (arith, t.ends, column) in
        last.nearest tail (omega (arith, sym e, high)) inside (omega (arith, t.tail_columns tail (omega arith) inside)))

pub building_step_at : (c : Columns) (node i above : ℕ) (lasts : List ℕ) (m : List Link) → IsTable c → c.heads ≤ node → node < length c.column → i ≡ column_of c node → above ≡ get_or lasts i 0 → IsBuilding c node lasts m → IsBuilding c (node + 1) (set lasts i node) (with_up (with_down m above node) node above)
building_step_at c node i above lasts m t low inside e is b =
    let P : ℕ → Type 0 = λ j. IsBuilding c (node + 1) (set lasts j node) (with_up (with_down m above node) node above) in
    subst P (sym e) (building_step c node above lasts m t low inside (is ∙ ap (λ j. get_or lasts j 0) e) b)

pub building_all : (c : Columns) (node : ℕ) (lasts : List ℕ) (m : List Link) → IsTable c → node ≡ length c.column → IsBuilding c node lasts m → IsBuilt c m
building_all c node lasts m t e b =
    let P : ℕ → Type 0 = λ n. IsBuilding c n lasts m in
    building_end c lasts m t (subst P e b)
