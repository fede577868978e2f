-- The keys of items while nodes leave their columns and come back.
use Rattle.std.proofs.Common.{◌≡◌, ℕ, suc, ◌+◌, ◌-◌, ◌*◌, ◌%◌, ◌||◌, ◌<◌, ◌≤◌, List, [], ◌∷◌, length, Bool, true, false, not, ◌==◌, ◌&&◌, get_or, set, refl, arith, sym, ap, ◌∙◌, inl, inr, subst}
use Rattle.std.specs.List.{range_with_len}
use Rattle.std.proofs.lemmas.Bool.{cases_eq, eq-eqb, ne_eqb, or_left, or_right}
use Rattle.std.proofs.lemmas.List.{length-set, get_or-set_same, get_or-set_other}
use Rattle.std.proofs.lemmas.List.FromFn.{length-range_with_len, get_or-range_with_len}
use Rattle.cover_problem.proofs.Among.{filter_fewer}
use Rattle.dancing_links.specs.declared.link.Link.{Link}
use Rattle.dancing_links.specs.Columns.{Columns, among, column_of, column_from, IsTable}
use Rattle.dancing_links.specs.Keys.{with_less, with_more, with_mark, mark_of, key_of, fewer, more, IsKeyed, IsCounting, KeysCovered}
use Rattle.dancing_links.specs.Covering.{outs, hidden_from, covered}
use Rattle.dancing_links.proofs.Present.{hidden_by}
use Rattle.dancing_links.proofs.Round.{others_at}
use Rattle.dancing_links.proofs.Walk.{AreIn, Going, filter_one_less, same_filter, going_done, item_out, whole_item, option_node, column_skip_to, column_from_take, column_from_skip, column_from_end}
use Rattle.dancing_links.proofs.Chain.{going_all}

-- a node that is taken out of a column makes it one shorter
column_taken : (c : Columns) (out : List ℕ) (x i : ℕ) → c.heads ≤ x → x < c.tails → column_of c x ≡ i → among out x ≡ false → length (column_from c out i c.heads) ≡ suc (length (column_from c (x ∷ out) i c.heads))
unfolding column_from
column_taken c out x i low high own here =
    filter_one_less (λ k. (column_of c k == i) && not (among out k)) (λ k. (column_of c k == i) && not (among (x ∷ out) k)) x (c.tails - c.heads) c.heads
    (λ k ne. rw (ne_eqb x k (λ e. ne (sym e))) refl)
    (rw (eq-eqb (column_of c x) i own, here) refl)
    (rw (eq-eqb (column_of c x) i own, eq-eqb x x refl) refl)
    low (omega (arith, low, high))

-- and leaves the others as they are
column_kept : (c : Columns) (out : List ℕ) (x i : ℕ) → (column_of c x ≡ i → ⊥) → column_from c (x ∷ out) i c.heads ≡ column_from c out i c.heads
unfolding column_from
column_kept c out x i ne =
    same_filter (λ k. (column_of c k == i) && not (among (x ∷ out) k)) (λ k. (column_of c k == i) && not (among out k)) (c.tails - c.heads) c.heads
    (λ k low high. elim (cases_eq k x) [
      | inl e ↦ rw (ne_eqb (column_of c k) i (λ f. ne (ap (column_of c) (sym e) ∙ f))) refl
      | inr off ↦ rw (ne_eqb x k (λ f. off (sym f))) refl
    ])

none_out : (a b : Bool) → (a && not b) ≡ true → (a && true) ≡ true
none_out true b h = refl
none_out false b h = h

pub few : (c : Columns) (out : List ℕ) (i : ℕ) → IsTable c → i + 1 < c.heads → length (column_from c out i c.heads) < 32768
unfolding column_from
few c out i t item =
    let less = filter_fewer (λ k. (column_of c k == i) && not (among [] k)) (λ k. (column_of c k == i) && not (among out k)) (λ k h. none_out (column_of c k == i) (among out k) h) (range_with_len c.heads (c.tails - c.heads)) in
    omega (arith, less, t.each_few i item)

pub mark_small : (b : Bool) → mark_of b ≤ 2147483648
mark_small true = omega arith
mark_small false = omega arith

-- a node of an option is no item's node
not_item : (c : Columns) (out : List ℕ) (x i : ℕ) → c.heads + c.heads ≤ x + 1 → i + 1 < c.heads → among (x ∷ out) (c.heads + i) ≡ among out (c.heads + i)
not_item c out x i option item = ap (λ (b : Bool). b || among out (c.heads + i)) (ne_eqb x (c.heads + i) (λ e. omega (arith, e, option, item)))

keyed_less : (c : Columns) (out keys : List ℕ) (x : ℕ) → IsTable c → c.heads ≤ x → x < c.tails → c.heads + c.heads ≤ x + 1 → among out x ≡ false → IsKeyed c out keys → IsKeyed c (x ∷ out) (with_less c keys x)
unfolding with_less
keyed_less c out keys x t low high option here is = record {
  columns = omega (arith, length-set keys (column_of c x) ((get_or keys (column_of c x) 0 + 4294901760) % 4294967296), is.columns);
  key = λ i item.
      let marks : mark_of (among (x ∷ out) (c.heads + i)) ≡ mark_of (among out (c.heads + i)) = ap mark_of (not_item c out x i option item) in
      elim (cases_eq i (column_of c x)) [
        | inl e ↦
            let v : ℕ = (get_or keys (column_of c x) 0 + 4294901760) % 4294967296 in
            let at : get_or (set keys (column_of c x) v) i 0 ≡ v = ap (λ k. get_or (set keys (column_of c x) v) k 0) e ∙ get_or-set_same keys (column_of c x) v 0 (omega (arith, is.columns, item, e)) in
            let was : get_or keys (column_of c x) 0 ≡ key_of c out i = ap (λ k. get_or keys k 0) (sym e) ∙ is.key i item in
            let one = column_taken c out x i low high (sym e) here in
            let bound = few c out i t item in
            omega (arith, at, was, one, bound, marks, mark_small (among out (c.heads + i)), t.few_heads, item)
        | inr ne ↦
            let at = get_or-set_other keys (column_of c x) i ((get_or keys (column_of c x) 0 + 4294901760) % 4294967296) 0 ne in
            let kept = ap length (column_kept c out x i (λ e. ne (sym e))) in
            omega (arith, at, is.key i item, kept, marks)
      ];
}

keyed_more : (c : Columns) (out keys : List ℕ) (x : ℕ) → IsTable c → c.heads ≤ x → x < c.tails → c.heads + c.heads ≤ x + 1 → among out x ≡ false → IsKeyed c (x ∷ out) keys → IsKeyed c out (with_more c keys x)
unfolding with_more
keyed_more c out keys x t low high option here is = record {
  columns = omega (arith, length-set keys (column_of c x) ((get_or keys (column_of c x) 0 + 65536) % 4294967296), is.columns);
  key = λ i item.
      let marks : mark_of (among (x ∷ out) (c.heads + i)) ≡ mark_of (among out (c.heads + i)) = ap mark_of (not_item c out x i option item) in
      elim (cases_eq i (column_of c x)) [
        | inl e ↦
            let v : ℕ = (get_or keys (column_of c x) 0 + 65536) % 4294967296 in
            let at : get_or (set keys (column_of c x) v) i 0 ≡ v = ap (λ k. get_or (set keys (column_of c x) v) k 0) e ∙ get_or-set_same keys (column_of c x) v 0 (omega (arith, is.columns, item, e)) in
            let was : get_or keys (column_of c x) 0 ≡ key_of c (x ∷ out) i = ap (λ k. get_or keys k 0) (sym e) ∙ is.key i item in
            let one = column_taken c out x i low high (sym e) here in
            let bound = few c out i t item in
            omega (arith, at, was, one, bound, marks, mark_small (among out (c.heads + i)), t.few_heads, item)
        | inr ne ↦
            let at = get_or-set_other keys (column_of c x) i ((get_or keys (column_of c x) 0 + 65536) % 4294967296) 0 ne in
            let kept = ap length (column_kept c out x i (λ e. ne (sym e))) in
            omega (arith, at, is.key i item, kept, marks)
      ];
}

-- nodes of options
abbrev pub AreOptions : Columns → List ℕ → Type 0
AreOptions c xs = (k : ℕ) → among xs k ≡ true → c.heads + c.heads ≤ k + 1

keyed_fewer : (c : Columns) (out keys xs : List ℕ) → IsTable c → AreIn c out xs → AreOptions c xs → IsKeyed c out keys → IsKeyed c (outs xs out) (fewer c keys xs)
keyed_fewer c out keys [] t are options is = is
keyed_fewer c out keys (x ∷ xs) t are options is =
    let own = options x (or_left (x == x) (among xs x) (eq-eqb x x refl)) in
    keyed_fewer c (x ∷ out) (with_less c keys x) xs t are.1 (λ k h. options k (or_right (x == k) (among xs k) h)) (keyed_less c out keys x t are.0.0 are.0.1 own are.0.2 is)

pub keyed_back : (c : Columns) (out keys xs : List ℕ) → IsTable c → AreIn c out xs → AreOptions c xs → IsKeyed c (outs xs out) keys → IsKeyed c out (more c keys xs)
keyed_back c out keys [] t are options is = is
keyed_back c out keys (x ∷ xs) t are options is =
    let own = options x (or_left (x == x) (among xs x) (eq-eqb x x refl)) in
    keyed_more c out (more c keys xs) x t are.0.0 are.0.1 own are.0.2 (keyed_back c (x ∷ out) keys xs t are.1 (λ k h. options k (or_right (x == k) (among xs k) h)) is)

-- what is hidden are nodes of options
pub hidden_options : (c : Columns) (out : List ℕ) (i a : ℕ) → IsTable c → i + 1 < c.heads → AreOptions c (hidden_from c out i a c.heads)
hidden_options c out i a t item = λ k hid.
    let at = hidden_by c out i a k t hid in
    let w = t.within at.node (option_node c i at.node t item at.low at.own) at.high in
    let row = others_at c at.node k w.0 w.1 at.other in
    omega (arith, w.2, row.0)

-- an item whose node leaves gets the mark, and no column is shorter; so back
marked : (c : Columns) (out : List ℕ) (i j : ℕ) → IsTable c → i + 1 < c.heads → j + 1 < c.heads → length (column_from c ((c.heads + i) ∷ out) j c.heads) ≡ length (column_from c out j c.heads)
marked c out i j t item h = ap length (column_kept c out (c.heads + i) j (λ e. omega (arith, t.item_columns i item, e, h)))

marked_on : (c : Columns) (out keys : List ℕ) (i : ℕ) → IsTable c → i + 1 < c.heads → among out (c.heads + i) ≡ false → IsKeyed c out keys → IsKeyed c ((c.heads + i) ∷ out) (with_mark keys i)
unfolding with_mark
marked_on c out keys i t item here is = record {
  columns = omega (arith, length-set keys i ((get_or keys i 0 + 2147483648) % 4294967296), is.columns);
  key = λ j h. elim (cases_eq j i) [
    | inl e ↦
        let v : ℕ = (get_or keys i 0 + 2147483648) % 4294967296 in
        let at : get_or (set keys i v) j 0 ≡ v = ap (λ k. get_or (set keys i v) k 0) e ∙ get_or-set_same keys i v 0 (omega (arith, is.columns, item)) in
        let was : get_or keys i 0 ≡ key_of c out j = ap (λ k. get_or keys k 0) (sym e) ∙ is.key j h in
        let off : mark_of (among out (c.heads + j)) ≡ 0 = ap (λ k. mark_of (among out (c.heads + k))) e ∙ ap mark_of here in
        let on : mark_of (among ((c.heads + i) ∷ out) (c.heads + j)) ≡ 2147483648 = ap (λ (b : Bool). mark_of (b || among out (c.heads + j))) (eq-eqb (c.heads + i) (c.heads + j) (omega (arith, e))) in
        omega (arith, at, was, off, on, marked c out i j t item h, few c out j t h, t.few_heads, h)
    | inr ne ↦
        let at = get_or-set_other keys i j ((get_or keys i 0 + 2147483648) % 4294967296) 0 ne in
        let same : mark_of (among ((c.heads + i) ∷ out) (c.heads + j)) ≡ mark_of (among out (c.heads + j)) = ap (λ (b : Bool). mark_of (b || among out (c.heads + j))) (ne_eqb (c.heads + i) (c.heads + j) (λ e. ne (omega (arith, e)))) in
        omega (arith, at, is.key j h, marked c out i j t item h, same)
  ];
}

pub marked_off : (c : Columns) (out keys : List ℕ) (i : ℕ) → IsTable c → i + 1 < c.heads → among out (c.heads + i) ≡ false → IsKeyed c ((c.heads + i) ∷ out) keys → IsKeyed c out (with_mark keys i)
unfolding with_mark
marked_off c out keys i t item here is = record {
  columns = omega (arith, length-set keys i ((get_or keys i 0 + 2147483648) % 4294967296), is.columns);
  key = λ j h. elim (cases_eq j i) [
    | inl e ↦
        let v : ℕ = (get_or keys i 0 + 2147483648) % 4294967296 in
        let at : get_or (set keys i v) j 0 ≡ v = ap (λ k. get_or (set keys i v) k 0) e ∙ get_or-set_same keys i v 0 (omega (arith, is.columns, item)) in
        let was : get_or keys i 0 ≡ key_of c ((c.heads + i) ∷ out) j = ap (λ k. get_or keys k 0) (sym e) ∙ is.key j h in
        let off : mark_of (among out (c.heads + j)) ≡ 0 = ap (λ k. mark_of (among out (c.heads + k))) e ∙ ap mark_of here in
        let on : mark_of (among ((c.heads + i) ∷ out) (c.heads + j)) ≡ 2147483648 = ap (λ (b : Bool). mark_of (b || among out (c.heads + j))) (eq-eqb (c.heads + i) (c.heads + j) (omega (arith, e))) in
        omega (arith, at, was, off, on, marked c out i j t item h, few c out j t h, t.few_heads, h)
    | inr ne ↦
        let at = get_or-set_other keys i j ((get_or keys i 0 + 2147483648) % 4294967296) 0 ne in
        let same : mark_of (among ((c.heads + i) ∷ out) (c.heads + j)) ≡ mark_of (among out (c.heads + j)) = ap (λ (b : Bool). mark_of (b || among out (c.heads + j))) (ne_eqb (c.heads + i) (c.heads + j) (λ e. ne (omega (arith, e)))) in
        omega (arith, at, is.key j h, marked c out i j t item h, same)
  ];
}

pub cover_keys : (c : Columns) (old now : List Link) (was is first trail : List ℕ) (i a node : ℕ) → IsTable c → c.tails ≤ node → Going c old i a now (with_mark was i) is first trail node → KeysCovered c old i a was is
unfolding covered
cover_keys c old now was is first trail i a node t past going = λ out s can keyed.
    let w = going out s can in
    let out' : List ℕ = (c.heads + i) ∷ out in
    let s1 = item_out c out i old t can s in
    let all = going_done c out' i a old now node w.done past w.going in
    let are = going_all c out' i a old t can.item s1 (whole_item c out i t can) in
    let P : List ℕ → Type 0 = λ k. IsKeyed c (outs (hidden_from c out' i a c.heads) out') k in
    subst P (sym (w.keys ∙ ap (fewer c (with_mark was i)) all)) (keyed_fewer c out' (with_mark was i) (hidden_from c out' i a c.heads) t are (hidden_options c out' i a t can.item) (marked_on c out was i t can.item can.here keyed))

-- ---- counting

pub counting_start : (c : Columns) (keys : List ℕ) (node : ℕ) → IsTable c → keys ≡ range_with_len 0 (c.heads - 1) → node + 1 ≡ c.heads + c.heads → IsCounting c node keys
counting_start c keys node t e f = record {
  columns = omega (arith, ap length e, length-range_with_len 0 (c.heads - 1), t.some);
  key = λ i item.
      let own : get_or keys i 0 ≡ i = omega (arith, ap (λ (k : List ℕ). get_or k i 0) e, get_or-range_with_len 0 (c.heads - 1) i 0 (omega (arith, item))) in
      let skip = column_skip_to c [] i (node - c.heads) c.heads node (omega (arith, f, item)) (λ y low high own.
      let j : ℕ = y - c.heads in
      let same : c.heads + j ≡ y = omega (arith, low) in
      absurd (omega (arith, t.item_columns j (omega (arith, f, low, high)), ap (column_of c) same, own, item))) in
      omega (arith, own, ap length skip);
}

pub counting_step : (c : Columns) (keys : List ℕ) (node i : ℕ) → IsTable c → c.heads + c.heads ≤ node + 1 → node < c.tails → i ≡ column_of c node → IsCounting c node keys → IsCounting c (node + 1) (set keys i (get_or keys i 0 + 65536))
counting_step c keys node i t low high e is =
    let item : i + 1 < c.heads = omega (arith, e, t.option_columns node low high) in
    record {
      columns = omega (arith, length-set keys i (get_or keys i 0 + 65536), is.columns);
      key = λ j h. elim (cases_eq j i) [
        | inl f ↦
            let v : ℕ = get_or keys i 0 + 65536 in
            let at : get_or (set keys i v) j 0 ≡ v = ap (λ k. get_or (set keys i v) k 0) f ∙ get_or-set_same keys i v 0 (omega (arith, is.columns, item)) in
            let was : get_or keys i 0 + 65536 * length (column_from c [] j node) ≡ j + 65536 * length (column_from c [] j c.heads) = ap (λ k. get_or keys k 0 + 65536 * length (column_from c [] j node)) (sym f) ∙ is.key j h in
            let take = ap length (column_from_take c [] j node high (sym e ∙ sym f) refl) in
            omega (arith, at, was, take)
        | inr ne ↦
            let at : get_or (set keys i (get_or keys i 0 + 65536)) j 0 ≡ get_or keys j 0 = get_or-set_other keys i j (get_or keys i 0 + 65536) 0 ne in
            let skip = ap length (column_from_skip c [] j node high (λ own. absurd (ne (sym own ∙ sym e)))) in
            omega (arith, at, is.key j h, skip)
      ];
    }

-- no key goes past its bound
pub counting_fits : (c : Columns) (keys : List ℕ) (node i : ℕ) → IsTable c → c.heads + c.heads ≤ node + 1 → node < c.tails → i ≡ column_of c node → IsCounting c node keys → get_or keys i 0 + 65536 < 4294967296
counting_fits c keys node i t low high e is =
    let item : i + 1 < c.heads = omega (arith, e, t.option_columns node low high) in
    let take = ap length (column_from_take c [] i node high (sym e) refl) in
    omega (arith, take, is.key i item, t.each_few i item, t.few_heads, item)

pub counting_end : (c : Columns) (keys : List ℕ) (node : ℕ) → c.tails ≤ node → IsCounting c node keys → IsKeyed c [] keys
counting_end c keys node past is = record {
  columns = is.columns;
  key = λ i item. omega (arith, is.key i item, ap length (column_from_end c [] i node past));
}
