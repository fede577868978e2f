-- Slots one behind the other.
use Rattle.std.proofs.Common.{◌≡◌, ℕ, ◌+◌, ◌-◌, ◌*◌, ◌<◌, ◌≤◌, List, [], ◌∷◌, ◌++◌, length, take, drop, set, get_or, arith, sym, ap, ◌∙◌, inl, inr, add-one, subst, suc-mul, mul-le-mul_right, length-append, length-take-le, length-drop}
use Rattle.std.proofs.Math.Seq.{take-append_seam, drop-append_seam, drop-append-add, get_or-append_seam}
use Rattle.std.proofs.Math.Nat.{min-le_left}
use Rattle.std.proofs.lemmas.Bool.{cases_lt, cases_eq}
use borrow.Rule.Slice.PartMut.{put_mid}
use Rattle.std.proofs.lemmas.List.{append_assoc, get_or-drop, get_or-take, length-take, take_more, drop-drop, drop-set, drop-set-add, set-append_right, drop-append-le, take-append-drop, take-append-le}
use Rattle.barren_states.specs.States.{States, Holds, HoldsNoMore, IsKept}

-- the words of a slot of a width
abbrev pub slot_in : ℕ → ℕ → List ℕ → List ℕ
slot_in w d words = take w (drop (d * w) words)

slot_end : (w d : ℕ) → (d + 1) * w ≡ d * w + w
slot_end w d = ap (λ n. n * w) (add-one d) ∙ omega (arith, suc-mul d w)

pub slot_low : (w e d : ℕ) → e ≤ d → e * w ≤ d * w
slot_low w e d le = mul-le-mul_right w le

-- a slot has its place
pub slot_inside : (w d slots : ℕ) → d < slots → d * w + w ≤ slots * w
slot_inside w d slots less = omega (arith, slot_end w d, slot_low w (d + 1) slots (omega (arith, less)))

-- the front part and the slot that is written
module _ (w d : ℕ) (old new : List ℕ) where
  written : List ℕ
  written = take (d * w) old ++ (new ++ drop (d * w + w) old)

  pub slot_here : d * w + w ≤ length old → length new ≡ w → slot_in w d (take (d * w) old ++ (new ++ drop (d * w + w) old)) ≡ new
  slot_here inside long =
      let front : length (take (d * w) old) ≡ d * w = length-take-le (d * w) old (omega (arith, inside)) in
      ap (λ n. take w (drop n (take (d * w) old ++ (new ++ drop (d * w + w) old)))) (sym front)
      ∙ ap (take w) (drop-append_seam (take (d * w) old) (new ++ drop (d * w + w) old))
      ∙ ap (λ n. take n (new ++ drop (d * w + w) old)) (sym long) ∙ take-append_seam new (drop (d * w + w) old)

  -- one before it
  slot_before : (e : ℕ) → d * w + w ≤ length old → e * w + w ≤ d * w → slot_in w e (take (d * w) old ++ (new ++ drop (d * w + w) old)) ≡ slot_in w e old
  slot_before e inside less =
      let front : length (take (d * w) old) ≡ d * w = length-take-le (d * w) old (omega (arith, inside)) in
      let at : List ℕ → List ℕ → List ℕ = λ xs ys. slot_in w e (xs ++ ys) in
      slot_front (take (d * w) old) (new ++ drop (d * w + w) old) (omega (arith, front, less))
      ∙ sym (slot_front (take (d * w) old) (drop (d * w) old) (omega (arith, front, less)))
      ∙ ap (slot_in w e) (take-append-drop (d * w) old)
    where
      slot_front : (xs ys : List ℕ) → e * w + w ≤ length xs → slot_in w e (xs ++ ys) ≡ slot_in w e xs
      slot_front xs ys low =
          ap (take w) (drop-append-le (e * w) xs ys (omega (arith, low))) ∙ take-append-le w (drop (e * w) xs) ys (omega (arith, low, length-drop (e * w) xs))

  -- one behind it
  slot_behind : (e : ℕ) → d * w + w ≤ length old → length new ≡ w → d * w + w ≤ e * w → slot_in w e (take (d * w) old ++ (new ++ drop (d * w + w) old)) ≡ slot_in w e old
  slot_behind e inside long more =
      let front : length (take (d * w) old) ≡ d * w = length-take-le (d * w) old (omega (arith, inside)) in
      let n : ℕ = e * w - (d * w + w) in
      let at : length (take (d * w) old ++ new) + n ≡ e * w = omega (arith, length-append (take (d * w) old) new, front, long, more) in
      let head : length (take (d * w + w) old) ≡ d * w + w = length-take-le (d * w + w) old inside in
      let was : length (take (d * w + w) old) + n ≡ e * w = omega (arith, head, more) in
      ap (slot_in w e) (sym (append_assoc (take (d * w) old) new (drop (d * w + w) old)))
      ∙ ap (λ m. take w (drop m (take (d * w) old ++ new ++ drop (d * w + w) old))) (sym at)
      ∙ ap (take w) (drop-append-add (take (d * w) old ++ new) (drop (d * w + w) old) n)
      ∙ sym (ap (take w) (drop-append-add (take (d * w + w) old) (drop (d * w + w) old) n))
      ∙ ap (λ m. take w (drop m (take (d * w + w) old ++ drop (d * w + w) old))) was
      ∙ ap (slot_in w e) (take-append-drop (d * w + w) old)

  -- any other one
  pub slot_other : (e : ℕ) → d * w + w ≤ length old → length new ≡ w → (e ≡ d → ⊥) → slot_in w e (take (d * w) old ++ (new ++ drop (d * w + w) old)) ≡ slot_in w e old
  slot_other e inside long other = elim (cases_lt e d) [
    | inl less ↦ slot_before e inside (omega (arith, slot_inside w e d less))
    | inr more ↦
        let above : d < e = omega (arith, more, other) in
        slot_behind e inside long (omega (arith, slot_inside w d e above))
  ]

-- ---- a slot that is written

first_set : (xs : List ℕ) (n v : ℕ) → n < length xs → set (drop n xs) 0 v ≡ v ∷ drop (n + 1) xs
first_set xs n v inside = sym (drop-set-add n xs 0 v) ∙ ap (λ m. drop n (set xs m v)) (omega arith) ∙ drop-set xs n v inside

pub write_is : (a k m : ℕ) (xs ys key : List ℕ) (v : ℕ) → k ≡ length key → m ≡ k → ys ≡ key → a + k + 1 ≤ length xs → set (put_mid a m xs ys) (a + k) v ≡ take a xs ++ ((key ++ v ∷ []) ++ drop (a + k + 1) xs)
write_is a k m xs ys key v long same is room =
    let whole : length (take a xs) ≡ a = length-take-le a xs (omega (arith, room)) in
    let own : length ys ≡ k = ap length is ∙ sym long in
    let post : drop m (drop a xs) ≡ drop (a + k) xs = ap (λ n. drop n (drop a xs)) same ∙ drop-drop k a xs in
    let at : a + k - a ≡ k = omega arith in
    let none : k - k ≡ 0 = omega arith in
    set-append_right (take a xs) (ys ++ drop m (drop a xs)) a (a + k) v whole (omega arith)
    ∙ ap (λ n. take a xs ++ set (ys ++ drop m (drop a xs)) n v) at
    ∙ ap (λ zs. take a xs ++ zs) (set-append_right ys (drop m (drop a xs)) k k v own (omega arith))
    ∙ ap (λ n. take a xs ++ (ys ++ set (drop m (drop a xs)) n v)) none
    ∙ ap (λ zs. take a xs ++ (ys ++ set zs 0 v)) post
    ∙ ap (λ zs. take a xs ++ (ys ++ zs)) (first_set xs (a + k) v (omega (arith, room)))
    ∙ ap (λ zs. take a xs ++ (zs ++ v ∷ drop (a + k + 1) xs)) is
    ∙ ap (λ zs. take a xs ++ zs) (sym (append_assoc key (v ∷ []) (drop (a + k + 1) xs)))

-- ---- what is held then

same_last : (xs ys : List ℕ) (x y : ℕ) → xs ++ x ∷ [] ≡ ys ++ y ∷ [] → (xs ≡ ys) × (x ≡ y)
same_last xs ys x y e =
    let long : length xs ≡ length ys = omega (arith, ap length e, length-append xs (x ∷ []), length-append ys (y ∷ [])) in (
      sym (take-append_seam xs (x ∷ [])) ∙ ap (take (length xs)) e ∙ ap (λ n. take n (ys ++ y ∷ [])) long ∙ take-append_seam ys (y ∷ []),
      sym (get_or-append_seam xs x [] 0) ∙ ap (λ (zs : List ℕ). get_or zs (length xs) 0) e ∙ ap (λ n. get_or (ys ++ y ∷ []) n 0) long ∙ get_or-append_seam ys y [] 0,
    )

abbrev pub with_words : ℕ → ℕ → ℕ → List ℕ → States
with_words width slots most words = record { width = width; slots = slots; most = most; words = words }

-- what is held once a key and its visits are written into a slot
pub kept_is : (width slots most : ℕ) (old new key : List ℕ) (visits slot : ℕ) → slot < slots → length old ≡ slots * (width + 1) → length key ≡ width
    → new ≡ take (slot * (width + 1)) old ++ ((key ++ visits ∷ []) ++ drop (slot * (width + 1) + length key + 1) old) → IsKept (with_words width slots most old) key visits (with_words width slots most new)
kept_is width slots most old new key visits slot less whole long is = record {
  held = λ other count holds.
      let room = slot_inside (width + 1) slot slots less in
      let end : slot * (width + 1) + length key + 1 ≡ slot * (width + 1) + (width + 1) = omega (arith, long) in
      let words : new ≡ take (slot * (width + 1)) old ++ ((key ++ visits ∷ []) ++ drop (slot * (width + 1) + (width + 1)) old) = is ∙ ap (λ n. take (slot * (width + 1)) old ++ ((key ++ visits ∷ []) ++ drop n old)) end in
      let inside : slot * (width + 1) + (width + 1) ≤ length old = omega (arith, room, whole) in
      let own : length (key ++ visits ∷ []) ≡ width + 1 = omega (arith, length-append key (visits ∷ []), long) in
      elim (cases_eq holds.slot slot) [
        | inl same ↦
            let here : key ++ visits ∷ [] ≡ other ++ count ∷ [] = sym (slot_here (width + 1) slot old (key ++ visits ∷ []) inside own) ∙ ap (slot_in (width + 1) slot) (sym words) ∙ ap (λ e. slot_in (width + 1) e new) (sym same) ∙ holds.here in
            let both = same_last key other visits count here in
            inr (sym both.0, sym both.1)
        | inr apart ↦
            inl (record {
              slot = holds.slot;
              inside = holds.inside;
              here = sym (slot_other (width + 1) slot old (key ++ visits ∷ []) holds.slot inside own apart) ∙ ap (slot_in (width + 1) holds.slot) (sym words) ∙ holds.here;
              some = holds.some;
            })
      ];
}

-- a slot whose key and visits are read
pub read_is : (width slots most : ℕ) (words key : List ℕ) (visits slot : ℕ) → slot < slots → length words ≡ slots * (width + 1) → take width (drop (slot * (width + 1)) words) ≡ key
    → get_or words (slot * (width + 1) + width) 0 ≡ visits → 1 ≤ visits → Holds (with_words width slots most words) key visits
read_is width slots most words key visits slot less whole is there some = record {
  slot = slot;
  inside = less;
  here =
      let room = slot_inside (width + 1) slot slots less in
      let start : ℕ = slot * (width + 1) in
      let inside : width < length (drop (slot * (width + 1)) words) = omega (arith, length-drop (slot * (width + 1)) words, room, whole) in
      take_more (drop (slot * (width + 1)) words) width 0 inside
      ∙ ap (λ (n : ℕ). take width (drop (slot * (width + 1)) words) ++ n ∷ []) (get_or-drop (slot * (width + 1)) words width 0 ∙ there)
      ∙ ap (λ (zs : List ℕ). zs ++ visits ∷ []) is;
  some = some;
}

-- ---- more slots, all empty

-- the last of the words of a slot
last_of : (w a : ℕ) (xs key : List ℕ) (v : ℕ) → take w (drop a xs) ≡ key ++ v ∷ [] → get_or xs (a + length key) 0 ≡ v
last_of w a xs key v e =
    let long : length (take w (drop a xs)) ≡ length key + 1 = omega (arith, ap length e, length-append key (v ∷ [])) in
    let few : length (take w (drop a xs)) ≤ w = omega (arith, length-take w (drop a xs), min-le_left w (length (drop a xs))) in
    sym (get_or-drop a xs (length key) 0)
    ∙ sym (get_or-take w (drop a xs) (length key) 0 (omega (arith, long, few)))
    ∙ ap (λ (zs : List ℕ). get_or zs (length key) 0) e
    ∙ get_or-append_seam key v [] 0

front_slot : (w e : ℕ) (xs ys : List ℕ) → e * w + w ≤ length xs → slot_in w e (xs ++ ys) ≡ slot_in w e xs
front_slot w e xs ys low =
    ap (take w) (drop-append-le (e * w) xs ys (omega (arith, low))) ∙ take-append-le w (drop (e * w) xs) ys (omega (arith, low, length-drop (e * w) xs))

-- nothing is held then but what was
pub grown_holds : (width slots more most : ℕ) (old new zeros : List ℕ) → length old ≡ slots * (width + 1) → new ≡ old ++ zeros
    → ((k : ℕ) → length old ≤ k → get_or new k 0 ≡ 0) → HoldsNoMore (with_words width slots most old) (with_words width more most new)
grown_holds width slots more most old new zeros whole is none = λ key visits holds. elim (cases_lt holds.slot slots) [
  | inl less ↦
      let room = slot_inside (width + 1) holds.slot slots less in
      record {
        slot = holds.slot;
        inside = less;
        here = sym (front_slot (width + 1) holds.slot old zeros (omega (arith, room, whole))) ∙ ap (slot_in (width + 1) holds.slot) (sym is) ∙ holds.here;
        some = holds.some;
      }
  | inr far ↦
      let low = slot_low (width + 1) slots holds.slot far in
      let zero = none (holds.slot * (width + 1) + length key) (omega (arith, low, whole)) in
      let value = last_of (width + 1) (holds.slot * (width + 1)) new key visits holds.here in
      let some = holds.some in
      absurd (omega (arith, zero, value, some))
]

-- ---- a key that is moved

-- once no visits are written beside a key, nothing is held but what was
pub cleared : (old new : States) (key : List ℕ) → IsKept old key 0 new → HoldsNoMore old new
cleared old new key kept = λ other count holds. elim (kept.held other count holds) [
  | inl before ↦ before
  | inr is ↦
      let some = holds.some in
      absurd (omega (arith, is.1, some))
]

-- nor if a key that was held is written once more
pub moved : (old mid new : States) (key : List ℕ) (visits : ℕ) → Holds old key visits → HoldsNoMore old mid → IsKept mid key visits new → HoldsNoMore old new
moved old mid new key visits was less kept = λ other count holds. elim (kept.held other count holds) [
  | inl before ↦ less other count before
  | inr is ↦
      let K : List ℕ → Type 0 = λ k. Holds old k count in
      let C : ℕ → Type 0 = λ n. Holds old key n in
      subst K (sym is.0) (subst C (sym is.1) was)
]
