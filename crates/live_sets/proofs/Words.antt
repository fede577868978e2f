-- Words of sets of options.
use Rattle.std.proofs.Common.{◌≡◌, ℕ, suc, ◌+◌, ◌-◌, ◌/◌, ◌%◌, ◌^◌, ◌<◌, ◌≤◌, List, ◌∷◌, length, map, take, drop, get_or, Bool, true, false, ◌==◌, ◌&&◌, ◌||◌, All, bit_and, refl, arith, sym, ap, ◌∙◌, inl, inr, subst, add-one, length-drop, get_or-drop, take_all}
use Rattle.std.specs.Int.{bit_at}
use Rattle.std.specs.List.Sorted.{IsStrictlyIncreasing}
use Rattle.std.proofs.Math.Seq.{split_at}
use Rattle.std.proofs.lemmas.Bool.{cases_eq, eq-eqb, ne_eqb, and_right}
use Rattle.std.proofs.lemmas.List.{get_or-map, drop-map, length-map}
use Rattle.std.proofs.lemmas.List.Elements.{All-from_get_or, All-get_or, All-drop}
use Rattle.std.proofs.lemmas.List.Folds.{list_any-append, list_any_more}
use Rattle.std.proofs.lemmas.List.Kept.{AllPairs-from_increasing}
use Rattle.std.proofs.lemmas.Nat.{and_le_l}
use Rattle.std.proofs.lemmas.Nat.Bits.{bit_at_and, bit_at-lt, bit_at-zero}
use Rattle.option_sets.specs.declared.word.Word.{Word}
use Rattle.option_sets.specs.Sets.{has, row_has, word_has}
use Rattle.live_sets.specs.declared.untried.Untried.{Untried}
use Rattle.live_sets.specs.Trying.{AreBehind, IsFirstWordAt}

-- the bits that two words have in common
both_bits : (a b i : ℕ) → (bit_at (bit_and a b) i == 1) ≡ ((bit_at b i == 1) && (bit_at a i == 1))
both_bits a b i =
    let e = bit_at_and a b i in
    elim (cases_eq (bit_at b i) 1) [
      | inl one ↦ elim (cases_eq (bit_at a i) 1) [
        | inl other ↦
            let is : bit_at (bit_and a b) i ≡ 1 = omega (arith, e, one, other) in
            rw (eq-eqb (bit_at (bit_and a b) i) 1 is, eq-eqb (bit_at b i) 1 one, eq-eqb (bit_at a i) 1 other) refl
        | inr none ↦
            let is : bit_at (bit_and a b) i ≡ 1 → ⊥ = (λ h. none (omega (arith, e, one, h, bit_at-lt a i))) in
            rw (ne_eqb (bit_at (bit_and a b) i) 1 is, eq-eqb (bit_at b i) 1 one, ne_eqb (bit_at a i) 1 none) refl
      ]
      | inr none ↦
          let is : bit_at (bit_and a b) i ≡ 1 → ⊥ = (λ h. none (omega (arith, e, h, bit_at-lt b i))) in
          rw (ne_eqb (bit_at (bit_and a b) i) 1 is, ne_eqb (bit_at b i) 1 none) refl
    ]

-- what a word has in common with the set at its place
pub word_met : (live : List ℕ) (place bits x : ℕ) → word_has place (bit_and (get_or live place 0) bits) x ≡ (word_has place bits x && has live x)
word_met live place bits x = elim (cases_eq place (x / 64)) [
  | inl same ↦
      let at = ap (λ n. bit_at (get_or live n 0) (x % 64) == 1) same in
      rw (eq-eqb place (x / 64) same) (both_bits (get_or live place 0) bits (x % 64) ∙ ap (λ b. (bit_at bits (x % 64) == 1) && b) at)
  | inr other ↦ rw (ne_eqb place (x / 64) other) refl
]

spread : (a b c d : Bool) → (a && d) ≡ false → ((a || (b || c)) && d) ≡ ((b && d) || (c && d))
spread true b c true h = absurd cc
spread true true true false h = refl
spread true true false false h = refl
spread true false true false h = refl
spread true false false false h = refl
spread false true true true h = refl
spread false true false true h = refl
spread false false true true h = refl
spread false false false true h = refl
spread false true true false h = refl
spread false true false false h = refl
spread false false true false h = refl
spread false false false false h = refl

-- a row around one of its words
pub row_around : (row : List Word) (i x : ℕ) (d : Word) → i < length row → row_has row x ≡ (row_has (take i row) x || (word_has (get_or row i d).place (get_or row i d).bits x || row_has (drop (i + 1) row) x))
row_around row i x d inside =
    let test : Word → Bool = λ w. word_has w.place w.bits x in
    ap (λ (r : List Word). row_has r x) (split_at row i d inside) ∙ list_any-append test (take i row) (get_or row i d ∷ drop (suc i) row)
    ∙ ap (λ n. row_has (take i row) x || (word_has (get_or row i d).place (get_or row i d).bits x || row_has (drop n row) x)) (sym (add-one i))

-- what is left of a row, behind words that have nothing that is live
pub left_around : (row : List Word) (live : List ℕ) (i x : ℕ) (d w : Word) → i < length row → w ≡ get_or row i d → (row_has (take i row) x && has live x) ≡ false → (word_has w.place (bit_and (get_or live w.place 0) w.bits) x || (row_has (drop (i + 1) row) x && has live x)) ≡ (row_has row x && has live x)
left_around row live i x d w inside is none =
    let around = row_around row i x d inside ∙ ap (λ (v : Word). row_has (take i row) x || (word_has v.place v.bits x || row_has (drop (i + 1) row) x)) (sym is) in
    ap (λ b. b || (row_has (drop (i + 1) row) x && has live x)) (word_met live w.place w.bits x)
    ∙ sym (spread (row_has (take i row) x) (word_has w.place w.bits x) (row_has (drop (i + 1) row) x) (has live x) none) ∙ ap (λ b. b && has live x) (sym around)

-- the words behind one
pub behind_rest : (width : ℕ) (row : List Word) (n : ℕ) → AreBehind width row → AreBehind width (drop n row)
behind_rest width row n are = record {
  rising =
      let place : Word → ℕ = λ w. w.place in
      let P : List ℕ → Type 0 = λ xs. IsStrictlyIncreasing xs in
      subst P (drop-map place n row) (rest_rises (map place row) n are.rising);
  inside = All-drop (λ (w : Word). w.place < width) n row are.inside;
}
  where
    rest_rises : (xs : List ℕ) (n : ℕ) → IsStrictlyIncreasing xs → IsStrictlyIncreasing (drop n xs)
    rest_rises xs n h k within =
        let lower : get_or (drop n xs) k 0 ≡ get_or xs (n + k) 0 = get_or-drop n xs k 0 in
        let upper : get_or (drop n xs) (k + 1) 0 ≡ get_or xs (n + k + 1) 0 = get_or-drop n xs (k + 1) 0 ∙ ap (λ m. get_or xs m 0) (omega arith) in
        omega (arith, lower, upper, h (n + k) (omega (arith, within, length-drop n xs)))

-- the places of the words behind one are greater
pub behind_one : (width : ℕ) (row : List Word) (i : ℕ) (d w : Word) → AreBehind width row → i < length row → w ≡ get_or row i d → All (λ (v : Word). w.place < v.place) (drop (i + 1) row)
behind_one width row i d w are inside is =
    let place : Word → ℕ = λ v. v.place in
    let rising = AllPairs-from_increasing (map place row) are.rising in
    All-from_get_or (λ (v : Word). w.place < v.place) (drop (i + 1) row) d (λ k within.
    let long = length-drop (i + 1) row in
    let lower = get_or-map place row i d 0 inside in
    let at : i + 1 + k < length row = omega (arith, within, long, inside) in
    let upper = get_or-map place row (i + 1 + k) d 0 at in
    let pair = rising i (i + 1 + k) 0 (omega arith) (omega (arith, at, length-map row place)) in
    omega (arith, pair, lower, upper, ap place is, ap place (get_or-drop (i + 1) row k d)))

-- the first word in which something is live
pub first_word_at : (row : List Word) (live : List ℕ) (i : ℕ) (d : Word) (u : Untried) → AreBehind (length live) row → i < length row → u.place ≡ (get_or row i d).place → u.bits ≡ bit_and (get_or live u.place 0) (get_or row i d).bits → u.later.now ≡ take (length row - (i + 1)) (drop (i + 1) row) → get_or live u.place 0 < 2 ^ 64 → 1 ≤ u.bits → ((x : ℕ) → (row_has (take i row) x && has live x) ≡ false) → IsFirstWordAt row live u
first_word_at row live i d u are inside place bits piece fits some none =
    let w : Word = get_or row i d in
    let later : u.later.now ≡ drop (i + 1) row = piece ∙ take_all (length row - (i + 1)) (drop (i + 1) row) (omega (arith, length-drop (i + 1) row)) in
    record {
      some = some;
      trying = record {
        behind = let P : List Word → Type 0 = λ r. AreBehind (length live) r in subst P (sym later) (behind_rest (length live) row (i + 1) are);
        small = omega (arith, bits, fits, and_le_l (get_or live u.place 0) (get_or row i d).bits);
        inside = λ h. omega (arith, place, All-get_or (λ (v : Word). v.place < length live) row i d inside are.inside);
        apart = λ h.
            let P : List Word → Type 0 = λ r. All (λ (v : Word). u.place < v.place) r in
            let Q : ℕ → Type 0 = λ n. All (λ (v : Word). n < v.place) (drop (i + 1) row) in
            subst P (sym later) (subst Q (sym place) (behind_one (length live) row i d w are inside refl));
      };
      left = λ x.
          ap (λ (r : List Word). word_has u.place u.bits x || (row_has r x && has live x)) later
          ∙ ap (λ n. word_has u.place n x || (row_has (drop (i + 1) row) x && has live x)) bits
          ∙ ap (λ n. word_has n (bit_and (get_or live n 0) (get_or row i d).bits) x || (row_has (drop (i + 1) row) x && has live x)) place
          ∙ left_around row live i x d w inside refl (none x);
    }

-- a word in which nothing is live
pub word_passed : (row : List Word) (live : List ℕ) (i : ℕ) (d : Word) → i < length row → bit_and (get_or live (get_or row i d).place 0) (get_or row i d).bits ≡ 0 → ((x : ℕ) → (row_has (take i row) x && has live x) ≡ false) → (x : ℕ) → (row_has (take (i + 1) row) x && has live x) ≡ false
word_passed row live i d inside zero none x =
    let w : Word = get_or row i d in
    let test : Word → Bool = λ v. word_has v.place v.bits x in
    let met : (word_has w.place w.bits x && has live x) ≡ false = sym (word_met live w.place w.bits x) ∙ ap (λ n. word_has w.place n x) zero ∙ nothing w.place x in
    ap (λ b. b && has live x) (list_any_more test row i d inside) ∙ both_none (row_has (take i row) x) (word_has w.place w.bits x) (has live x) (none x) met
  where
    nothing : (place x : ℕ) → word_has place 0 x ≡ false
    nothing place x = and_right (place == x / 64) (bit_at 0 (x % 64) == 1) (ne_eqb (bit_at 0 (x % 64)) 1 (λ h. omega (arith, bit_at-zero (x % 64), h)))

    both_none : (a b c : Bool) → (a && c) ≡ false → (b && c) ≡ false → ((a || b) && c) ≡ false
    both_none true b c h k = h
    both_none false b c h k = k
