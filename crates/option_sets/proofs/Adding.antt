-- A row that gets an option behind all of its own.
use Rattle.std.proofs.Common.{◌≡◌, ℕ, suc, ◌+◌, ◌-◌, ◌*◌, ◌/◌, ◌%◌, ◌^◌, ◌<◌, ◌≤◌, Bool, true, false, ◌&&◌, ◌||◌, ◌==◌, List, [], ◌∷◌, ◌++◌, length, get_or, set, take, drop, map, refl, sym, ap, ◌∙◌, inl, inr, arith, subst}
use Rattle.std.specs.Prelude.{bit_or}
use Rattle.std.specs.Int.{bit_at}
use Rattle.std.specs.List.{list_any}
use Rattle.std.specs.List.Sorted.{IsStrictlyIncreasing}
use Rattle.std.proofs.lemmas.Bool.{eqb-true, eq-eqb, cases_lt, and_parts, and_from, or_cases, or_left, or_right}
use Rattle.std.proofs.lemmas.List.{length_push, get_or_push, get_or_append_left, map_push, get_or-map, set_split, drop_all, take_more, take_all, set-get_or, map-set, length-map, get_or_read}
use Rattle.std.proofs.lemmas.Nat.{le_or_l}
use Rattle.std.proofs.lemmas.Nat.Bits.{bit_at-zero}
use Rattle.std.proofs.lemmas.List.Elements.{All-push, All-weaker, All-get_or, All-set}
use Rattle.cover_problem.specs.Numbers.{is_in}
use Rattle.cover_problem.proofs.Basics.{same_truth}
use Rattle.option_sets.specs.Rows.{IsRowBy}
use Rattle.option_sets.specs.Sets.{word_has, row_has}
use Rattle.option_sets.specs.declared.word.Word.{Word}
use Rattle.option_sets.proofs.Bits.{bit_of_or, bit_of_one}

pub or_assoc : (a b c : Bool) → (a || (b || c)) ≡ (a || b || c)
or_assoc true b c = refl
or_assoc false b c = refl

pub any_append : {X : Type 0} (p : X → Bool) (xs ys : List X) → list_any p (xs ++ ys) ≡ (list_any p xs || list_any p ys)
any_append p [] ys = refl
any_append p (x ∷ xs) ys = ap (λ b. p x || b) (any_append p xs ys) ∙ or_assoc (p x) (list_any p xs) (list_any p ys)

pub or-false : (a : Bool) → (a || false) ≡ a
or-false true = refl
or-false false = refl

and_or : (a b c : Bool) → (a && (b || c)) ≡ (a && b || a && c)
and_or true b c = refl
and_or false b c = refl

-- the place and the bit of a number
same_number : (o x : ℕ) → ((o / 64 == x / 64) && (x % 64 == o % 64)) ≡ (x == o)
same_number o x = same_truth _ _
    (λ h. let both = and_parts (o / 64 == x / 64) (x % 64 == o % 64) h in eq-eqb x o (omega (arith, eqb-true (o / 64) (x / 64) both.0, eqb-true (x % 64) (o % 64) both.1)))
    (λ h. let e = eqb-true x o h in and_from (o / 64 == x / 64) (x % 64 == o % 64) (eq-eqb (o / 64) (x / 64) (omega (arith, e))) (eq-eqb (x % 64) (o % 64) (omega (arith, e))))

word_new : (place bits o x : ℕ) → place ≡ o / 64 → bits ≡ 1 * 2 ^ (o % 64) % 2 ^ 64 → word_has place bits x ≡ (x == o)
word_new place bits o x at is =
    rw (at, is, bit_of_one (o % 64) (x % 64) (omega arith) (omega arith)) (same_number o x)

word_more : (place bits o x : ℕ) → place ≡ o / 64 → word_has place (bit_or bits (1 * 2 ^ (o % 64) % 2 ^ 64)) x ≡ (word_has place bits x || x == o)
word_more place bits o x at =
    ap (λ b. place == x / 64 && b) (bit_of_or bits (1 * 2 ^ (o % 64) % 2 ^ 64) (x % 64))
    ∙ and_or (place == x / 64) (bit_at bits (x % 64) == 1) (bit_at (1 * 2 ^ (o % 64) % 2 ^ 64) (x % 64) == 1)
    ∙ ap (λ b. word_has place bits x || b) (word_new place (1 * 2 ^ (o % 64) % 2 ^ 64) o x at refl)

-- numbers that rise, with one more behind
rising_push : (xs : List ℕ) (y : ℕ) → IsStrictlyIncreasing xs → (0 < length xs → get_or xs (length xs - 1) 0 < y) → IsStrictlyIncreasing (xs ++ y ∷ [])
rising_push xs y rising last k more =
    let long = length_push xs y in
    elim (cases_lt (k + 1) (length xs)) [
      | inl inside ↦ omega (arith, rising k inside, get_or_append_left xs (y ∷ []) 0 k (omega arith), get_or_append_left xs (y ∷ []) 0 (k + 1) inside)
      | inr past ↦
          let e : length xs - 1 ≡ k = omega arith in
          let f : length xs ≡ k + 1 = omega arith in
          let before : get_or xs k 0 < y = rw e at last (omega arith) in
          omega (arith, before, get_or_push xs y 0 (k + 1) f, get_or_append_left xs (y ∷ []) 0 k (omega arith))
    ]

places : (row : List Word) (xs : List ℕ) → map (λ (v : Word). v.place) row ≡ xs → IsStrictlyIncreasing xs → IsStrictlyIncreasing (map (λ (v : Word). v.place) row)
places row xs e h = subst IsStrictlyIncreasing (sym e) h

-- the last word of a row is that of another option
abbrev pub IsPast : ℕ → List Word → Type 0
IsPast o row = 0 < length row → (get_or row (length row - 1) (record { place = 0; bits = 0 })).place ≡ o / 64 → ⊥

module _ (n o : ℕ) (member : ℕ → Bool) (row : List Word) (near : n ≤ o + 1) (by : IsRowBy n member row) where
  last-below : (place : ℕ) → place ≡ o / 64 → IsPast o row → 0 < length row
      → get_or (map (λ (v : Word). v.place) row) (length (map (λ (v : Word). v.place) row) - 1) 0 < place
  last-below place at past some =
      let none : Word = record { place = 0; bits = 0 } in
      let i : ℕ = length row - 1 in
      let inside : i < length row = omega arith in
      let low : (get_or row i none).place * 64 < n = All-get_or (λ (v : Word). v.place * 64 < n) row i none inside by.below in
      let apart = past some in
      rw (length-map row (λ (v : Word). v.place), get_or-map (λ (v : Word). v.place) row i none 0 inside) (omega (arith, low, near, at, apart))

  pub row_push : (place bits : ℕ) → place ≡ o / 64 → bits ≡ 1 * 2 ^ (o % 64) % 2 ^ 64 → 1 ≤ bits → IsPast o row
      → IsRowBy (o + 1) (λ x. member x || x == o) (row ++ record { place = place; bits = bits } ∷ [])
  row_push place bits at is some past =
      let none : Word = record { place = 0; bits = 0 } in
      let w : Word = record { place = place; bits = bits } in
      record {
        rising = places (row ++ w ∷ []) (map (λ (v : Word). v.place) row ++ place ∷ []) (map_push (λ (v : Word). v.place) row w)
            (rising_push (map (λ (v : Word). v.place) row) place by.rising (λ some. last-below place at past (omega (arith, length-map row (λ (v : Word). v.place)))));
        below = All-push (λ (v : Word). v.place * 64 < o + 1) row w (All-weaker (λ (v : Word). v.place * 64 < n) (λ (v : Word). v.place * 64 < o + 1) (λ v h. omega (arith, near, h)) row by.below) (omega (arith, at));
        some = All-push (λ (v : Word). 1 ≤ v.bits) row w by.some some;
        held = λ q h.
            let split : (is_in (map (λ (v : Word). v.place) row) q || ((place == q) || false)) ≡ true =
            sym (ap (λ ps. is_in ps q) (map_push (λ (v : Word). v.place) row w) ∙ any_append (λ p. p == q) (map (λ (v : Word). v.place) row) (place ∷ [])) ∙ h in
            elim (or_cases (is_in (map (λ (v : Word). v.place) row) q) ((place == q) || false) split) [
              | inl old ↦ let x = by.held q old in (x.0, x.1, or_left (member x.0) (x.0 == o) x.2)
              | inr new ↦ (o, sym at ∙ eqb-true place q (sym (or-false (place == q)) ∙ new), or_right (member o) (o == o) (eq-eqb o o refl))
            ];
        exact = λ x. any_append (λ (v : Word). word_has v.place v.bits x) row (w ∷ [])
            ∙ rw (by.exact x, word_new place bits o x at is) (ap (λ b. member x || b) (or-false (x == o)));
      }

  pub row_join : (last : Word) (count : ℕ) → count ≡ length row → 0 < count → last ≡ get_or row (count - 1) last → last.place ≡ o / 64
      → IsRowBy (o + 1) (λ x. member x || x == o) (set row (count - 1) (record { place = last.place; bits = bit_or last.bits (1 * 2 ^ (o % 64) % 2 ^ 64) }))
  row_join last count is some read at =
      let none : Word = record { place = 0; bits = 0 } in
      let i : ℕ = count - 1 in
      let one : ℕ = 1 * 2 ^ (o % 64) % 2 ^ 64 in
      let w : Word = record { place = last.place; bits = bit_or last.bits one } in
      let inside : i < length row = omega arith in
      let here : last ≡ get_or row i none = get_or_read row i last inside read none in
      let place : last.place ≡ get_or (map (λ (v : Word). v.place) row) i 0 = ap (λ (v : Word). v.place) here ∙ sym (get_or-map (λ (v : Word). v.place) row i none 0 inside) in
      let nothing : drop (suc i) row ≡ [] = drop_all (suc i) row (omega arith) in
      let parts : set row i w ≡ take i row ++ w ∷ [] = set_split row i w inside ∙ ap (λ ws. take i row ++ w ∷ ws) nothing in
      let whole : row ≡ take i row ++ last ∷ [] = sym (take_all (i + 1) row (omega arith)) ∙ take_more row i none inside ∙ ap (λ v. take i row ++ v ∷ []) (sym here) in
      let own : (x : ℕ) → row_has row x ≡ (row_has (take i row) x || word_has last.place last.bits x) = λ x.
      ap (λ ws. row_has ws x) whole ∙ any_append (λ (v : Word). word_has v.place v.bits x) (take i row) (last ∷ []) ∙ ap (λ b. row_has (take i row) x || b) (or-false (word_has last.place last.bits x)) in
      record {
        rising = places (set row i w) (map (λ (v : Word). v.place) row)
            (map-set (λ (v : Word). v.place) row i w ∙ ap (set (map (λ (v : Word). v.place) row) i) place ∙ set-get_or (map (λ (v : Word). v.place) row) i 0) by.rising;
        below = All-set (λ (v : Word). v.place * 64 < o + 1) row i w (omega (arith, at)) (All-weaker (λ (v : Word). v.place * 64 < n) (λ (v : Word). v.place * 64 < o + 1) (λ v h. omega (arith, near, h)) row by.below);
        some = All-set (λ (v : Word). 1 ≤ v.bits) row i w (let h : 1 ≤ last.bits = rw here (All-get_or (λ (v : Word). 1 ≤ v.bits) row i none inside by.some) in omega (arith, h, le_or_l last.bits one)) by.some;
        held = λ q h.
            let same : map (λ (v : Word). v.place) (set row i w) ≡ map (λ (v : Word). v.place) row =
            map-set (λ (v : Word). v.place) row i w ∙ ap (set (map (λ (v : Word). v.place) row) i) place ∙ set-get_or (map (λ (v : Word). v.place) row) i 0 in
            let x = by.held q (ap (λ ps. is_in ps q) (sym same) ∙ h) in (x.0, x.1, or_left (member x.0) (x.0 == o) x.2);
        exact = λ x. ap (λ ws. row_has ws x) parts
            ∙ any_append (λ (v : Word). word_has v.place v.bits x) (take i row) (w ∷ [])
            ∙ ap (λ b. row_has (take i row) x || b) (or-false (word_has w.place w.bits x) ∙ word_more last.place last.bits o x at)
            ∙ or_assoc (row_has (take i row) x) (word_has last.place last.bits x) (x == o)
            ∙ ap (λ b. b || x == o) (sym (own x) ∙ by.exact x);
      }

pub one_some : (o : ℕ) → 1 ≤ 1 * 2 ^ (o % 64) % 2 ^ 64
one_some o = elim (cases_lt 0 (1 * 2 ^ (o % 64) % 2 ^ 64)) [
  | inl some ↦ some
  | inr none ↦
      let zero-is : 1 * 2 ^ (o % 64) % 2 ^ 64 ≡ 0 = omega arith in
      let one = eqb-true _ _ (bit_of_one (o % 64) (o % 64) (omega arith) (omega arith) ∙ eq-eqb (o % 64) (o % 64) refl) in
      let off = ap (λ b. bit_at b (o % 64)) zero-is ∙ bit_at-zero (o % 64) in
      absurd (omega (arith, one, off))
]
