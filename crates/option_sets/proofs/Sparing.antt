-- A set that the options of a row leave, but those of a second row.
use Rattle.std.proofs.Common.{◌≡◌, ℕ, suc, ◌+◌, ◌/◌, ◌%◌, ◌^◌, ◌<◌, ◌≤◌, Bool, true, false, not, ◌&&◌, ◌||◌, ◌==◌, List, [], ◌∷◌, length, get_or, set, drop, refl, sym, ap, ◌∙◌, inl, inr, arith, w64, add-one}
use Rattle.std.specs.Prelude.{bit_and}
use Rattle.std.specs.Int.{bit_at, bit_not}
use Rattle.std.specs.List.Sorted.{IsStrictlyIncreasing}
use Rattle.std.proofs.lemmas.Bool.{eqb-true, eq-eqb, ne_eqb, cases_eq, or_cases, or_left, or_right, both_ways, false_from_ne_true}
use Rattle.std.proofs.lemmas.List.{drop_more, length-drop, get_or-drop, at_drop_all}
use Rattle.std.proofs.lemmas.Nat.{and_le_l}
use Rattle.cover_problem.specs.Numbers.{is_in}
use Rattle.option_sets.specs.Rows.{IsPart}
use Rattle.option_sets.specs.Sets.{has, word_has, row_has, places}
use Rattle.option_sets.specs.declared.word.Word.{Word}
use Rattle.option_sets.proofs.Bits.{has-cleared, bit_of_and, bit_of_not, and-true}

-- ---- numbers that rise

pub rising_tail : (p : ℕ) (ps : List ℕ) → IsStrictlyIncreasing (p ∷ ps) → IsStrictlyIncreasing ps
rising_tail p ps h k more =
    let e : k + 1 ≡ suc k = add-one k in
    let f : suc k + 1 ≡ suc (suc k) = add-one (suc k) in
    let g : get_or (p ∷ ps) (suc k) 0 < get_or (p ∷ ps) (suc k + 1) 0 = h (suc k) (omega (arith, more)) in
    let g' : get_or ps k 0 < get_or ps (suc k) 0 = rw f at g in
    rw e g'

pub rising_above : (p : ℕ) (ps : List ℕ) (q : ℕ) → IsStrictlyIncreasing (p ∷ ps) → is_in ps q ≡ true → p < q
rising_above p [] q h e = absurd (both_ways false refl e)
rising_above p (r ∷ rs) q h e =
    let first : p < r = h 0 (omega arith) in
    elim (or_cases (r == q) (is_in rs q) e) [
      | inl here ↦ omega (arith, first, eqb-true r q here)
      | inr there ↦ omega (arith, first, rising_above r rs q (rising_tail p (r ∷ rs) h) there)
    ]

-- a row without a word at the place of an option
pub none-there : (row : List Word) (x : ℕ) → is_in (places row) (x / 64) ≡ false → row_has row x ≡ false
none-there [] x h = refl
none-there (w ∷ ws) x h = elim (cases_eq w.place (x / 64)) [
  | inl e ↦ absurd (both_ways _ h (or_left (w.place == x / 64) (is_in (places ws) (x / 64)) (eq-eqb w.place (x / 64) e)))
  | inr d ↦ let here : (w.place == x / 64) ≡ false = ne_eqb w.place (x / 64) d in rw here (none-there ws x (rw here at h))
]

-- ---- one word

inside : (a b c : Bool) → (a && (b && not c)) ≡ (a && b && not (a && c))
inside true b c = refl
inside false b c = refl

word_less : (p a b x : ℕ) → b < 2 ^ 64 → word_has p (bit_and a (bit_not w64 b)) x ≡ (word_has p a x && not (word_has p b x))
word_less p a b x small =
    ap (λ c. (p == x / 64) && c) (bit_of_and a (bit_not w64 b) (x % 64) ∙ ap (λ c. (bit_at a (x % 64) == 1) && c) (bit_of_not b (x % 64) small (omega arith)))
    ∙ inside (p == x / 64) (bit_at a (x % 64) == 1) (bit_at b (x % 64) == 1)

-- What a set holds in the end: what it has but for the rest of a row, of which the rest of a second row stays.
abbrev pub left_of : List ℕ → List Word → List Word → ℕ → Bool
left_of words row kept x = has words x && not (row_has row x && not (row_has kept x))

-- both rows rise, and the second stands at places of the first
pub record ArePart (row kept : List Word) : Type 0 where
  pub row_rises : IsStrictlyIncreasing (places row)
  pub kept_rises : IsStrictlyIncreasing (places kept)
  pub part : IsPart kept row

-- ---- both rows have a word at a place

together : (h w k r s : Bool) → r ≡ false → s ≡ false → ((h && not (w && not k)) && not (r && not s)) ≡ (h && not ((w || r) && not (k || s)))
together h w k true s e f = absurd (both_ways true e refl)
together h w k false true e f = absurd (both_ways true f refl)
together true true true false false e f = refl
together true true false false false e f = refl
together true false true false false e f = refl
together true false false false false e f = refl
together false w k false false e f = refl

alone : (h w r s : Bool) → r ≡ false → s ≡ false → ((h && not w) && not (r && not s)) ≡ (h && not ((w || r) && not s))
alone h w true s e f = absurd (both_ways true e refl)
alone h w false true e f = absurd (both_ways true f refl)
alone true true false false e f = refl
alone true false false false e f = refl
alone false w false false e f = refl

module _ (words : List ℕ) (w : Word) (row kept : List Word) (in' : w.place < length words) where
  pub both_left : (k : Word) → k.place ≡ w.place → w.bits < 2 ^ 64 → k.bits < 2 ^ 64 → ArePart (w ∷ row) (k ∷ kept) → (x : ℕ)
      → left_of (set words w.place (bit_and (get_or words w.place 0) (bit_not w64 (bit_and w.bits (bit_not w64 k.bits))))) row kept x ≡ left_of words (w ∷ row) (k ∷ kept) x
  both_left k same small also parts x =
      let bits : ℕ = bit_and w.bits (bit_not w64 k.bits) in
      let less : bits < 2 ^ 64 = omega (arith, and_le_l w.bits (bit_not w64 k.bits), small) in
      ap (λ b. b && not (row_has row x && not (row_has kept x))) (has-cleared words w.place bits x in' less ∙ ap (λ b. has words x && not b) (word_less w.place w.bits k.bits x also ∙ ap (λ p. word_has w.place w.bits x && not (word_has p k.bits x)) (sym same)))
      ∙ elim (cases_eq w.place (x / 64)) [
        | inl e ↦ together (has words x) (word_has w.place w.bits x) (word_has k.place k.bits x) (row_has row x) (row_has kept x)
            (none-there row x (false_from_ne_true _ (λ h. omega (arith, e, rising_above w.place (places row) (x / 64) parts.row_rises h))))
            (none-there kept x (false_from_ne_true _ (λ h. omega (arith, e, same, rising_above k.place (places kept) (x / 64) parts.kept_rises h))))
        | inr d ↦
            let here : (w.place == x / 64) ≡ false = ne_eqb w.place (x / 64) d in
            let there : (k.place == x / 64) ≡ false = ne_eqb k.place (x / 64) (λ e. d (sym same ∙ e)) in
            rw (here, there) (ap (λ b. b && not (row_has row x && not (row_has kept x))) (sym (and-true (has words x))))
      ]

  pub both_part : (k : Word) → k.place ≡ w.place → ArePart (w ∷ row) (k ∷ kept) → ArePart row kept
  both_part k same parts = record {
    row_rises = rising_tail w.place (places row) parts.row_rises;
    kept_rises = rising_tail k.place (places kept) parts.kept_rises;
    part = λ p h. elim (or_cases (w.place == p) (is_in (places row) p) (parts.part p (or_right (k.place == p) (is_in (places kept) p) h))) [
      | inl e ↦ absurd (omega (arith, same, eqb-true w.place p e, rising_above k.place (places kept) p parts.kept_rises h))
      | inr r ↦ r
    ];
  }

-- ---- the second row has no word at the place of the first one's

module _ (w : Word) (row : List Word) where
  no_word : (kept : List Word) → ArePart (w ∷ row) kept → (0 < length kept → (get_or kept 0 (record { place = 0; bits = 0 })).place ≡ w.place → ⊥) → is_in (places kept) w.place ≡ false
  no_word [] parts off = refl
  no_word (k ∷ ks) parts off = false_from_ne_true _ (λ h. elim (or_cases (k.place == w.place) (is_in (places ks) w.place) h) [
    | inl e ↦ off (omega arith) (eqb-true k.place w.place e)
    | inr there ↦
        let low : k.place < w.place = rising_above k.place (places ks) w.place parts.kept_rises there in
        elim (or_cases (w.place == k.place) (is_in (places row) k.place) (parts.part k.place (or_left (k.place == k.place) (is_in (places ks) k.place) (eq-eqb k.place k.place refl)))) [
          | inl e ↦ omega (arith, low, eqb-true w.place k.place e)
          | inr r ↦ omega (arith, low, rising_above w.place (places row) k.place parts.row_rises r)
        ]
  ])

module _ (words : List ℕ) (w : Word) (row kept : List Word) (in' : w.place < length words) (parts : ArePart (w ∷ row) kept)
    (off : 0 < length kept → (get_or kept 0 (record { place = 0; bits = 0 })).place ≡ w.place → ⊥) where
  pub one_left : w.bits < 2 ^ 64 → (x : ℕ)
      → left_of (set words w.place (bit_and (get_or words w.place 0) (bit_not w64 w.bits))) row kept x ≡ left_of words (w ∷ row) kept x
  one_left small x =
      ap (λ b. b && not (row_has row x && not (row_has kept x))) (has-cleared words w.place w.bits x in' small)
      ∙ elim (cases_eq w.place (x / 64)) [
        | inl e ↦ alone (has words x) (word_has w.place w.bits x) (row_has row x) (row_has kept x)
            (none-there row x (false_from_ne_true _ (λ h. omega (arith, e, rising_above w.place (places row) (x / 64) parts.row_rises h))))
            (none-there kept x (rw (← e) (no_word w row kept parts off)))
        | inr d ↦
            let here : (w.place == x / 64) ≡ false = ne_eqb w.place (x / 64) d in
            rw here (ap (λ b. b && not (row_has row x && not (row_has kept x))) (sym (and-true (has words x))))
      ]

  pub one_part : ArePart row kept
  one_part = record {
    row_rises = rising_tail w.place (places row) parts.row_rises;
    kept_rises = parts.kept_rises;
    part = λ p h. elim (or_cases (w.place == p) (is_in (places row) p) (parts.part p h)) [
      | inl e ↦ absurd (both_ways _ (no_word w row kept parts off) (rw (eqb-true w.place p e) h))
      | inr r ↦ r
    ];
  }

-- ---- the loop

pub record IsClearing (start : List ℕ) (row kept : List Word) (words : List ℕ) (i next : ℕ) : Type 0 where
  pub left : (x : ℕ) → left_of words (drop i row) (drop next kept) x ≡ left_of start row kept x
  pub parts : ArePart (drop i row) (drop next kept)

abbrev none : Word
none = record { place = 0; bits = 0 }

abbrev word_at : List Word → ℕ → Word
word_at row i = get_or row i (record { place = 0; bits = 0 })

first_of_drop : (ws : List Word) (n : ℕ) → get_or ws n (record { place = 0; bits = 0 }) ≡ get_or (drop n ws) 0 (record { place = 0; bits = 0 })
first_of_drop ws n = let e : n + 0 ≡ n = omega arith in ap (λ m. get_or ws m (record { place = 0; bits = 0 })) (sym e) ∙ sym (get_or-drop n ws 0 (record { place = 0; bits = 0 }))

module _ (start : List ℕ) (row kept : List Word) (words : List ℕ) (i next : ℕ) (before : IsClearing start row kept words i next)
    (more : i < length row) (in' : (get_or row i (record { place = 0; bits = 0 })).place < length words)
    (small : (get_or row i (record { place = 0; bits = 0 })).bits < 2 ^ 64) where
  abbrev w : Word
  w = word_at row i

  row_more : drop i row ≡ word_at row i ∷ drop (i + 1) row
  row_more = drop_more row i none more

  pub both_step : (words' : List ℕ) (next' : ℕ) → next < length kept → (get_or kept next (record { place = 0; bits = 0 })).place ≡ (get_or row i (record { place = 0; bits = 0 })).place
      → (get_or kept next (record { place = 0; bits = 0 })).bits < 2 ^ 64
      → words' ≡ set words (word_at row i).place (bit_and (get_or words (word_at row i).place 0) (bit_not w64 (bit_and (word_at row i).bits (bit_not w64 (word_at kept next).bits))))
      → next' ≡ next + 1 → IsClearing start row kept words' (i + 1) next'
  both_step words' next' further same also is is-next =
      let k : Word = word_at kept next in
      let kept_more : drop next kept ≡ word_at kept next ∷ drop (next + 1) kept = drop_more kept next none further in
      let parts : ArePart (word_at row i ∷ drop (i + 1) row) (word_at kept next ∷ drop (next + 1) kept) = rw kept_more at (rw row_more at before.parts) in
      rw (is, is-next) (record {
        left = λ x. both_left words w (drop (i + 1) row) (drop (next + 1) kept) in' k same small also parts x ∙ ap (λ ws. left_of words ws (word_at kept next ∷ drop (next + 1) kept) x) (sym row_more) ∙ ap (λ ks. left_of words (drop i row) ks x) (sym kept_more) ∙ before.left x;
        parts = both_part words w (drop (i + 1) row) (drop (next + 1) kept) in' k same parts;
      })

  pub one_step : (words' : List ℕ) (next' : ℕ) → (next < length kept → (get_or kept next (record { place = 0; bits = 0 })).place ≡ (get_or row i (record { place = 0; bits = 0 })).place → ⊥)
      → words' ≡ set words (word_at row i).place (bit_and (get_or words (word_at row i).place 0) (bit_not w64 (word_at row i).bits))
      → next' ≡ next → IsClearing start row kept words' (i + 1) next'
  one_step words' next' off is is-next =
      let parts : ArePart (word_at row i ∷ drop (i + 1) row) (drop next kept) = rw row_more at before.parts in
      let away : 0 < length (drop next kept) → (get_or (drop next kept) 0 (record { place = 0; bits = 0 })).place ≡ w.place → ⊥ = λ some e.
      off (omega (arith, some, length-drop next kept)) (ap (λ (v : Word). v.place) (first_of_drop kept next) ∙ e) in
      rw (is, is-next) (record {
        left = λ x. one_left words w (drop (i + 1) row) (drop next kept) in' parts away small x ∙ ap (λ ws. left_of words ws (drop next kept) x) (sym row_more) ∙ before.left x;
        parts = one_part words w (drop (i + 1) row) (drop next kept) in' parts away;
      })

pub cleared_all : (start : List ℕ) (row kept : List Word) (words : List ℕ) (i next : ℕ) → IsClearing start row kept words i next → length row ≤ i
    → (x : ℕ) → has words x ≡ left_of start row kept x
cleared_all start row kept words i next by end x =
    and-true (has words x) ∙ sym (at_drop_all (λ (ws : List Word). left_of words ws (drop next kept) x) row i end) ∙ by.left x
