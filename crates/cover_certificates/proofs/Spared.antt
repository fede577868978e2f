-- Options that are live in two cases, word by word.
use Rattle.std.proofs.Common.{◌≡◌, ℕ, ◌+◌, ◌/◌, ◌%◌, ◌^◌, ◌<◌, ◌≤◌, true, ◌==◌, ◌⊎◌, List, length, get_or, drop, sym, ap, ◌∙◌, inl, inr, ⊎_elim, arith, w64}
use Rattle.std.specs.Prelude.{bit_and}
use Rattle.std.specs.Int.{bit_at, bit_not}
use Rattle.std.proofs.lemmas.Bool.{eqb-true, and_parts, and_from, cases_Bool, or_cases, not_from_false, true≢false}
use Rattle.std.proofs.lemmas.Nat.Bits.{bit_at-zero}
use Rattle.std.proofs.lemmas.List.{at_drop_more, at_drop_all}
use Rattle.option_sets.specs.Sets.{has, word_has, row_has}
use Rattle.option_sets.specs.declared.word.Word.{Word}
use Rattle.option_sets.proofs.Bits.{bit_of_and, bit_of_not}

-- where no option of a word is in one set and not in another
pub word_spared : (place bits a b : ℕ) (live other : List ℕ) → b < 2 ^ 64 → a ≡ get_or live place 0 → b ≡ get_or other place 0
    → (bit_and (bit_and bits a) (bit_not w64 b) == 0) ≡ true → (x : ℕ) → word_has place bits x ≡ true → has live x ≡ true → has other x ≡ true
word_spared place bits a b live other small at_live at_other none x here lives =
    let i : ℕ = x % 64 in
    let parts = and_parts (place == x / 64) (bit_at bits i == 1) here in
    let at : place ≡ x / 64 = eqb-true place (x / 64) parts.0 in
    let live_bit : (bit_at a i == 1) ≡ true = ap (λ n. bit_at n i == 1) (at_live ∙ ap (λ k. get_or live k 0) at) ∙ lives in
    let other_bit : (bit_at b i == 1) ≡ has other x = ap (λ n. bit_at n i == 1) (at_other ∙ ap (λ k. get_or other k 0) at) in
    elim (cases_Bool (has other x)) [
      | inl spared ↦ spared
      | inr bare ↦
          let left : (bit_at (bit_and (bit_and bits a) (bit_not w64 b)) i == 1) ≡ true =
          bit_of_and (bit_and bits a) (bit_not w64 b) i
          ∙ and_from _ _ (bit_of_and bits a i ∙ and_from _ _ parts.1 live_bit) (bit_of_not b i small (omega arith) ∙ not_from_false _ (other_bit ∙ bare)) in
          let zero_word : (bit_at 0 i == 1) ≡ true = ap (λ n. bit_at n i == 1) (sym (eqb-true (bit_and (bit_and bits a) (bit_not w64 b)) 0 none)) ∙ left in
          absurd (omega (arith, eqb-true (bit_at 0 i) 1 zero_word, bit_at-zero i))
    ]

-- an option of a row that is in one set is in another, or stands further on in the row
abbrev pub AreSpared : List Word → List ℕ → List ℕ → ℕ → Type 0
AreSpared row live other k = (x : ℕ) → row_has row x ≡ true → has live x ≡ true → (has other x ≡ true) ⊎ (row_has (drop k row) x ≡ true)

pub spared_none : (row : List Word) (live other : List ℕ) → AreSpared row live other 0
spared_none row live other x on lives = inr on

pub spared_one : (row : List Word) (live other : List ℕ) (k : ℕ) (d : Word) → k < length row
    → ((x : ℕ) → word_has (get_or row k d).place (get_or row k d).bits x ≡ true → has live x ≡ true → has other x ≡ true)
    → AreSpared row live other k → AreSpared row live other (k + 1)
spared_one row live other k d more word so_far x on lives =
    ⊎_elim
    (λ (done : has other x ≡ true). inl done)
    (λ (left : row_has (drop k row) x ≡ true).
    let w : Word = get_or row k d in
    ⊎_elim
    (λ (here : word_has w.place w.bits x ≡ true). inl (word x here lives))
    (λ (further : row_has (drop (k + 1) row) x ≡ true). inr further)
    (or_cases (word_has w.place w.bits x) (row_has (drop (k + 1) row) x) (sym (at_drop_more (λ (ws : List Word). row_has ws x) row k d more) ∙ left)))
    (so_far x on lives)

pub spared_all : (row : List Word) (live other : List ℕ) (k : ℕ) → length row ≤ k → AreSpared row live other k → (x : ℕ) → row_has row x ≡ true → has live x ≡ true → has other x ≡ true
spared_all row live other k end so_far x on lives =
    ⊎_elim
    (λ (done : has other x ≡ true). done)
    (λ (left : row_has (drop k row) x ≡ true). absurd (true≢false (sym left ∙ at_drop_all (λ (ws : List Word). row_has ws x) row k end)))
    (so_far x on lives)
