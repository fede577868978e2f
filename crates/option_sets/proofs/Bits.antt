-- Bits of the words of sets.
use Rattle.std.proofs.Common.{◌≡◌, ℕ, ◌+◌, ◌*◌, ◌/◌, ◌%◌, ◌^◌, ◌<◌, ◌≤◌, Bool, true, false, not, ◌&&◌, ◌||◌, ◌==◌, List, length, get_or, set, drop, cond, refl, sym, ap, ◌∙◌, inl, inr, arith, rules, w64, get_or-set_same, get_or-set_other}
use Rattle.std.specs.Prelude.{bit_and, bit_or}
use Rattle.std.specs.Int.{bit_at, bit_not}
use Rattle.std.proofs.lemmas.Bool.{eqb-true, eq-eqb, ne_eqb, cases_eq, cases_lt, and_parts, and_from, or_cases, or_left, or_right}
use Rattle.std.proofs.lemmas.Nat.Bits.{bit_at_and, bit_at_or, bit_at_not, bit_at-lt, bit_at_set_same, bit_at_set_other, bit_at-zero}
use Rattle.cover_problem.proofs.Basics.{same_truth}
use Rattle.std.proofs.lemmas.List.{at_drop_more, at_drop_all, get_or_past}
use Rattle.option_sets.specs.Sets.{has, word_has, row_has}
use Rattle.option_sets.specs.declared.word.Word.{Word}

pub bit_of_and : (a b i : ℕ) → (bit_at (bit_and a b) i == 1) ≡ (bit_at a i == 1 && bit_at b i == 1)
bit_of_and a b i = same_truth _ _
    (λ h. and_from (bit_at a i == 1) (bit_at b i == 1)
    (eq-eqb (bit_at a i) 1 (omega (arith, eqb-true _ _ h, bit_at_and a b i, bit_at-lt a i, bit_at-lt b i)))
    (eq-eqb (bit_at b i) 1 (omega (arith, eqb-true _ _ h, bit_at_and a b i, bit_at-lt a i, bit_at-lt b i))))
    (λ h. let both = and_parts (bit_at a i == 1) (bit_at b i == 1) h in
    eq-eqb (bit_at (bit_and a b) i) 1 (omega (arith, eqb-true (bit_at a i) 1 both.0, eqb-true (bit_at b i) 1 both.1, bit_at_and a b i)))

pub bit_of_or : (a b i : ℕ) → (bit_at (bit_or a b) i == 1) ≡ (bit_at a i == 1 || bit_at b i == 1)
bit_of_or a b i = same_truth _ _
    (λ h. elim (cases_eq (bit_at a i) 1) [
      | inl e ↦ or_left (bit_at a i == 1) (bit_at b i == 1) (eq-eqb (bit_at a i) 1 e)
      | inr n ↦ or_right (bit_at a i == 1) (bit_at b i == 1) (eq-eqb (bit_at b i) 1 (omega (arith, n, eqb-true _ _ h, bit_at_or a b i, bit_at-lt a i, bit_at-lt b i)))
    ])
    (λ h. eq-eqb (bit_at (bit_or a b) i) 1 (elim (or_cases (bit_at a i == 1) (bit_at b i == 1) h) [
      | inl e ↦ omega (arith, eqb-true (bit_at a i) 1 e, bit_at_or a b i, bit_at-lt b i)
      | inr e ↦ omega (arith, eqb-true (bit_at b i) 1 e, bit_at_or a b i, bit_at-lt a i)
    ]))

pub bit_of_not : (a i : ℕ) → a < 2 ^ 64 → i < 64 → (bit_at (bit_not w64 a) i == 1) ≡ not (bit_at a i == 1)
bit_of_not a i small inside =
    let n = bit_at_not w64 a i small inside in
    elim (cases_eq (bit_at a i) 1) [
      | inl e ↦ rw (eq-eqb (bit_at a i) 1 e) (ne_eqb (bit_at (bit_not w64 a) i) 1 (λ f. omega (arith, e, f, n)))
      | inr d ↦ rw (ne_eqb (bit_at a i) 1 d) (eq-eqb (bit_at (bit_not w64 a) i) 1 (omega (arith, d, n, bit_at-lt a i)))
    ]

or-none : (n : ℕ) → bit_or 0 n ≡ n
or-none n = search (arith, rules)

-- the word of one option
pub bit_of_one : (k i : ℕ) → k < 64 → i < 64 → (bit_at (1 * 2 ^ k % 2 ^ 64) i == 1) ≡ (i == k)
bit_of_one k i small inside =
    let same = bit_at_set_same w64 0 k small in
    let other = bit_at_set_other w64 0 k small i in
    elim (cases_eq i k) [
      | inl e ↦ rw (e, eq-eqb k k refl) (eq-eqb (bit_at (1 * 2 ^ k % 2 ^ 64) k) 1 (rw or-none at same))
      | inr d ↦ rw (ne_eqb i k d) (ne_eqb (bit_at (1 * 2 ^ k % 2 ^ 64) i) 1 (λ f. omega (arith, f, rw or-none at other d, bit_at-zero i)))
    ]

-- a word that is written
pub has-set : (words : List ℕ) (p v x : ℕ) → p < length words → has (set words p v) x ≡ cond (p == x / 64) (bit_at v (x % 64) == 1) (has words x)
has-set words p v x inside =
    elim (cases_eq p (x / 64)) [
      | inl e ↦ rw (eq-eqb p (x / 64) e) (let h : x / 64 < length words = omega arith in rw e (ap (λ w. bit_at w (x % 64) == 1) (get_or-set_same words (x / 64) v 0 h)))
      | inr d ↦ rw (ne_eqb p (x / 64) d) (let ne : (x / 64 ≡ p → ⊥) = λ e. d (sym e) in ap (λ w. bit_at w (x % 64) == 1) (get_or-set_other words p (x / 64) v 0 ne))
    ]

-- ---- sets of which the options of a word are taken out

pub and-true : (a : Bool) → a ≡ a && true
and-true true = refl
and-true false = refl

pub out : (a b c : Bool) → a && not (b || c) ≡ a && not b && not c
out true true c = refl
out true false c = refl
out false true c = refl
out false false c = refl

pub has-cleared : (words : List ℕ) (p bits x : ℕ) → p < length words → bits < 2 ^ 64
    → has (set words p (bit_and (get_or words p 0) (bit_not w64 bits))) x ≡ has words x && not (word_has p bits x)
has-cleared words p bits x inside small =
    has-set words p (bit_and (get_or words p 0) (bit_not w64 bits)) x inside
    ∙ elim (cases_eq p (x / 64)) [
      | inl e ↦ rw (eq-eqb p (x / 64) e, bit_of_and (get_or words p 0) (bit_not w64 bits) (x % 64), bit_of_not bits (x % 64) small (omega arith), e) refl
      | inr d ↦ rw (ne_eqb p (x / 64) d) (and-true (has words x))
    ]

-- one word of a row, and what is left of the row
pub row_cleared : (words : List ℕ) (row : List Word) (i : ℕ) (d : Word) (x : ℕ) → i < length row → (get_or row i d).place < length words → (get_or row i d).bits < 2 ^ 64
    → has (set words (get_or row i d).place (bit_and (get_or words (get_or row i d).place 0) (bit_not w64 (get_or row i d).bits))) x && not (row_has (drop (i + 1) row) x) ≡ has words x && not (row_has (drop i row) x)
row_cleared words row i d x more inside small =
    let w : Word = get_or row i d in
    ap (λ b. b && not (row_has (drop (i + 1) row) x)) (has-cleared words w.place w.bits x inside small)
    ∙ sym (out (has words x) (word_has w.place w.bits x) (row_has (drop (i + 1) row) x))
    ∙ sym (at_drop_more (λ (ws : List Word). has words x && not (row_has ws x)) row i d more)

pub row_done : (words : List ℕ) (row : List Word) (i x : ℕ) → length row ≤ i → has words x ≡ has words x && not (row_has (drop i row) x)
row_done words row i x end = and-true (has words x) ∙ sym (at_drop_all (λ (ws : List Word). has words x && not (row_has ws x)) row i end)

none-has : (i : ℕ) (b : Bool) → (bit_at 0 i == 1) ≡ ((bit_at 0 i == 1) && b)
none-has i b = rw (bit_at-zero i) refl

-- what two sets have in common
pub has-met : (first second words : List ℕ) → length first ≡ length words → length second ≡ length words
    → ((k : ℕ) → k < length words → get_or words k 0 ≡ bit_and (get_or first k 0) (get_or second k 0))
    → (x : ℕ) → has words x ≡ has first x && has second x
has-met first second words long also each x =
    elim (cases_lt (x / 64) (length words)) [
      | inl inside ↦ ap (λ w. bit_at w (x % 64) == 1) (each (x / 64) inside) ∙ bit_of_and (get_or first (x / 64) 0) (get_or second (x / 64) 0) (x % 64)
      | inr past ↦
          let a : length first ≤ x / 64 = omega arith in
          rw (get_or_past words (x / 64) 0 past, get_or_past first (x / 64) 0 a) (none-has (x % 64) _)
    ]
