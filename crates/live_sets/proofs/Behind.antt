-- What is left of a row behind an option, while the options up to there are passed.
use Rattle.std.proofs.Common.{◌≡◌, ℕ, ◌+◌, ◌/◌, ◌%◌, ◌==◌, ◌<◌, ◌≤◌, List, length, false, ◌&&◌, ◌||◌, arith, sym, ap, ◌∙◌, inl, inr, subst}
use Rattle.std.specs.Int.{bit_at}
use Rattle.std.proofs.lemmas.Bool.{cases_lt, and_right, ne_eqb, both_ways, lt-ltb, le-ltb}
use Rattle.std.proofs.lemmas.Nat.Bits.{bit_at-zero}
use Rattle.option_sets.specs.declared.word.Word.{Word}
use Rattle.option_sets.specs.Sets.{has, row_has, word_has}
use Rattle.live_sets.specs.declared.untried.Untried.{Untried}
use Rattle.live_sets.specs.Trying.{AreBehind, IsBehind, IsTrying, IsNextAt, is_left}

-- options below a number are passed, and those behind the option are left
pub record IsPassing (row : List Word) (live : List ℕ) (option n : ℕ) (u : Untried) : Type 0 where
  pub trying : IsTrying (length live) u
  pub low : (x : ℕ) → x < n → is_left u live x ≡ false
  pub high : (x : ℕ) → option < x → is_left u live x ≡ (row_has row x && has live x)

pub nothing : (place x : ℕ) → word_has place 0 x ≡ false
nothing place x = and_right (place == x / 64) (bit_at 0 (x % 64) == 1) (ne_eqb (bit_at 0 (x % 64)) 1 (λ h. omega (arith, bit_at-zero (x % 64), h)))

-- a row of which nothing is passed
pub passing_none : (row : List Word) (live : List ℕ) (option : ℕ) (u : Untried) → AreBehind (length live) row → u.bits ≡ 0 → u.later.now ≡ row → IsPassing row live option 0 u
passing_none row live option u are empty later = record {
  trying = record {
    behind = let P : List Word → Type 0 = λ r. AreBehind (length live) r in subst P (sym later) are;
    small = omega (arith, empty);
    inside = λ h. absurd (omega (arith, h, empty));
    apart = λ h. absurd (omega (arith, h, empty));
  };
  low = λ x less. absurd (omega (arith, less));
  high = λ x more.
      ap (λ n. word_has u.place n x || (row_has u.later.now x && has live x)) empty
      ∙ ap (λ b. b || (row_has u.later.now x && has live x)) (nothing u.place x)
      ∙ ap (λ (r : List Word). row_has r x && has live x) later;
}

-- the first option that is left isn't below the number
first_high : (row : List Word) (live : List ℕ) (option n next : ℕ) (u rest : Untried) → IsPassing row live option n u → IsNextAt u live next rest → n ≤ next
first_high row live option n next u rest before at = elim (cases_lt next n) [
  | inl less ↦ absurd (both_ways (is_left u live next) (before.low next less) at.here)
  | inr more ↦ more
]

-- one more option is passed
pub passing_next : (row : List Word) (live : List ℕ) (option n next : ℕ) (u rest : Untried) → IsPassing row live option n u → IsNextAt u live next rest → next ≤ option → IsPassing row live option (n + 1) rest
passing_next row live option n next u rest before at inside =
    let high = first_high row live option n next u rest before at in
    record {
      trying = at.trying;
      low = λ x less. at.left x ∙ ap (λ b. b && is_left u live x) (le-ltb next x (omega (arith, less, high)));
      high = λ x more. at.left x ∙ ap (λ b. b && is_left u live x) (lt-ltb next x (omega (arith, more, inside))) ∙ before.high x more;
    }

by_sides : (row : List Word) (live : List ℕ) (option n : ℕ) (u : Untried) → IsPassing row live option n u → ((x : ℕ) → x ≤ option → is_left u live x ≡ false) → IsBehind row live option u
by_sides row live option n u before none = record {
  trying = before.trying;
  left = λ x. elim (cases_lt option x) [
    | inl more ↦ before.high x more ∙ ap (λ b. b && (row_has row x && has live x)) (sym (lt-ltb option x more))
    | inr less ↦ none x less ∙ ap (λ b. b && (row_has row x && has live x)) (sym (le-ltb option x less))
  ];
}

-- all options up to there are passed
pub behind_all : (row : List Word) (live : List ℕ) (option n : ℕ) (u : Untried) → IsPassing row live option n u → option < n → IsBehind row live option u
behind_all row live option n u before end = by_sides row live option n u before (λ x less. before.low x (omega (arith, less, end)))

-- the first one that is left comes behind the option
pub behind_next : (row : List Word) (live : List ℕ) (option n next : ℕ) (u rest : Untried) → IsPassing row live option n u → IsNextAt u live next rest → option < next → IsBehind row live option u
behind_next row live option n next u rest before at past = by_sides row live option n u before (λ x less. at.before x (omega (arith, less, past)))

-- none is left
pub behind_none : (row : List Word) (live : List ℕ) (option n : ℕ) (u : Untried) → IsPassing row live option n u → ((x : ℕ) → is_left u live x ≡ false) → IsBehind row live option u
behind_none row live option n u before none = by_sides row live option n u before (λ x less. none x)
