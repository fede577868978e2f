-- The lowest option of a word, and what is left behind it.
use Rattle.std.proofs.Common.{◌≡◌, ℕ, ◌+◌, ◌*◌, ◌/◌, ◌%◌, ◌^◌, ◌<◌, ◌≤◌, List, length, Bool, true, false, ◌==◌, ◌&&◌, ◌||◌, All, bit_and, refl, arith, sym, ap, ◌∙◌, inl, inr, subst, w64}
use Rattle.std.specs.Int.{bit_at, bit_not, trailing_zeros}
use Rattle.std.proofs.lemmas.Bool.{cases_eq, cases_order, eq-eqb, ne_eqb, and_left, lt-ltb, le-ltb, or_left}
use Rattle.std.proofs.lemmas.List.Elements.{All-weaker}
use Rattle.std.proofs.lemmas.List.Folds.{list_any_none}
use Rattle.std.proofs.lemmas.Nat.{and_le_l}
use Rattle.std.proofs.lemmas.Nat.Bits.{bit_at-trailing_zeros, bit_at_clear_same, bit_at_clear_other}
use Rattle.option_sets.specs.declared.word.Word.{Word}
use Rattle.option_sets.specs.Sets.{has, row_has, word_has}
use Rattle.live_sets.specs.declared.untried.Untried.{Untried}
use Rattle.live_sets.specs.Trying.{AreBehind, IsTrying, IsNextAt}

-- words behind a place have no option up to there
pub none_behind : (row : List Word) (place x : ℕ) → All (λ (w : Word). place < w.place) row → x / 64 ≤ place → row_has row x ≡ false
none_behind row place x behind upto =
    let test : Word → Bool = λ w. word_has w.place w.bits x in
    let P : Word → Type 0 = λ w. place < w.place in
    let Q : Word → Type 0 = λ w. test w ≡ false in
    list_any_none test row (All-weaker P Q (λ w more. and_left (w.place == x / 64) (bit_at w.bits (x % 64) == 1) (ne_eqb w.place (x / 64) (λ e. omega (arith, e, more, upto)))) row behind)

pub lowest_next : (u rest : Untried) (live : List ℕ) (t option : ℕ) → IsTrying (length live) u → 1 ≤ u.bits → t ≡ trailing_zeros w64 u.bits → option ≡ u.place * 64 + t → rest.place ≡ u.place → rest.bits ≡ bit_and u.bits (bit_not w64 (1 * 2 ^ t % 2 ^ 64)) → rest.later.now ≡ u.later.now → IsNextAt u live option rest
lowest_next u rest live t option is some tz at place bits later =
    let low = bit_at-trailing_zeros w64 u.bits some is.small in
    let inside : t < 64 = omega (arith, low.0, tz) in
    let set : bit_at u.bits t ≡ 1 = ap (bit_at u.bits) tz ∙ low.1 in
    let clear : (i : ℕ) → i < t → bit_at u.bits i ≡ 0 = (λ i h. low.2 i (omega (arith, h, tz))) in
    let behind = is.apart some in
    let word : option / 64 ≡ u.place = omega (arith, at, inside) in
    let bit : option % 64 ≡ t = omega (arith, at, inside) in
    let cut : ℕ = bit_and u.bits (bit_not w64 (1 * 2 ^ t % 2 ^ 64)) in
    let less : rest.bits ≤ u.bits = omega (arith, bits, and_le_l u.bits (bit_not w64 (1 * 2 ^ t % 2 ^ 64))) in
    let here_in : word_has u.place u.bits option ≡ true = rw (eq-eqb u.place (option / 64) (sym word), eq-eqb (bit_at u.bits (option % 64)) 1 (ap (bit_at u.bits) bit ∙ set)) refl in
    let other_word : (n x : ℕ) → (u.place ≡ x / 64 → ⊥) → word_has u.place n x ≡ false = (λ n x h. and_left (u.place == x / 64) (bit_at n (x % 64) == 1) (ne_eqb u.place (x / 64) h)) in
    let same_word : (n x : ℕ) → u.place ≡ x / 64 → word_has u.place n x ≡ (bit_at n (x % 64) == 1) = (λ n x h. ap (λ b. b && (bit_at n (x % 64) == 1)) (eq-eqb u.place (x / 64) h)) in
    let no_later : (x : ℕ) → x / 64 ≤ u.place → (row_has u.later.now x && has live x) ≡ false = (λ x h. and_left (row_has u.later.now x) (has live x) (none_behind u.later.now u.place x behind h)) in
    record {
      here = or_left (word_has u.place u.bits option) (row_has u.later.now option && has live option) here_in;
      before = λ x less.
          let first : word_has u.place u.bits x ≡ false = elim (cases_eq u.place (x / 64)) [
            | inl same ↦ same_word u.bits x same ∙ ne_eqb (bit_at u.bits (x % 64)) 1 (λ e. omega (arith, e, clear (x % 64) (omega (arith, less, same, at))))
            | inr other ↦ other_word u.bits x other
          ] in
          ap (λ b. b || (row_has u.later.now x && has live x)) first ∙ no_later x (omega (arith, less, word));
      trying = record {
        behind = let P : List Word → Type 0 = λ r. AreBehind (length live) r in subst P (sym later) is.behind;
        small = omega (arith, less, is.small);
        inside = λ h. omega (arith, place, is.inside some);
        apart = λ h.
            let P : List Word → Type 0 = λ r. All (λ (w : Word). rest.place < w.place) r in
            let Q : ℕ → Type 0 = λ n. All (λ (w : Word). n < w.place) u.later.now in
            subst P (sym later) (subst Q (sym place) behind);
      };
      left = λ x.
          ap (λ n. word_has n rest.bits x || (row_has rest.later.now x && has live x)) place
          ∙ ap (λ n. word_has u.place n x || (row_has rest.later.now x && has live x)) bits
          ∙ ap (λ (r : List Word). word_has u.place (bit_and u.bits (bit_not w64 (1 * 2 ^ t % 2 ^ 64))) x || (row_has r x && has live x)) later
          ∙ elim (cases_order u.place (x / 64)) [
            | inl same ↦
                rw (no_later x (omega (arith, same)), same_word cut x same, same_word u.bits x same)
                (elim (cases_order t (x % 64)) [
                  | inl last ↦
                      let gone : bit_at cut (x % 64) ≡ 0 = ap (bit_at cut) (sym last) ∙ bit_at_clear_same w64 u.bits t inside in
                      rw (ne_eqb (bit_at cut (x % 64)) 1 (λ e. omega (arith, e, gone)), le-ltb option x (omega (arith, last, same, at))) refl
                  | inr (inl more) ↦
                      let kept : bit_at cut (x % 64) ≡ bit_at u.bits (x % 64) = bit_at_clear_other w64 u.bits t inside (x % 64) (omega arith) (λ e. omega (arith, e, more)) in
                      rw (kept, lt-ltb option x (omega (arith, more, same, at))) refl
                  | inr (inr lower) ↦
                      let kept : bit_at cut (x % 64) ≡ bit_at u.bits (x % 64) = bit_at_clear_other w64 u.bits t inside (x % 64) (omega arith) (λ e. omega (arith, e, lower)) in
                      rw (kept, ne_eqb (bit_at u.bits (x % 64)) 1 (λ e. omega (arith, e, clear (x % 64) lower)), le-ltb option x (omega (arith, lower, same, at))) refl
                ])
            | inr (inl above) ↦ rw (other_word cut x (λ e. omega (arith, e, above)), other_word u.bits x (λ e. omega (arith, e, above)), lt-ltb option x (omega (arith, above, word))) refl
            | inr (inr below) ↦ rw (other_word cut x (λ e. omega (arith, e, below)), other_word u.bits x (λ e. omega (arith, e, below)), no_later x (omega (arith, below)), le-ltb option x (omega (arith, below, word))) refl
          ];
    }
