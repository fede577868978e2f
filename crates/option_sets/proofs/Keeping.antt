-- Of each option the set of those that it leaves, while they are made in turn, one behind the other.
use Rattle.std.proofs.Common.{◌≡◌, ℕ, ◌+◌, ◌*◌, ◌/◌, ◌%◌, ◌^◌, ◌-◌, ◌<◌, ◌≤◌, Bool, true, false, not, ◌&&◌, ◌==◌, List, length, take, drop, refl, sym, ap, ◌∙◌, inl, inr, arith, add-one, suc-mul, mul-le-mul_right, length-take-le, length-drop, subst}
use Rattle.std.specs.Int.{bit_at}
use Rattle.std.specs.List.{All}
use Rattle.std.proofs.lemmas.Bool.{cases_lt, eq-eqb}
use Rattle.std.proofs.lemmas.List.{get_or-take, get_or-drop, get_or_past, drop-take, drop-drop}
use Rattle.std.proofs.lemmas.List.Elements.{All-get_or}
use Rattle.std.proofs.lemmas.Nat.Bits.{bit_at_ones, bit_at-zero}
use borrow.Rule.Slice.PartMut.{put_mid}
use Rattle.std.proofs.lemmas.Slice.{take-put_mid_below, drop-put_mid, between-put_mid}
use Rattle.cover_problem.specs.Prefix.{clash}
use Rattle.cover_problem.specs.Problem.{Problem, IsProblem}
use Rattle.option_sets.specs.Sets.{has, words_of}
use Rattle.option_sets.specs.ClashTables.{IsKept, AreAllKept, AreKept, set_at}

-- ---- sets of one width, one behind the other

-- how far a set goes
pub set_end : (w o : ℕ) → (o + 1) * w ≡ o * w + w
set_end w o = ap (λ n. n * w) (add-one o) ∙ omega (arith, suc-mul o w)

-- the set of an option ends where the next one begins, or before
pub set_low : (w o n : ℕ) → o < n → o * w + w ≤ n * w
set_low w o n low = let le : (o + 1) * w ≤ n * w = mul-le-mul_right w (omega (arith, low)) in omega (arith, set_end w o, le)

pub set_long : (w o : ℕ) (sets : List ℕ) → o * w + w ≤ length sets → length (set_at w o sets) ≡ w
set_long w o sets inside = length-take-le w (drop (o * w) sets) (omega (arith, inside, length-drop (o * w) sets))

-- where the set of an option stands, and how much room all take
pub set_inside : (p : Problem) (w n : ℕ) → w ≡ words_of p → n < length p.options → n * w + w ≤ length p.options * words_of p
set_inside p w n is low = subst (λ v. n * w + w ≤ length p.options * v) is (set_low w n (length p.options) low)

-- the same for an option below the number of all, which is that of an equal problem
pub next_inside : (p q : Problem) (w n count : ℕ) → w ≡ words_of p → n < count → count ≡ length q.options → q ≡ p → n * w + w ≤ length p.options * words_of p
next_inside p q w n count is low all same = set_inside p w n is (omega (arith, low, all, ap (λ (z : Problem). length z.options) same))

pub sets_few : (p : Problem) → IsProblem p → length p.options * words_of p ≤ 20000 * 313
sets_few p is =
    let le : length p.options * words_of p ≤ 20000 * words_of p = mul-le-mul_right (words_of p) is.options in
    omega (arith, le, is.options)

-- ---- once one of them is written

set_before : (w o n k : ℕ) (sets set : List ℕ) → o < n → n * w ≤ length sets → set_at w o (put_mid (n * w) k sets set) ≡ set_at w o sets
set_before w o n k sets set low inside =
    sym (drop-take (o * w) w (put_mid (n * w) k sets set))
    ∙ ap (drop (o * w)) (take-put_mid_below (n * w) k sets set (o * w + w) (set_low w o n low) inside)
    ∙ drop-take (o * w) w sets

set_here : (w n k : ℕ) (sets set : List ℕ) → n * w ≤ length sets → length set ≡ w → set_at w n (put_mid (n * w) k sets set) ≡ set
set_here w n k sets set inside long =
    let e : n * w + w - n * w ≡ w = omega arith in
    ap (λ m. take m (drop (n * w) (put_mid (n * w) k sets set))) (sym e)
    ∙ between-put_mid (n * w) k sets set (n * w + w) inside (long ∙ sym e)

rest_behind : (w n k : ℕ) (sets set : List ℕ) → n * w ≤ length sets → length set ≡ w → k ≡ w → drop ((n + 1) * w) (put_mid (n * w) k sets set) ≡ drop ((n + 1) * w) sets
rest_behind w n k sets set inside long is =
    drop-put_mid (n * w) k sets set ((n + 1) * w) (omega (arith, is, set_end w n)) inside (long ∙ sym is)

-- ---- sets that are made in turn

-- the first options have made their sets what they leave, and the rest is as at the start
pub record AreFirstKept (p : Problem) (w : ℕ) (start sets : List ℕ) (n : ℕ) : Type 0 where
  pub done : (o : ℕ) → o < n → IsKept p o (set_at w o sets)
  pub rest : drop (n * w) sets ≡ drop (n * w) start

pub none_kept : (p : Problem) (w : ℕ) (start : List ℕ) → AreFirstKept p w start start 0
none_kept p w start = record { done = λ o low. absurd (omega (arith, low)); rest = refl }

pub all_kept : (p : Problem) (w : ℕ) (start sets : List ℕ) (n : ℕ) → w ≡ words_of p → n ≡ length p.options → length start ≡ length p.options * words_of p → length sets ≡ length start
    → AreFirstKept p w start sets n → AreAllKept p sets
all_kept p w start sets n is all long same by = record {
  long = same ∙ long;
  each = λ o low. subst (λ v. IsKept p o (set_at v o sets)) is (by.done o (omega (arith, low, all)));
}

-- the set of all numbers that its words have room for
all_in : (w o x : ℕ) (start : List ℕ) → All (λ word. word ≡ 2 ^ 64 - 1) start → o * w + w ≤ length start → x / 64 < w → has (set_at w o start) x ≡ true
all_in w o x start full inside low =
    ap (λ word. bit_at word (x % 64) == 1) (get_or-take w (drop (o * w) start) (x / 64) 0 low ∙ get_or-drop (o * w) start (x / 64) 0
    ∙ All-get_or (λ word. word ≡ 2 ^ 64 - 1) start (o * w + x / 64) 0 (omega (arith, inside, low)) full)
    ∙ eq-eqb (bit_at (2 ^ 64 - 1) (x % 64)) 1 (bit_at_ones 64 (x % 64) (omega arith))

pub kept_more : (p : Problem) (w : ℕ) (start sets set : List ℕ) (n k : ℕ) → w ≡ words_of p → All (λ word. word ≡ 2 ^ 64 - 1) start → n * w + w ≤ length start → length sets ≡ length start
    → AreFirstKept p w start sets n → k ≡ w → length set ≡ length (take k (drop (n * w) sets))
    → ((x : ℕ) → has set x ≡ (has (take k (drop (n * w) sets)) x && not (clash p n x)))
    → AreFirstKept p w start (put_mid (n * w) k sets set) (n + 1)
kept_more p w start sets set n k width full inside same before is wide each =
    let within : n * w ≤ length sets = omega (arith, inside, same) in
    let old : take k (drop (n * w) sets) ≡ set_at w n start = ap (λ m. take m (drop (n * w) sets)) is ∙ ap (take w) before.rest in
    let long : length set ≡ w = wide ∙ ap length old ∙ set_long w n start inside in
    let own : IsKept p n set = record {
      long = long ∙ width;
      exact = λ x low. each x ∙ ap (λ (ws : List ℕ). has ws x && not (clash p n x)) old ∙ ap (λ b. b && not (clash p n x)) (all_in w n x start full inside (omega (arith, low, width)));
    } in
    record {
      done = λ o low. elim (cases_lt o n) [
        | inl past ↦ subst (IsKept p o) (sym (set_before w o n k sets set past within)) (before.done o past)
        | inr here ↦
            let e : n ≡ o = omega (arith, here, low) in
            subst (λ m. IsKept p m (set_at w m (put_mid (n * w) k sets set))) e (subst (IsKept p n) (sym (set_here w n k sets set within long)) own)
      ];
      rest = rest_behind w n k sets set within long is
          ∙ ap (λ m. drop m sets) (set_end w n) ∙ sym (drop-drop w (n * w) sets) ∙ ap (drop w) before.rest
          ∙ drop-drop w (n * w) start ∙ ap (λ m. drop m start) (sym (set_end w n));
    }

-- ---- what an option leaves

-- what is read of the sets, where there are any, is all that options leave
pub all_read : (p q : Problem) (kept read : List ℕ) (start : ℕ) → p ≡ q → AreKept p kept → read ≡ kept → start < length read → AreAllKept q read
all_read p q kept read start view by same some =
    subst (AreAllKept q) (sym same) (subst (λ z. AreAllKept z kept) view (by (omega (arith, some, ap length same))))

-- what is read where the set of an option stands
pub kept_at : (p : Problem) (w o k : ℕ) (kept : List ℕ) → w ≡ words_of p → o < length p.options → AreAllKept p kept → k ≡ w → IsKept p o (take k (drop (o * w) kept))
kept_at p w o k kept width low all is =
    subst (IsKept p o) (sym (ap (λ m. take m (drop (o * w) kept)) is ∙ ap (λ v. set_at v o kept) width)) (all.each o low)

none-has : (words : List ℕ) (x : ℕ) → length words ≤ x / 64 → has words x ≡ false
none-has words x past = rw (get_or_past words (x / 64) 0 past, bit_at-zero (x % 64)) refl

-- what an option leaves of the live ones, by the set that is kept for it
pub left_by : (p : Problem) (o : ℕ) (live set : List ℕ) (b : Bool) (x : ℕ) → length live ≡ words_of p → IsKept p o set
    → b ≡ (has live x && has set x) → b ≡ (has live x && not (clash p o x))
left_by p o live set b x long own is =
    is ∙ elim (cases_lt (x / 64) (words_of p)) [
      | inl low ↦ ap (λ c. has live x && c) (own.exact x low)
      | inr past ↦ let none = none-has live x (omega (arith, past, long)) in rw none refl
    ]
