-- How many live options a row has, word by word.
use Rattle.std.proofs.Common.{◌≡◌, ℕ, zero, suc, ◌+◌, ◌-◌, ◌*◌, ◌/◌, ◌%◌, ◌^◌, ◌<◌, ◌≤◌, List, [], ◌∷◌, length, get_or, drop, cond, Bool, true, false, ◌==◌, ◌&&◌, ◌||◌, nat_lt, bit_and, count_by, refl, arith, sym, ap, ◌∙◌, inl, inr}
use Rattle.std.specs.Prelude.{All}
use Rattle.std.specs.Int.{bit_at}
use Rattle.std.specs.Int.RustNames.{count_ones}
use Rattle.std.specs.List.{range_with_len}
use Rattle.std.specs.Int.Count.{ones_step}
use Rattle.std.proofs.Math.Nat.{pow-succ'}
use Rattle.std.proofs.lemmas.Bool.{cases_eq, eq-eqb, ne_eqb, lt-ltb, le-ltb, both_ways}
use Rattle.std.proofs.lemmas.List.{drop_more, drop_all}
use Rattle.std.proofs.lemmas.List.FromFn.{length-range_with_len}
use Rattle.std.proofs.lemmas.List.Elements.{All-head, All-tail, All-get_or}
use Rattle.std.proofs.lemmas.List.Sums.{sum_by-cons, length-filter, count_by-le-length}
use Rattle.std.proofs.lemmas.Nat.{ones_le_self}
use Rattle.std.proofs.lemmas.Nat.Bits.{bit_at_lowest, bit_at-suc}
use Rattle.cover_problem.specs.Branching.{is_choice, live_options}
use Rattle.cover_problem.specs.Prefix.{is_live}
use Rattle.cover_problem.specs.Problem.{Problem, names_item}
use Rattle.option_sets.specs.declared.word.Word.{Word}
use Rattle.option_sets.specs.Sets.{has, row_has, word_has, IsRow}
use Rattle.live_sets.specs.Counting.{count_in, IsLive}
use Rattle.live_sets.specs.Trying.{AreBehind}
use Rattle.live_sets.proofs.Words.{word_met, behind_one}

-- ---- counts over a range

abbrev pub one : Bool → ℕ
one b = cond b 1 0

pub step : (f : ℕ → Bool) (a n : ℕ) → count_by f (range_with_len a (suc n)) ≡ one (f a) + count_by f (range_with_len (a + 1) n)
step f a n = sum_by-cons (λ x. cond (f x) 1 0) a (range_with_len (a + 1) n)

pub count_same : (f g : ℕ → Bool) (a n : ℕ) → ((k : ℕ) → k < n → f (a + k) ≡ g (a + k)) → count_by f (range_with_len a n) ≡ count_by g (range_with_len a n)
count_same f g a zero each = refl
count_same f g a (suc n) each =
    let here : f a ≡ g a = let e : a + 0 ≡ a = omega arith in ap f (sym e) ∙ each 0 (omega arith) ∙ ap g e in
    let rest = count_same f g (a + 1) n (λ k low. let e : a + suc k ≡ a + 1 + k = omega arith in ap f (sym e) ∙ each (suc k) (omega (arith, low)) ∙ ap g e) in
    step f a n ∙ ap (λ b. one b + count_by f (range_with_len (a + 1) n)) here ∙ ap (λ m. one (g a) + m) rest ∙ sym (step g a n)

pub count_none : (f : ℕ → Bool) (a n : ℕ) → ((k : ℕ) → k < n → f (a + k) ≡ false) → count_by f (range_with_len a n) ≡ 0
count_none f a zero each = refl
count_none f a (suc n) each =
    let here : f a ≡ false = let e : a + 0 ≡ a = omega arith in ap f (sym e) ∙ each 0 (omega arith) in
    let rest = count_none f (a + 1) n (λ k low. let e : a + suc k ≡ a + 1 + k = omega arith in ap f (sym e) ∙ each (suc k) (omega (arith, low))) in
    step f a n ∙ ap (λ b. one b + count_by f (range_with_len (a + 1) n)) here ∙ ap (λ m. 0 + m) rest

pub count_split : (f : ℕ → Bool) (a m n : ℕ) → count_by f (range_with_len a (m + n)) ≡ count_by f (range_with_len a m) + count_by f (range_with_len (a + m) n)
count_split f a zero n =
    let e : a + 0 ≡ a = omega arith in
    let g : 0 + n ≡ n = omega arith in
    let none : count_by f (range_with_len a 0) ≡ 0 = refl in
    let same : count_by f (range_with_len a (0 + n)) ≡ count_by f (range_with_len a n) = ap (λ k. count_by f (range_with_len a k)) g in
    let moved : count_by f (range_with_len (a + 0) n) ≡ count_by f (range_with_len a n) = ap (λ k. count_by f (range_with_len k n)) e in
    omega (arith, none, same, moved)
count_split f a (suc m) n =
    let e : suc m + n ≡ suc (m + n) = omega arith in
    let g : a + 1 + m ≡ a + suc m = omega arith in
    let rest = count_split f (a + 1) m n in
    let moved : count_by f (range_with_len (a + 1 + m) n) ≡ count_by f (range_with_len (a + suc m) n) = ap (λ k. count_by f (range_with_len k n)) g in
    ap (λ k. count_by f (range_with_len a k)) e ∙ step f a (m + n) ∙ omega (arith, rest, moved, step f a m)

apart : (a b : Bool) → (a && b) ≡ false → one (a || b) ≡ one a + one b
apart true true e = absurd (both_ways true e refl)
apart true false e = refl
apart false b e = omega arith

count_either : (f g h : ℕ → Bool) (a n : ℕ) → ((x : ℕ) → h x ≡ (f x || g x)) → ((x : ℕ) → (f x && g x) ≡ false)
    → count_by h (range_with_len a n) ≡ count_by f (range_with_len a n) + count_by g (range_with_len a n)
count_either f g h a zero is disjoint = refl
count_either f g h a (suc n) is disjoint =
    let rest = count_either f g h (a + 1) n is disjoint in
    let here : one (h a) ≡ one (f a) + one (g a) = ap one (is a) ∙ apart (f a) (g a) (disjoint a) in
    step h a n ∙ omega (arith, rest, here, step f a n, step g a n)

-- ---- the ones of a word

ones_from : (w a m : ℕ) (f : ℕ → Bool) → m < 2 ^ w → ((k : ℕ) → k < w → f (a + k) ≡ (bit_at m k == 1)) → count_by f (range_with_len a w) ≡ count_ones m
ones_from zero a m f small each = omega (arith, small, ones_le_self m)
ones_from (suc w) a m f small each =
    let low : m / 2 < 2 ^ w = omega (arith, small, pow-succ' 2 w) in
    let rest = ones_from w (a + 1) (m / 2) f low (λ k inside. let e : a + suc k ≡ a + 1 + k = omega arith in ap f (sym e) ∙ each (suc k) (omega (arith, inside)) ∙ ap (λ b. b == 1) (bit_at-suc m k)) in
    let here : one (f a) ≡ m % 2 = let e : a + 0 ≡ a = omega arith in
    ap one (ap f (sym e) ∙ each 0 (omega arith) ∙ ap (λ b. b == 1) (bit_at_lowest m)) ∙ lowest m in
    step f a w ∙ omega (arith, here, rest, ones_step m)
  where
    lowest : (m : ℕ) → one (m % 2 == 1) ≡ m % 2
    lowest m = elim (cases_eq (m % 2) 1) [
      | inl e ↦ rw (eq-eqb (m % 2) 1 e) (sym e)
      | inr d ↦ rw (ne_eqb (m % 2) 1 d) (omega (arith, d))
    ]

-- the options of one word, among all that the words of a set have room for
word_count : (width place bits : ℕ) → place < width → bits < 2 ^ 64 → count_by (λ x. word_has place bits x) (range_with_len 0 (64 * width)) ≡ count_ones bits
word_count width place bits inside small =
    let f : ℕ → Bool = λ x. word_has place bits x in
    let rest : ℕ = width - (place + 1) in
    let e : 64 * width ≡ 64 * place + (64 + 64 * rest) = omega (arith, inside) in
    let off : (x : ℕ) → (place ≡ x / 64 → ⊥) → word_has place bits x ≡ false = λ x d. rw (ne_eqb place (x / 64) d) refl in
    let before = count_none f 0 (64 * place) (λ k low. off (0 + k) (λ d. omega (arith, d, low))) in
    let own = ones_from 64 (0 + 64 * place) bits f small (λ k low.
    let at : (0 + 64 * place + k) / 64 ≡ place = omega (arith, low) in
    let bit : (0 + 64 * place + k) % 64 ≡ k = omega (arith, low) in
    rw (at, bit, eq-eqb place place refl) refl) in
    let behind = count_none f (0 + 64 * place + 64) (64 * rest) (λ k low. off (0 + 64 * place + 64 + k) (λ d. omega (arith, d, low))) in
    ap (λ n. count_by f (range_with_len 0 n)) e ∙ count_split f 0 (64 * place) (64 + 64 * rest)
    ∙ omega (arith, before, own, behind, count_split f (0 + 64 * place) 64 (64 * rest))

-- ---- a row, word by word

pub count_nothing : (set : List ℕ) → count_in [] set ≡ 0
unfolding count_in
count_nothing set = count_none (λ x. row_has [] x && has set x) 0 (64 * length set) (λ k low. refl)

spread : (a b c : Bool) → ((a || b) && c) ≡ ((a && c) || (b && c))
spread true b true = refl
spread true true false = refl
spread true false false = refl
spread false b c = refl

away : (row : List Word) (place x : ℕ) → All (λ (w : Word). place < w.place) row → place ≡ x / 64 → row_has row x ≡ false
away [] place x behind same = refl
away (w ∷ ws) place x behind same =
    let first : place < w.place = All-head (λ (v : Word). place < v.place) w ws behind in
    rw (ne_eqb w.place (x / 64) (λ e. omega (arith, e, same, first))) (away ws place x (All-tail (λ (v : Word). place < v.place) w ws behind) same)

pub count_word : (set : List ℕ) (w : Word) (row : List Word) → w.place < length set → bit_and (get_or set w.place 0) w.bits < 2 ^ 64 → All (λ (v : Word). w.place < v.place) row
    → count_in (w ∷ row) set ≡ count_ones (bit_and (get_or set w.place 0) w.bits) + count_in row set
unfolding count_in
count_word set w row inside small behind =
    let bits : ℕ = bit_and (get_or set w.place 0) w.bits in
    count_either (λ x. word_has w.place bits x) (λ x. row_has row x && has set x) (λ x. row_has (w ∷ row) x && has set x) 0 (64 * length set)
    (λ x. spread (word_has w.place w.bits x) (row_has row x) (has set x) ∙ ap (λ b. b || (row_has row x && has set x)) (sym (word_met set w.place w.bits x)))
    (λ x. elim (cases_eq w.place (x / 64)) [
      | inl e ↦ let none = away row w.place x behind e in rw none (off (word_has w.place bits x))
      | inr d ↦ rw (ne_eqb w.place (x / 64) d) refl
    ])
    ∙ ap (λ n. n + count_in row set) (word_count (length set) w.place bits inside small)
  where
    off : (b : Bool) → (b && false) ≡ false
    off true = refl
    off false = refl

-- ---- the live options of an item

swap : (a b c : Bool) → (a && (b && c)) ≡ (b && (c && a))
swap true true true = refl
swap true true false = refl
swap true false c = refl
swap false true true = refl
swap false true false = refl
swap false false c = refl

pub count_live : (p : Problem) (prefix set : List ℕ) (item : ℕ) (row : List Word) → IsLive p prefix set → IsRow p item row → length (live_options p prefix item) ≡ count_in row set
unfolding live_options count_in
count_live p prefix set item row live is =
    let n : ℕ = length p.options in
    let f : ℕ → Bool = λ x. row_has row x && has set x in
    let g : ℕ → Bool = is_choice p prefix item in
    let room : 64 * length set ≡ n + (64 * length set - n) = omega (arith, live.words) in
    let each : (x : ℕ) → f x ≡ (nat_lt x n && g x) =
    λ x. ap (λ b. b && has set x) (is.exact x) ∙ ap (λ b. names_item p x item && b) (live.exact x) ∙ swap (names_item p x item) (nat_lt x n) (is_live p prefix x) in
    length-filter g (range_with_len 0 n)
    ∙ count_same g f 0 n (λ k low. sym (each (0 + k) ∙ ap (λ b. b && g (0 + k)) (lt-ltb (0 + k) n (omega (arith, low)))))
    ∙ omega (arith, count_none f (0 + n) (64 * length set - n) (λ k low. each (0 + n + k) ∙ ap (λ b. b && g (0 + n + k)) (le-ltb (0 + n + k) n (omega arith))), count_split f 0 n (64 * length set - n), ap (λ m. count_by f (range_with_len 0 m)) room)

-- ---- while a row is counted

pub count_few : (row : List Word) (set : List ℕ) → count_in row set ≤ 64 * length set
unfolding count_in
count_few row set = omega (arith, count_by-le-length (λ x. row_has row x && has set x) (range_with_len 0 (64 * length set)), length-range_with_len 0 (64 * length set))

pub count_on : (set : List ℕ) (row : List Word) (i : ℕ) (d : Word) (count : ℕ) → AreBehind (length set) row → i < length row
    → bit_and (get_or set (get_or row i d).place 0) (get_or row i d).bits < 2 ^ 64 → count + count_in (drop i row) set ≡ count_in row set
    → count + count_ones (bit_and (get_or set (get_or row i d).place 0) (get_or row i d).bits) + count_in (drop (i + 1) row) set ≡ count_in row set
count_on set row i d count are inside small before =
    let place : (get_or row i d).place < length set = All-get_or (λ (v : Word). v.place < length set) row i d inside are.inside in
    let more = count_word set (get_or row i d) (drop (i + 1) row) place small (behind_one (length set) row i d (get_or row i d) are inside refl) in
    omega (arith, before, ap (λ (r : List Word). count_in r set) (drop_more row i d inside), more)

pub count_end : (set : List ℕ) (row : List Word) (i count : ℕ) → length row ≤ i → count + count_in (drop i row) set ≡ count_in row set → count ≡ count_in row set
count_end set row i count end before = omega (arith, before, ap (λ (r : List Word). count_in r set) (drop_all i row end), count_nothing set)
