-- Options that leave, counted off word by word.
use Rattle.std.proofs.Common.{◌≡◌, ℕ, zero, suc, ◌+◌, ◌-◌, ◌*◌, ◌/◌, ◌%◌, ◌^◌, ◌<◌, ◌≤◌, List, [], ◌∷◌, ◌++◌, length, get_or, Bool, true, false, not, nat_lt, ◌==◌, ◌&&◌, bit_and, count_by, if◌then◌else◌, refl, arith, sym, ap, ◌∙◌, inl, inr, w64}
use Rattle.std.specs.List.{range_with_len}
use Rattle.std.specs.Int.{bit_at, bit_not}
use Rattle.std.proofs.lemmas.Bool.{cases_lt, both_ways, eq-eqb, ne_eqb, lt-ltb, le-ltb, ltb-true, and_parts, and_from}
use Rattle.std.proofs.lemmas.Nat.Bits.{bit_at-zero}
use Rattle.std.proofs.lemmas.List.{get_or_past}
use Rattle.std.proofs.lemmas.List.Folds.{list_all-append}
use Rattle.std.proofs.lemmas.List.Sums.{length-filter}
use Rattle.cover_problem.specs.Branching.{is_choice, live_options}
use Rattle.cover_problem.specs.Prefix.{clash, is_live}
use Rattle.cover_problem.specs.Problem.{Problem, names_item}
use Rattle.option_sets.specs.Sets.{has}
use Rattle.option_sets.proofs.Bits.{bit_of_and, bit_of_not}
use Rattle.live_sets.specs.Counting.{IsLive}
use Rattle.live_sets.specs.Planes.{named_in, named_of, AreMasks}
use Rattle.live_sets.proofs.Counted.{one, step, count_same, count_none, count_split}

swap : (a b c : Bool) → (a && (b && c)) ≡ (b && (c && a))
swap true true true = refl
swap true true false = refl
swap true false c = refl
swap false true true = refl
swap false true false = refl
swap false false c = refl

-- what is live names an item as often as it has live options
pub named_live : (p : Problem) (prefix set : List ℕ) (i : ℕ) → IsLive p prefix set → length (live_options p prefix i) ≡ named_of p set i
unfolding live_options
named_live p prefix set i live =
    let n : ℕ = length p.options in
    let f : ℕ → Bool = λ x. names_item p x i && has set x in
    let g : ℕ → Bool = is_choice p prefix i in
    let room : 64 * length set ≡ n + (64 * length set - n) = omega (arith, live.words) in
    let each : (x : ℕ) → f x ≡ (nat_lt x n && g x) =
    λ x. ap (λ b. names_item p x i && b) (live.exact x) ∙ swap (names_item p x i) (nat_lt x n) (is_live p prefix x) in
    length-filter g (range_with_len 0 n)
    ∙ count_same g f 0 n (λ k low. sym (each (0 + k) ∙ ap (λ b. b && g (0 + k)) (lt-ltb (0 + k) n (omega (arith, low)))))
    ∙ omega (arith, count_none f (0 + n) (64 * length set - n) (λ k low. each (0 + n + k) ∙ ap (λ b. b && g (0 + n + k)) (le-ltb (0 + n + k) n (omega arith))), count_split f 0 n (64 * length set - n), ap (λ m. count_by f (range_with_len 0 m)) room)

-- a sum of counts over two ranges
pub count_sum : (f g h : ℕ → Bool) (a b n : ℕ) → ((k : ℕ) → k < n → one (f (a + k)) ≡ one (g (a + k)) + one (h (b + k)))
    → count_by f (range_with_len a n) ≡ count_by g (range_with_len a n) + count_by h (range_with_len b n)
count_sum f g h a b zero each = refl
count_sum f g h a b (suc n) each =
    let x : a + 0 ≡ a = omega arith in
    let y : b + 0 ≡ b = omega arith in
    let here : one (f a) ≡ one (g a) + one (h b) = omega (arith, each 0 (omega arith), ap (λ m. one (f m)) x, ap (λ m. one (g m)) x, ap (λ m. one (h m)) y) in
    let rest = count_sum f g h (a + 1) (b + 1) n (λ k low.
    let d : a + suc k ≡ a + 1 + k = omega arith in
    let e : b + suc k ≡ b + 1 + k = omega arith in
    omega (arith, each (suc k) (omega (arith, low)), ap (λ m. one (f m)) d, ap (λ m. one (g m)) d, ap (λ m. one (h m)) e)) in
    omega (arith, step f a n, step g a n, step h b n, here, rest)

module _ (p : Problem) (masks before live : List ℕ) (first i : ℕ) where
  -- in the words up to a place what is live, in the others what was
  abbrev pub is_counted : ℕ → ℕ → Bool
  is_counted place x = names_item p x (first + i) && (if nat_lt (x / 64) place then has live x else has before x)

  abbrev pub counted_to : ℕ → ℕ
  counted_to place = count_by (is_counted place) (range_with_len 0 (64 * length live))

  pub counted_none : length before ≡ length live → counted_to 0 ≡ named_of p before (first + i)
  counted_none long =
      ap (λ n. count_by (is_counted 0) (range_with_len 0 (64 * n))) (sym long)
      ∙ count_same (is_counted 0) (λ x. names_item p x (first + i) && has before x) 0 (64 * length before) (λ k low. ap (λ b. names_item p (0 + k) (first + i) && (if b then has live (0 + k) else has before (0 + k))) (le-ltb ((0 + k) / 64) 0 (omega arith)))

  pub counted_all : counted_to (length live) ≡ named_of p live (first + i)
  counted_all =
      count_same (is_counted (length live)) (λ x. names_item p x (first + i) && has live x) 0 (64 * length live)
      (λ k low. ap (λ b. names_item p (0 + k) (first + i) && (if b then has live (0 + k) else has before (0 + k))) (lt-ltb ((0 + k) / 64) (length live) (omega (arith, low))))

  module _ (prefix : List ℕ) (was : IsLive p prefix before) (part : (x : ℕ) → has live x ≡ true → has before x ≡ true) (are : AreMasks p first masks) (primary : first + i < p.primary) (low : i < 64) where
    abbrev pub gone_at : ℕ → ℕ
    gone_at place = bit_and (get_or before place 0) (bit_not w64 (get_or live place 0))

    table : (n b l m : Bool) → (l ≡ true → b ≡ true) → (b ≡ true → m ≡ n) → one (n && b) ≡ one (n && l) + one ((b && not l) && m)
    table n true true m h k = omega arith
    table true true false m h k = omega (arith, ap one (k refl))
    table false true false m h k = omega (arith, ap one (k refl))
    table n false true m h k = absurd (both_ways false refl (h refl))
    table n false false m h k = omega arith

    gone_is : (place k : ℕ) → k < 64 → get_or live place 0 < 2 ^ 64
        → (bit_at (gone_at place) k == 1) ≡ ((bit_at (get_or before place 0) k == 1) && not (bit_at (get_or live place 0) k == 1))
    gone_is place k inside fits =
        bit_of_and (get_or before place 0) (bit_not w64 (get_or live place 0)) k ∙ ap (λ c. (bit_at (get_or before place 0) k == 1) && c) (bit_of_not (get_or live place 0) k fits inside)

    has_at : (set : List ℕ) (place k x : ℕ) → x / 64 ≡ place → x % 64 ≡ k → (bit_at (get_or set place 0) k == 1) ≡ has set x
    has_at set place k x at bit = ap (λ j. bit_at (get_or set j 0) k == 1) (sym at) ∙ ap (λ j. bit_at (get_or set (x / 64) 0) j == 1) (sym bit)

    mask_at : (x : ℕ) → has before x ≡ true → (bit_at (get_or masks x 0) i == 1) ≡ names_item p x (first + i)
    mask_at x here =
        let both : (nat_lt x (length p.options) && is_live p prefix x) ≡ true = sym (was.exact x) ∙ here in
        let inside : x < length p.options = ltb-true x (length p.options) (and_parts (nat_lt x (length p.options)) (is_live p prefix x) both).0 in
        are.each x inside i low ∙ ap (λ b. b && names_item p x (first + i)) (lt-ltb (first + i) p.primary primary)

    pub counted_more : (place : ℕ) → place < length live → get_or live place 0 < 2 ^ 64 → counted_to place ≡ counted_to (place + 1) + named_in masks place (gone_at place) i
    unfolding named_in
    counted_more place inside fits =
        let f : ℕ → Bool = is_counted place in
        let g : ℕ → Bool = is_counted (place + 1) in
        let h : ℕ → Bool = λ k. bit_at (gone_at place) k == 1 && bit_at (get_or masks (place * 64 + k) 0) i == 1 in
        let rest : ℕ = length live - (place + 1) in
        let room : 64 * length live ≡ 64 * place + (64 + 64 * rest) = omega (arith, inside) in
        let test : (t x : ℕ) → Bool = λ t x. names_item p x (first + i) && (if nat_lt (x / 64) t then has live x else has before x) in
        let front = count_same f g 0 (64 * place) (λ k less.
        ap (λ t. names_item p (0 + k) (first + i) && (if t then has live (0 + k) else has before (0 + k))) (lt-ltb ((0 + k) / 64) place (omega (arith, less)) ∙ sym (lt-ltb ((0 + k) / 64) (place + 1) (omega (arith, less))))) in
        let back = count_same f g (0 + 64 * place + 64) (64 * rest) (λ k less.
        ap (λ t. names_item p (0 + 64 * place + 64 + k) (first + i) && (if t then has live (0 + 64 * place + 64 + k) else has before (0 + 64 * place + 64 + k)))
        (le-ltb ((0 + 64 * place + 64 + k) / 64) place (omega arith) ∙ sym (le-ltb ((0 + 64 * place + 64 + k) / 64) (place + 1) (omega arith)))) in
        let own = count_sum f g h (0 + 64 * place) 0 64 (λ k less.
        let x : ℕ = 0 + 64 * place + k in
        let at : (0 + 64 * place + k) / 64 ≡ place = omega (arith, less) in
        let bit : (0 + 64 * place + k) % 64 ≡ 0 + k = omega (arith, less) in
        let same : place * 64 + (0 + k) ≡ 0 + 64 * place + k = omega arith in
        let m : Bool = bit_at (get_or masks (place * 64 + (0 + k)) 0) i == 1 in
        let f_is : f x ≡ (names_item p x (first + i) && has before x) = ap (λ t. names_item p x (first + i) && (if t then has live x else has before x)) (le-ltb (x / 64) place (omega (arith, at))) in
        let g_is : g x ≡ (names_item p x (first + i) && has live x) = ap (λ t. names_item p x (first + i) && (if t then has live x else has before x)) (lt-ltb (x / 64) (place + 1) (omega (arith, at))) in
        let h_is : h (0 + k) ≡ ((has before x && not (has live x)) && m) =
        ap (λ c. c && m) (gone_is place (0 + k) (omega (arith, less)) fits ∙ ap (λ c. c && not (bit_at (get_or live place 0) (0 + k) == 1)) (has_at before place (0 + k) x at bit) ∙ ap (λ c. has before x && not c) (has_at live place (0 + k) x at bit)) in
        let meant : has before x ≡ true → m ≡ names_item p x (first + i) = λ here. ap (λ n. bit_at (get_or masks n 0) i == 1) same ∙ mask_at x here in
        omega (arith, ap one f_is, ap one g_is, ap one h_is, table (names_item p x (first + i)) (has before x) (has live x) m (part x) meant)) in
        let f_all : counted_to place ≡ count_by f (range_with_len 0 (64 * place + (64 + 64 * rest))) = ap (λ n. count_by f (range_with_len 0 n)) room in
        let g_all : counted_to (place + 1) ≡ count_by g (range_with_len 0 (64 * place + (64 + 64 * rest))) = ap (λ n. count_by g (range_with_len 0 n)) room in
        omega (arith, f_all, g_all, front, back, own, count_split f 0 (64 * place) (64 + 64 * rest), count_split f (0 + 64 * place) 64 (64 * rest), count_split g 0 (64 * place) (64 + 64 * rest), count_split g (0 + 64 * place) 64 (64 * rest))

-- an item that is not primary is named by no mask
mask_off : (p : Problem) (masks : List ℕ) (first x i : ℕ) → AreMasks p first masks → p.primary ≤ first + i → i < 64 → (bit_at (get_or masks x 0) i == 1) ≡ false
mask_off p masks first x i are high low = elim (cases_lt x (length masks)) [
  | inl inside ↦ are.each x (omega (arith, inside, are.long)) i low ∙ ap (λ b. b && names_item p x (first + i)) (le-ltb (first + i) p.primary high)
  | inr past ↦ ap (λ n. bit_at n i == 1) (get_or_past masks x 0 past) ∙ ne_eqb (bit_at 0 i) 1 (λ h. omega (arith, h, bit_at-zero i))
]

pub named_off : (p : Problem) (masks : List ℕ) (first place bits i : ℕ) → AreMasks p first masks → p.primary ≤ first + i → i < 64 → named_in masks place bits i ≡ 0
unfolding named_in
named_off p masks first place bits i are high low =
    count_none (λ k. bit_at bits k == 1 && bit_at (get_or masks (place * 64 + k) 0) i == 1) 0 64
    (λ k less. ap (λ b. bit_at bits (0 + k) == 1 && b) (mask_off p masks first (place * 64 + (0 + k)) i are high low) ∙ off (bit_at bits (0 + k) == 1))
  where
    off : (b : Bool) → (b && false) ≡ false
    off true = refl
    off false = refl

-- an option that leaves is one
pub gone_inside : (p : Problem) (prefix masks before live : List ℕ) (first place k : ℕ) → IsLive p prefix before → AreMasks p first masks → k < 64 → bit_at (bit_and (get_or before place 0) (bit_not w64 (get_or live place 0))) k ≡ 1 → place * 64 + k < length masks
gone_inside p prefix masks before live first place k was are inside here =
    let x : ℕ = place * 64 + k in
    let both = and_parts (bit_at (get_or before place 0) k == 1) (bit_at (bit_not w64 (get_or live place 0)) k == 1) (sym (bit_of_and (get_or before place 0) (bit_not w64 (get_or live place 0)) k) ∙ eq-eqb _ 1 here) in
    let at : (place * 64 + k) / 64 ≡ place = omega (arith, inside) in
    let bit : (place * 64 + k) % 64 ≡ k = omega (arith, inside) in
    let set : has before (place * 64 + k) ≡ true = ap (λ j. bit_at (get_or before j 0) ((place * 64 + k) % 64) == 1) at ∙ ap (λ j. bit_at (get_or before place 0) j == 1) bit ∙ both.0 in
    let exact : (nat_lt x (length p.options) && is_live p prefix x) ≡ true = sym (was.exact x) ∙ set in
    omega (arith, ltb-true x (length p.options) (and_parts (nat_lt x (length p.options)) (is_live p prefix x) exact).0, are.long)

-- what is live with one more option was live before
pub live_part : (p : Problem) (prefix : List ℕ) (o : ℕ) (before live : List ℕ) → IsLive p prefix before → IsLive p (prefix ++ o ∷ []) live → (x : ℕ) → has live x ≡ true → has before x ≡ true
live_part p prefix o before live was now x here =
    let both = and_parts (nat_lt x (length p.options)) (is_live p (prefix ++ o ∷ []) x) (sym (now.exact x) ∙ here) in
    let parts = and_parts (is_live p prefix x) (not (clash p o x) && true) (sym (list_all-append (λ q. not (clash p q x)) prefix (o ∷ [])) ∙ both.1) in
    was.exact x ∙ and_from (nat_lt x (length p.options)) (is_live p prefix x) both.0 parts.0
