-- Options that stay, counted word by word.
use Rattle.std.proofs.Common.{◌≡◌, ℕ, zero, suc, ◌+◌, ◌-◌, ◌*◌, ◌/◌, ◌%◌, ◌<◌, ◌≤◌, List, [], ◌∷◌, ◌++◌, length, get_or, Bool, true, false, nat_lt, ◌==◌, ◌&&◌, count_by, refl, arith, sym, ap, ◌∙◌, inl, inr}
use Rattle.std.specs.List.{range_with_len}
use Rattle.std.specs.Int.{bit_at}
use Rattle.std.proofs.lemmas.Bool.{cases_Bool, eq-eqb, lt-ltb, ltb-true, and_parts}
use Rattle.cover_problem.specs.Prefix.{is_live}
use Rattle.cover_problem.specs.Problem.{Problem, names_item}
use Rattle.option_sets.specs.Sets.{has}
use Rattle.live_sets.specs.Counting.{IsLive}
use Rattle.item_planes.specs.declared.planes.Planes.{Planes}
use Rattle.item_planes.specs.Counts.{count_at}
use Rattle.live_sets.specs.Planes.{named_in, named_of, AreMasks, ArePlanes}
use Rattle.live_sets.proofs.Counted.{one, step, count_none, count_split}
use Rattle.live_sets.proofs.Gone.{count_sum, live_part, named_live}

-- a live option is one
pub live_inside : (p : Problem) (prefix live : List ℕ) (x : ℕ) → IsLive p prefix live → has live x ≡ true → x < length p.options
live_inside p prefix live x is here =
    ltb-true x (length p.options) (and_parts (nat_lt x (length p.options)) (is_live p prefix x) (sym (is.exact x) ∙ here)).0

-- an option of a word is in the set
pub set_bit : (set : List ℕ) (place k : ℕ) → k < 64 → bit_at (get_or set place 0) k ≡ 1 → has set (place * 64 + k) ≡ true
set_bit set place k inside here =
    let at : (place * 64 + k) / 64 ≡ place = omega (arith, inside) in
    let bit : (place * 64 + k) % 64 ≡ k = omega (arith, inside) in
    ap (λ j. bit_at (get_or set j 0) ((place * 64 + k) % 64) == 1) at ∙ ap (λ j. bit_at (get_or set place 0) j == 1) bit ∙ eq-eqb (bit_at (get_or set place 0) k) 1 here

-- fewer of fewer
count_less : (f g : ℕ → Bool) (a n : ℕ) → ((x : ℕ) → f x ≡ true → g x ≡ true) → count_by f (range_with_len a n) ≤ count_by g (range_with_len a n)
count_less f g a zero part =
    let none : count_by f (range_with_len a 0) ≡ 0 = refl in
    omega (arith, none)
count_less f g a (suc n) part =
    let here : one (f a) ≤ one (g a) = elim (cases_Bool (f a)) [
      | inl on ↦ omega (arith, ap one on, ap one (part a on))
      | inr off ↦ omega (arith, ap one off)
    ] in
    omega (arith, here, step f a n, step g a n, count_less f g (a + 1) n part)

pub named_part : (p : Problem) (before live : List ℕ) (i : ℕ) → length before ≡ length live → ((x : ℕ) → has live x ≡ true → has before x ≡ true) → named_of p live i ≤ named_of p before i
named_part p before live i long part =
    let less = count_less (λ x. names_item p x i && has live x) (λ x. names_item p x i && has before x) 0 (64 * length live)
    (λ x here. both (names_item p x i) (has live x) (has before x) (part x) here) in
    omega (arith, less, ap (λ n. count_by (λ x. names_item p x i && has before x) (range_with_len 0 (64 * n))) long)
  where
    both : (n l b : Bool) → (l ≡ true → b ≡ true) → (n && l) ≡ true → (n && b) ≡ true
    both true l b part here = part here
    both false l b part here = here

module _ (p : Problem) (masks set : List ℕ) (first i : ℕ) where
  -- how many options in the words from a place on name an item
  abbrev pub named_from : ℕ → ℕ
  named_from place = count_by (λ x. names_item p x (first + i) && has set x) (range_with_len (64 * place) (64 * (length set - place)))

  pub from_first : named_from 0 ≡ named_of p set (first + i)
  from_first =
      let start : 64 * 0 ≡ 0 = omega arith in
      let all : 64 * (length set - 0) ≡ 64 * length set = omega arith in
      ap (λ n. count_by (λ x. names_item p x (first + i) && has set x) (range_with_len n (64 * (length set - 0)))) start
      ∙ ap (λ n. count_by (λ x. names_item p x (first + i) && has set x) (range_with_len 0 n)) all

  pub from_last : (place : ℕ) → length set ≤ place → named_from place ≡ 0
  from_last place end =
      let none : 64 * (length set - place) ≡ 0 = omega (arith, end) in
      ap (λ n. count_by (λ x. names_item p x (first + i) && has set x) (range_with_len (64 * place) n)) none

  pub from_next : AreMasks p first masks → ((x : ℕ) → has set x ≡ true → x < length p.options) → first + i < p.primary → i < 64 → (place : ℕ) → place < length set
      → named_from place ≡ named_in masks place (get_or set place 0) i + named_from (place + 1)
  unfolding named_in
  from_next are inside primary low place here =
      let f : ℕ → Bool = λ x. names_item p x (first + i) && has set x in
      let g : ℕ → Bool = λ x. false in
      let h : ℕ → Bool = λ k. bit_at (get_or set place 0) k == 1 && bit_at (get_or masks (place * 64 + k) 0) i == 1 in
      let rest : ℕ = length set - (place + 1) in
      let room : 64 * (length set - place) ≡ 64 + 64 * rest = omega (arith, here) in
      let next : 64 * place + 64 ≡ 64 * (place + 1) = omega arith in
      let own = count_sum f g h (64 * place) 0 64 (λ k less.
      let x : ℕ = 64 * place + k in
      let at : (64 * place + k) / 64 ≡ place = omega (arith, less) in
      let bit : (64 * place + k) % 64 ≡ 0 + k = omega (arith, less) in
      let same : place * 64 + (0 + k) ≡ 64 * place + k = omega arith in
      let m : Bool = bit_at (get_or masks (place * 64 + (0 + k)) 0) i == 1 in
      let set_is : (bit_at (get_or set place 0) (0 + k) == 1) ≡ has set x = ap (λ j. bit_at (get_or set j 0) (0 + k) == 1) (sym at) ∙ ap (λ j. bit_at (get_or set (x / 64) 0) j == 1) (sym bit) in
      let meant : has set x ≡ true → m ≡ names_item p x (first + i) = λ set_here.
      ap (λ n. bit_at (get_or masks n 0) i == 1) same ∙ are.each x (inside x set_here) i low ∙ ap (λ b. b && names_item p x (first + i)) (lt-ltb (first + i) p.primary primary) in
      omega (arith, ap (λ c. one (c && m)) set_is, table (names_item p x (first + i)) (has set x) m meant)) in
      let none = count_none g (64 * place) 64 (λ k less. refl) in
      omega (arith, ap (λ n. count_by f (range_with_len (64 * place) n)) room, count_split f (64 * place) 64 (64 * rest), own, none, ap (λ n. count_by f (range_with_len n (64 * rest))) next)
    where
      table : (n s m : Bool) → (s ≡ true → m ≡ n) → one (n && s) ≡ one (s && m)
      table true true m k = ap one (sym (k refl))
      table false true m k = ap one (sym (k refl))
      table true false m k = refl
      table false false m k = refl

-- no uncovered item has more live options once one more option is chosen
pub planes_fewer : (p : Problem) (os : List ℕ) (o first n : ℕ) (before live : List ℕ) (old new : Planes) → IsLive p os before → IsLive p (os ++ o ∷ []) live
    → ArePlanes p os first old → ArePlanes p (os ++ o ∷ []) first new → ((i : ℕ) → i < 64 → count_at old i < n)
    → (i : ℕ) → i < 64 → bit_at new.uncovered i ≡ 1 → count_at new i < n
planes_fewer p os o first n before live old new was now are next few i low here =
    let primary = ((next.uncovered i low).0 here).0 in
    let less = named_part p before live (first + i) (was.words ∙ sym now.words) (live_part p os o before live was now) in
    omega (arith, less, named_live p os before (first + i) was, named_live p (os ++ o ∷ []) live (first + i) now, are.counted i low primary, next.counted i low primary, few i low)
