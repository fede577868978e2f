-- Numbers that stand in a list twice, by marks of those that were seen.
use Rattle.std.proofs.Common.{◌≡◌, ℕ, zero, suc, ◌+◌, ◌<◌, List, [], ◌∷◌, ◌++◌, length, take, get_or, set, Bool, true, false, not, ◌&&◌, ◌||◌, ◌==◌, inl, inr, length-set, refl, sym, ap, ◌∙◌, subst, arith}
use Rattle.std.proofs.lemmas.List.{get_or-set_other, get_or-set_same, take_more, length-replicate, get_or-replicate}
use Rattle.std.proofs.Math.ListN.{replicate}
use Rattle.std.proofs.lemmas.List.Folds.{list_any-append}
use Rattle.std.proofs.lemmas.Bool.{cases_eq, both_ways, or_left, or_right, or_cases, or_parts, or_from, and_parts, and_from, not-true, not_from_false, eq-eqb, ne_eqb, eqb-true, eqb-false}
use Rattle.std.proofs.Math.Bool.{and-false}
use Rattle.cover_problem.specs.Numbers.{is_in, is_distinct}
use Rattle.cover_problem.proofs.Colours.{get_in}

-- each number's mark says whether it stands in the list
abbrev pub AreMarks : List Bool → List ℕ → Type 0
AreMarks marks seen = (n : ℕ) → n < length marks → get_or marks n false ≡ is_in seen n

pub push_same : (seen : List ℕ) (n : ℕ) → is_in (seen ++ n ∷ []) n ≡ true
push_same seen n = list_any-append (λ m. m == n) seen (n ∷ []) ∙ or_right (is_in seen n) (n == n || false) (or_left (n == n) false (eq-eqb n n refl))

pub push_other : (seen : List ℕ) (n k : ℕ) → (n ≡ k → ⊥) → is_in (seen ++ n ∷ []) k ≡ is_in seen k
push_other [] n k other = rw (ne_eqb n k other) refl
push_other (m ∷ seen) n k other = ap (λ b. m == k || b) (push_other seen n k other)

-- one more number is marked
marks_push : (marks : List Bool) (seen : List ℕ) (n : ℕ) → n < length marks → AreMarks marks seen → AreMarks (set marks n true) (seen ++ n ∷ [])
marks_push marks seen n inside are k h =
    let within : k < length marks = omega (arith, length-set marks n true) in
    elim (cases_eq k n) [
      | inl same ↦
          let P : ℕ → Type 0 = λ i. get_or (set marks n true) i false ≡ is_in (seen ++ n ∷ []) i in
          subst P (sym same) (get_or-set_same marks n true false inside ∙ sym (push_same seen n))
      | inr other ↦ get_or-set_other marks n k true false other ∙ are k within ∙ sym (push_other seen n k (λ e. other (sym e)))
    ]

-- a list with one more number, which doesn't stand in it
pub is_distinct-push : (numbers : List ℕ) (n : ℕ) → is_distinct numbers ≡ true → is_in numbers n ≡ false → is_distinct (numbers ++ n ∷ []) ≡ true
is_distinct-push [] n h fresh = refl
is_distinct-push (first ∷ numbers) n h fresh =
    let parts = and_parts (not (is_in numbers first)) (is_distinct numbers) h in
    let apart = or_parts (first == n) (is_in numbers n) fresh in
    let other : (n == first) ≡ false = ne_eqb n first (λ e. eqb-false first n apart.0 (sym e)) in
    and_from (not (is_in (numbers ++ n ∷ []) first)) (is_distinct (numbers ++ n ∷ []))
    (not_from_false (is_in (numbers ++ n ∷ []) first) (list_any-append (λ m. m == first) numbers (n ∷ []) ∙ or_from (is_in numbers first) ((n == first) || false) (not-true (is_in numbers first) parts.0) (or_from (n == first) false other refl)))
    (is_distinct-push numbers n parts.1 apart.1)

-- ---- a list up to a place, where no number stands twice

pub record Seen (marks : List Bool) (numbers : List ℕ) (place : ℕ) : Type 0 where
  pub long : length marks ≡ 65536
  pub marked : AreMarks marks (take place numbers)
  pub distinct : is_distinct (take place numbers) ≡ true

pub seen_none : (marks : List Bool) (numbers : List ℕ) (count : ℕ) → count ≡ 65536 → marks ≡ replicate count false → Seen marks numbers 0
seen_none marks numbers count long is =
    let length_is : length marks ≡ count = ap length is ∙ length-replicate count false in
    record {
      long = length_is ∙ long;
      marked = λ n h. ap (λ bs. get_or bs n false) is ∙ get_or-replicate count n false false (omega (arith, h, length_is));
      distinct = refl;
    }

pub seen_more : (marks : List Bool) (numbers : List ℕ) (place n : ℕ) → Seen marks numbers place → place < length numbers → get_or numbers place 0 ≡ n → n < 65536 → get_or marks n false ≡ false → Seen (set marks n true) numbers (place + 1)
seen_more marks numbers place n seen inside here small unmarked =
    let within : n < length marks = omega (arith, seen.long) in
    let front : take (place + 1) numbers ≡ take place numbers ++ n ∷ [] = take_more numbers place 0 inside ∙ ap (λ m. take place numbers ++ m ∷ []) here in
    record {
      long = length-set marks n true ∙ seen.long;
      marked = rw front (marks_push marks (take place numbers) n within seen.marked);
      distinct = rw front (is_distinct-push (take place numbers) n seen.distinct (sym (seen.marked n within) ∙ unmarked));
    }

pub repeated : (xs : List ℕ) (k : ℕ) → k < length xs → is_in (take k xs) (get_or xs k 0) ≡ true → is_distinct xs ≡ false
repeated [] k h twice = absurd (omega arith)
repeated (x ∷ xs) zero h twice = absurd (both_ways false refl twice)
repeated (x ∷ xs) (suc k) h twice =
    let inside : k < length xs = omega arith in
    elim (or_cases (x == get_or xs k 0) (is_in (take k xs) (get_or xs k 0)) twice) [
      | inl same ↦
          let again : is_in xs x ≡ true = ap (is_in xs) (eqb-true x (get_or xs k 0) same) ∙ get_in xs k inside in
          ap (λ b. not b && is_distinct xs) again
      | inr later ↦ ap (λ b. not (is_in xs x) && b) (repeated xs k inside later) ∙ and-false (not (is_in xs x))
    ]

-- a number that was seen stands in the list twice
pub seen_again : (marks : List Bool) (numbers : List ℕ) (place n : ℕ) → Seen marks numbers place → place < length numbers → get_or numbers place 0 ≡ n → n < 65536 → get_or marks n false ≡ true → is_distinct numbers ≡ false
seen_again marks numbers place n seen inside here small marked =
    let within : n < length marks = omega (arith, seen.long) in
    repeated numbers place inside (ap (is_in (take place numbers)) here ∙ sym (seen.marked n within) ∙ marked)
