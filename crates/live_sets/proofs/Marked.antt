-- The marks of covered items, and the live options, with one more option chosen.
use Rattle.std.proofs.Common.{◌≡◌, ℕ, ◌+◌, ◌<◌, ◌≤◌, List, [], ◌∷◌, ◌++◌, length, take, get_or, set, filter, Bool, true, false, not, nat_lt, ◌==◌, ◌&&◌, ◌||◌, bit_or, refl, arith, sym, ap, ◌∙◌, inl, inr}
use Rattle.std.specs.List.{All}
use Rattle.std.proofs.lemmas.Bool.{cases_eq, cases_Bool, both_ways, eq-eqb, ne_eqb, lt-ltb, ltb-true, and_from, or_cases, or_left, or_right}
use Rattle.std.proofs.lemmas.List.{get_or-set_same, get_or-set_other}
use Rattle.std.proofs.lemmas.List.Elements.{All-get_or, All-from_get_or}
use Rattle.std.proofs.lemmas.List.Folds.{list_all-append, list_any_more}
use Rattle.std.proofs.lemmas.Nat.{le_or_r}
use Rattle.cover_problem.specs.Numbers.{is_in, some_below}
use Rattle.cover_problem.specs.Prefix.{clash, is_covered, is_live}
use Rattle.cover_problem.specs.Problem.{Problem, IsProblem, items_of, names_item}
use Rattle.cover_problem.proofs.Prefixes.{covered_more}
use Rattle.cover_problem.proofs.Among.{in_filter, some_with}
use Rattle.cover_problem.proofs.Colours.{get_in}
use Rattle.cover_problem.proofs.Sets.{in_filtered}
use Rattle.option_sets.specs.Sets.{has, words_of}
use Rattle.live_sets.specs.Counting.{IsLive, AreMarked}

-- ---- while keys are marked

module _ (items old new : List ℕ) (n : ℕ) (inside : n < length items) (low : get_or items n 0 < length new) where
  more : (i : ℕ) → is_in (take (n + 1) items) i ≡ (is_in (take n items) i || (get_or items n 0 == i))
  more i = list_any_more (λ m. m == i) items n 0 inside

  pub marked_more : ((i : ℕ) → is_in (take n items) i ≡ true → 2147483648 ≤ get_or new i 0)
      → (i : ℕ) → is_in (take (n + 1) items) i ≡ true → 2147483648 ≤ get_or (set new (get_or items n 0) (bit_or (get_or new (get_or items n 0) 0) 2147483648)) i 0
  marked_more before i here = elim (cases_eq i (get_or items n 0)) [
    | inl e ↦ rw (e, get_or-set_same new (get_or items n 0) (bit_or (get_or new (get_or items n 0) 0) 2147483648) 0 low) (le_or_r (get_or new (get_or items n 0) 0) 2147483648)
    | inr d ↦ rw (get_or-set_other new (get_or items n 0) i (bit_or (get_or new (get_or items n 0) 0) 2147483648) 0 d)
        (elim (or_cases (is_in (take n items) i) (get_or items n 0 == i) (sym (more i) ∙ here)) [
          | inl h ↦ before i h
          | inr h ↦ absurd (both_ways (get_or items n 0 == i) (ne_eqb (get_or items n 0) i (λ e. d (sym e))) h)
        ])
  ]

  pub kept_more : ((i : ℕ) → is_in (take n items) i ≡ false → get_or new i 0 ≡ get_or old i 0)
      → (i : ℕ) → is_in (take (n + 1) items) i ≡ false → get_or (set new (get_or items n 0) (bit_or (get_or new (get_or items n 0) 0) 2147483648)) i 0 ≡ get_or old i 0
  kept_more before i none = elim (cases_Bool (is_in (take n items) i)) [
    | inl h ↦ absurd (both_ways (is_in (take (n + 1) items) i) none (more i ∙ or_left (is_in (take n items) i) (get_or items n 0 == i) h))
    | inr off ↦ elim (cases_eq i (get_or items n 0)) [
      | inl e ↦ absurd (both_ways (is_in (take (n + 1) items) i) none (more i ∙ or_right (is_in (take n items) i) (get_or items n 0 == i) (eq-eqb (get_or items n 0) i (sym e))))
      | inr d ↦ get_or-set_other new (get_or items n 0) i (bit_or (get_or new (get_or items n 0) 0) 2147483648) 0 d ∙ before i off
    ]
  ]

-- ---- with one more option

-- the marks then
pub marked_next : (p : Problem) (prefix : List ℕ) (o : ℕ) (items old new : List ℕ) → items ≡ filter (λ i. nat_lt i p.primary) (items_of p o) → AreMarked p prefix old → length new ≡ length old
    → ((i : ℕ) → is_in items i ≡ true → 2147483648 ≤ get_or new i 0) → ((i : ℕ) → is_in items i ≡ false → get_or new i 0 ≡ get_or old i 0) → AreMarked p (prefix ++ o ∷ []) new
marked_next p prefix o items old new are before long marked kept = record {
  count = long ∙ before.count;
  each = λ item primary.
      let its = before.each item primary in
      let named : is_in items item ≡ names_item p o item =
      ap (λ (is : List ℕ). is_in is item) are ∙ in_filtered (λ i. nat_lt i p.primary) (items_of p o) item ∙ ap (λ b. b && is_in (items_of p o) item) (lt-ltb item p.primary primary) in
      let both = covered_more p prefix o item in
      record {
        covered = λ hit. elim (cases_Bool (is_in items item)) [
          | inl own ↦ marked item own
          | inr other ↦ elim (or_cases (is_covered p prefix item) (names_item p o item || false) (sym both ∙ hit)) [
            | inl former ↦ omega (arith, kept item other, its.covered former)
            | inr now ↦ elim (or_cases (names_item p o item) false now) [
              | inl h ↦ absurd (both_ways (is_in items item) other (named ∙ h))
              | inr h ↦ absurd (both_ways false refl h)
            ]
          ]
        ];
        uncovered = λ free. elim (cases_Bool (is_in items item)) [
          | inl own ↦ absurd (both_ways (is_covered p (prefix ++ o ∷ []) item) free (both ∙ or_right (is_covered p prefix item) (names_item p o item || false) (or_left (names_item p o item) false (sym named ∙ own))))
          | inr other ↦ elim (cases_Bool (is_covered p prefix item)) [
            | inl former ↦ absurd (both_ways (is_covered p (prefix ++ o ∷ []) item) free (both ∙ or_left (is_covered p prefix item) (names_item p o item || false) former))
            | inr bare ↦ omega (arith, kept item other, its.uncovered bare)
          ]
        ];
      };
}

-- the live options then
pub live_more : (p : Problem) (prefix : List ℕ) (o : ℕ) (old new : List ℕ) → IsLive p prefix old → length new ≡ words_of p → ((x : ℕ) → has new x ≡ (has old x && not (clash p o x))) → IsLive p (prefix ++ o ∷ []) new
live_more p prefix o old new before long each = record {
  words = long;
  exact = λ x.
      each x ∙ ap (λ b. b && not (clash p o x)) (before.exact x) ∙ turn (nat_lt x (length p.options)) (is_live p prefix x) (not (clash p o x))
      ∙ ap (λ b. nat_lt x (length p.options) && b) (sym (list_all-append (λ q. not (clash p q x)) prefix (o ∷ [])));
}
  where
    turn : (a b c : Bool) → ((a && b) && c) ≡ (a && (b && (c && true)))
    turn true true true = refl
    turn true true false = refl
    turn true false c = refl
    turn false b c = refl

-- before anything is chosen
pub marked_none : (p : Problem) (keys : List ℕ) → length keys ≡ p.primary → ((i : ℕ) → get_or keys i 0 ≡ 0) → AreMarked p [] keys
marked_none p keys long zeros = record {
  count = long;
  each = λ item primary. record { covered = λ hit. absurd (both_ways false refl hit); uncovered = λ free. omega (arith, zeros item) };
}

pub live_none : (p : Problem) (words : List ℕ) → length words ≡ words_of p → ((x : ℕ) → has words x ≡ nat_lt x (length p.options)) → IsLive p [] words
live_none p words long each = record {
  words = long;
  exact = λ x. each x ∙ turn (nat_lt x (length p.options));
}
  where
    turn : (a : Bool) → a ≡ (a && true)
    turn true = refl
    turn false = refl

-- ---- the primary items of an option

pub primary_all : (p : Problem) (o : ℕ) (items : List ℕ) (n : ℕ) → items ≡ filter (λ i. nat_lt i p.primary) (items_of p o) → n ≡ p.primary → All (λ i. i < n) items
primary_all p o items n are is = All-from_get_or (λ i. i < n) items 0 (λ k within.
    let here : is_in (filter (λ i. nat_lt i p.primary) (items_of p o)) (get_or items k 0) ≡ true = ap (λ (js : List ℕ). is_in js (get_or items k 0)) (sym are) ∙ get_in items k within in
    omega (arith, is, ltb-true (get_or items k 0) p.primary (in_filter (λ i. nat_lt i p.primary) (items_of p o) (get_or items k 0) here).1))

some_in : (xs : List ℕ) (x : ℕ) → is_in xs x ≡ true → 0 < length xs
some_in [] x h = absurd (both_ways false refl h)
some_in (y ∷ ys) x h = omega arith

-- there is one
pub primary_some : (p : Problem) (o : ℕ) (items : List ℕ) → IsProblem p → o < length p.options → items ≡ filter (λ i. nat_lt i p.primary) (items_of p o) → 0 < length items
primary_some p o items is inside are =
    let P : List ℕ → Type 0 = λ its. some_below p.primary its ≡ true in
    let some : some_below p.primary (items_of p o) ≡ true = All-get_or P p.options o [] inside is.each_primary in
    let item = some_with (λ i. nat_lt i p.primary) (items_of p o) some in
    let here : is_in items item.0 ≡ true = ap (λ (js : List ℕ). is_in js item.0) are ∙ in_filtered (λ i. nat_lt i p.primary) (items_of p o) item.0 ∙ and_from (nat_lt item.0 p.primary) (is_in (items_of p o) item.0) item.2 item.1 in
    some_in items item.0 here
