-- What the verdict on a list of options says of it.
use Rattle.std.proofs.Common.{◌≡◌, ℕ, ◌<◌, ◌≤◌, ◌↔◌, Bool, true, false, not, cond, ◌&&◌, ◌==◌, ◌⊎◌, nat_lt, nat_le, List, [], length, count_by, Option, Some, None, refl, ap, ◌∙◌, arith, inl, inr}
use Rattle.std.proofs.lemmas.Bool.Decides.{nat_tests}
use Rattle.std.proofs.lemmas.Bool.{both_ways, cases_Bool, cases_lt, lt-ltb, ltb-true, lt-leb, leb-false, and_left, and_right, and_cases, and_parts, not-false, not_from_true}
use Rattle.std.proofs.lemmas.List.Sums.{list_all-from_AllPass}
use Rattle.std.specs.List.{range_with_len}
use Rattle.std.proofs.Math.Bool.{and-false}
use Rattle.cover_problem.specs.ExactCover.{uses, IsInOneColour, IsExactCover}
use Rattle.cover_problem.specs.Numbers.{is_in, is_distinct}
use Rattle.cover_problem.specs.Prefix.{are_options, AreOptions}
use Rattle.cover_problem.specs.Problem.{Problem, IsProblem, option_numbers, items_of, names_item}
use Rattle.cover_problem.specs.Verdict.{verdict_of, first_uncovered, is_in_one_colour, is_covered_twice, first_twice, twice_or_exact, uncovered_or, TellsItemOf}
use Rattle.cover_problem.specs.declared.verdict.Verdict.TheVariants as verdicts
use Rattle.cover_problem.proofs.Among.{all_at, all_by, find_none_at, find_none_by, find_some_in, range_in, range_high}
use Rattle.cover_problem.proofs.Counts.{uses_of_list, count_none}
use Rattle.cover_problem.proofs.Sets.{count_some}
use Rattle.cover_problem.proofs.Shared.{in_one_colour, one_colour_in}

-- ---- options in range

pub are_options_by : (p : Problem) (options : List ℕ) → AreOptions p options → are_options p options ≡ true
are_options_by p options each =
    list_all-from_AllPass (λ o. nat_lt o (length p.options)) options (λ k d lt. lt-ltb _ _ (each k d lt))

pub option_within : (p : Problem) (options : List ℕ) (o : ℕ) → are_options p options ≡ true → is_in options o ≡ true → o < length p.options
option_within p options o each here = ltb-true o (length p.options) (all_at (λ x. nat_lt x (length p.options)) options o each here)

pub uses_counted : (p : Problem) (options : List ℕ) (item : ℕ) → AreOptions p options → is_distinct options ≡ true
    → uses p (is_in options) item ≡ count_by (λ o. names_item p o item) options
uses_counted p options item each distinct =
    uses_of_list p options item distinct (λ o here. option_within p options o (are_options_by p options each) here)

-- ---- items that no option names

unnamed : (p : Problem) (o item : ℕ) → IsProblem p → o < length p.options → length p.names ≤ item → names_item p o item ≡ false
unnamed p o item problem within beyond =
    elim (cases_Bool (names_item p o item)) [
      | inl named ↦ let below : item < length p.names = ltb-true item (length p.names) (all_at (λ i. nat_lt i (length p.names)) (items_of p o) item (problem.each_named o [] within) named) in
          absurd (omega arith)
      | inr other ↦ other
    ]

uses_unnamed : (p : Problem) (chosen : ℕ → Bool) (item : ℕ) → IsProblem p → length p.names ≤ item → uses p chosen item ≡ 0
uses_unnamed p chosen item problem beyond =
    count_none (λ o. chosen o && names_item p o item) (option_numbers p)
    (λ o here.
    let high = range_high 0 (length p.options) o here in
    ap (λ b. chosen o && b) (unnamed p o item problem (omega (arith, high)) beyond) ∙ and-false (chosen o))

-- ---- the verdict

-- nothing is wrong with the list
pub record Passes (p : Problem) (options : List ℕ) : Type 0 where
  pub within : are_options p options ≡ true
  pub distinct : is_distinct options ≡ true
  pub covered : first_uncovered p options ≡ None
  pub once : first_twice p options ≡ None

pub passes_exact : (p : Problem) (options : List ℕ) → Passes p options → verdict_of p options ≡ verdicts.Exact
passes_exact p options passes = rw (passes.within, passes.distinct, passes.covered, passes.once) refl

exact_passes : (p : Problem) (options : List ℕ) → verdict_of p options ≡ verdicts.Exact → Passes p options
exact_passes p options exact = within (are_options p options) (is_distinct options) (first_uncovered p options) (first_twice p options) refl refl refl refl exact
  where
    within : (a b : Bool) (c d : Option ℕ) → are_options p options ≡ a → is_distinct options ≡ b → first_uncovered p options ≡ c → first_twice p options ≡ d
        → cond (not a) verdicts.NoSuchOption (cond (not b) verdicts.ChosenTwice (uncovered_or c (twice_or_exact d))) ≡ verdicts.Exact
        → Passes p options
    within true true None None ea eb ec ed e = record { within = ea; distinct = eb; covered = ec; once = ed }
    within false b c d ea eb ec ed e = absurd (cc)
    within true false c d ea eb ec ed e = absurd (cc)
    within true true (Some item) d ea eb ec ed e = absurd (cc)
    within true true None (Some item) ea eb ec ed e = absurd (cc)

some_use : (n : ℕ) → (n == 0) ≡ false → 1 ≤ n
some_use n fails = elim (cases_Bool (nat_lt 0 n)) [
  | inl some ↦ let above = ltb-true 0 n some in omega arith
  | inr none ↦ grind (arith, nat_tests)
]

few_uses : (n : ℕ) → nat_le 2 n ≡ false → n ≤ 1
few_uses n fails = let few = leb-false 2 n fails in omega (arith, few)

-- an item that is not covered twice
once_or_shared : (p : Problem) (options : List ℕ) (item : ℕ) → is_covered_twice p options item ≡ false → (uses p (is_in options) item ≤ 1) ⊎ (is_in_one_colour p options item ≡ true)
unfolding is_covered_twice
once_or_shared p options item fails = elim (and_cases (nat_le 2 (uses p (is_in options) item)) (not (is_in_one_colour p options item)) fails) [
  | inl few ↦ inl (few_uses (uses p (is_in options) item) few)
  | inr shared ↦ inr (not-false (is_in_one_colour p options item) shared)
]

-- a primary item is in no colour
pub never_shared : (p : Problem) (options : List ℕ) (item : ℕ) → item < p.primary → is_in_one_colour p options item ≡ false
unfolding is_in_one_colour
never_shared p options item low = and_left (nat_le p.primary item) _ (lt-leb p.primary item low)

not_twice : (p : Problem) (options : List ℕ) (item : ℕ) → Passes p options → item < length p.names → is_covered_twice p options item ≡ false
not_twice p options item passes below =
    find_none_at (λ i. is_covered_twice p options i) (range_with_len 0 (length p.names)) item passes.once (range_in 0 (length p.names) item (omega arith) (omega arith))

pub exact_of_passes : (p : Problem) (options : List ℕ) → IsProblem p → Passes p options → IsExactCover p (is_in options)
exact_of_passes p options problem passes = record { in_range = λ o here. option_within p options o passes.within here; primary = primary; secondary = secondary }
  where
    primary : (item : ℕ) → item < p.primary → uses p (is_in options) item ≡ 1
    primary item low =
        let few = problem.primary in
        let one = some_use (uses p (is_in options) item) (find_none_at (λ i. uses p (is_in options) i == 0) (range_with_len 0 p.primary) item passes.covered (range_in 0 p.primary item (omega arith) (omega arith))) in
        elim (once_or_shared p options item (not_twice p options item passes (omega (arith, low, few)))) [
          | inl most ↦ omega (arith, one, most)
          | inr shared ↦ absurd (both_ways (is_in_one_colour p options item) (never_shared p options item low) shared)
        ]

    secondary : (item : ℕ) → p.primary ≤ item → (uses p (is_in options) item ≤ 1) ⊎ IsInOneColour p (is_in options) item
    secondary item high = elim (cases_lt item (length p.names)) [
      | inl named ↦ elim (once_or_shared p options item (not_twice p options item passes named)) [
        | inl few ↦ inl few
        | inr shared ↦ inr (in_one_colour p options item shared)
      ]
      | inr beyond ↦ let none = uses_unnamed p (is_in options) item problem beyond in inl (omega (arith, none))
    ]

no_zero : (n : ℕ) → n ≡ 1 → (n == 0) ≡ false
no_zero n e = grind (arith, nat_tests)

no_two : (n : ℕ) → n ≤ 1 → nat_le 2 n ≡ false
no_two n l = lt-leb 2 n (omega (arith, l))

pub named_at_most_once : (p : Problem) (options : List ℕ) (item : ℕ) → uses p (is_in options) item ≤ 1 → is_covered_twice p options item ≡ false
unfolding is_covered_twice
named_at_most_once p options item few = and_left (nat_le 2 (uses p (is_in options) item)) (not (is_in_one_colour p options item)) (no_two (uses p (is_in options) item) few)

-- an item that is named twice is in the one colour that the cover gives it
shared_in : (p : Problem) (options : List ℕ) (item : ℕ) → p.primary ≤ item → 1 < uses p (is_in options) item → IsInOneColour p (is_in options) item → is_in_one_colour p options item ≡ true
shared_in p options item high more shared =
    let w = count_some (λ o. is_in options o && names_item p o item) (option_numbers p) (omega (arith, more)) in
    let both = and_parts (is_in options w.0) (names_item p w.0 item) w.2 in
    one_colour_in p options item w.0 high both.0 both.1 shared

cover_not_twice : (p : Problem) (options : List ℕ) (item : ℕ) → IsExactCover p (is_in options) → is_covered_twice p options item ≡ false
unfolding is_covered_twice
cover_not_twice p options item cover =
    elim (cases_lt 1 (uses p (is_in options) item)) [
      | inr few ↦ named_at_most_once p options item few
      | inl more ↦ elim (cases_lt item p.primary) [
        | inl low ↦ let one = cover.primary item low in named_at_most_once p options item (omega (arith, one))
        | inr high ↦ elim (cover.secondary item high) [
          | inl few ↦ named_at_most_once p options item few
          | inr shared ↦
              and_right (nat_le 2 (uses p (is_in options) item)) (not (is_in_one_colour p options item))
              (not_from_true (is_in_one_colour p options item) (shared_in p options item high more shared))
        ]
      ]
    ]

all_within : (p : Problem) (options : List ℕ) → IsExactCover p (is_in options) → are_options p options ≡ true
all_within p options cover = all_by (λ o. nat_lt o (length p.options)) options (λ o here. lt-ltb o (length p.options) (cover.in_range o here))

pub passes_of_exact : (p : Problem) (options : List ℕ) → is_distinct options ≡ true → IsExactCover p (is_in options) → Passes p options
passes_of_exact p options distinct cover = record {
  within = all_within p options cover;
  distinct = distinct;
  covered = find_none_by (λ i. uses p (is_in options) i == 0) (range_with_len 0 p.primary)
      (λ item here. let high = range_high 0 p.primary item here in no_zero (uses p (is_in options) item) (cover.primary item (omega (arith, high))));
  once = find_none_by (λ i. is_covered_twice p options i) (range_with_len 0 (length p.names))
      (λ item here. cover_not_twice p options item cover);
}

pub verdict_exact : (p : Problem) (options : List ℕ) → IsProblem p → (verdict_of p options ≡ verdicts.Exact) ↔ ((is_distinct options ≡ true) × IsExactCover p (is_in options))
verdict_exact p options problem = (
  (λ exact. let passes = exact_passes p options exact in (passes.distinct, exact_of_passes p options problem passes)),
  (λ both. passes_exact p options (passes_of_exact p options both.0 both.1)),
)

-- ---- the item that is told

pub told_item : (p : Problem) (options : List ℕ) → IsProblem p → TellsItemOf p (verdict_of p options)
told_item p options problem = within (are_options p options) (is_distinct options) (first_uncovered p options) (first_twice p options) refl refl
  where
    within : (a b : Bool) (c d : Option ℕ) → first_uncovered p options ≡ c → first_twice p options ≡ d
        → TellsItemOf p (cond (not a) verdicts.NoSuchOption (cond (not b) verdicts.ChosenTwice (uncovered_or c (twice_or_exact d))))
    within false b c d ec ed = tt
    within true false c d ec ed = tt
    within true true (Some item) d ec ed =
        let high = range_high 0 p.primary item (find_some_in (λ i. uses p (is_in options) i == 0) (range_with_len 0 p.primary) item ec) in
        let few = problem.primary in omega (arith, high, few)
    within true true None (Some item) ec ed =
        let high = range_high 0 (length p.names) item (find_some_in (λ i. is_covered_twice p options i) (range_with_len 0 (length p.names)) item ed) in
        omega (arith, high)
    within true true None None ec ed = tt
