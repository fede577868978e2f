-- The lowest free option, by a test of each.
use Rattle.std.proofs.Common.{◌≡◌, ℕ, zero, suc, ◌+◌, ◌<◌, ◌≤◌, ◌⊎◌, List, length, Bool, true, not, ◌&&◌, ◌∙◌, sym, ap, refl, arith, inl, inr}
use Rattle.std.proofs.lemmas.Bool.{cases_Bool, cases_lt, both_ways, and_parts, and_from, not-true, not_from_false}
use Rattle.std.proofs.lemmas.Slice.Eq.{bytes_eq-Decides, slice_eq-Decides}
use Rattle.std.specs.Str.{bytes_eq}
use Rattle.std.specs.Cmp.Lexicographic.{pointwise}
use Rattle.cover_problem.specs.Problem.{Problem}
use Rattle.cover_problem.specs.Numbers.{is_in}
use Rattle.dlx_reader.specs.Writing.{option_words}
use Rattle.dlx_reader.specs.Answers.{IsFree, IsLowestFree}

-- ---- the lowest number that passes a test

pub record IsLeast (test : ℕ → Bool) (bound : ℕ) : Type 0 where
  pub number : ℕ
  pub passes : test number ≡ true
  pub bounded : number ≤ bound
  pub least : (other : ℕ) → test other ≡ true → number ≤ other

least_from : (test : ℕ → Bool) (left start bound : ℕ) → start + left ≡ bound → ((k : ℕ) → k < start → test k ≡ true → ⊥) → test bound ≡ true → IsLeast test bound
least_from test zero start bound is none hit =
    record {
      number = bound;
      passes = hit;
      bounded = omega arith;
      least = λ k passes. elim (cases_lt k bound) [ inl below ↦ let before : k < start = omega arith in absurd (none k before passes) | inr above ↦ above ];
    }
least_from test (suc left) start bound is none hit =
    elim (cases_Bool (test start)) [
      | inl here ↦
          record {
            number = start;
            passes = here;
            bounded = omega arith;
            least = λ k passes. elim (cases_lt k start) [ inl below ↦ absurd (none k below passes) | inr above ↦ above ];
          }
      | inr not_here ↦
          let rest : start + 1 + left ≡ bound = omega arith in
          least_from test left (start + 1) bound rest
          (λ k before passes.
          elim (cases_lt k start) [
            | inl below ↦ none k below passes
            | inr above ↦
                let same : k ≡ start = omega arith in
                both_ways (test start) not_here (ap test (sym same) ∙ passes)
          ])
          hit
    ]

least_of : (test : ℕ → Bool) (bound : ℕ) → test bound ≡ true → IsLeast test bound
least_of test bound hit = least_from test bound 0 bound (omega arith) (λ k below passes. absurd (omega arith)) hit

-- ---- free options, by a test

-- whether an option is free, but for its range
abbrev pub is_free : Problem → List ℕ → List (List ℕ) → ℕ → Bool
is_free p used words o = not (is_in used o) && pointwise bytes_eq (option_words p o) words

pub free_from_test : (p : Problem) (used : List ℕ) (words : List (List ℕ)) (o : ℕ) → o < length p.options → is_free p used words o ≡ true → IsFree p used words o
free_from_test p used words o inside passes =
    let parts = and_parts (not (is_in used o)) (pointwise bytes_eq (option_words p o) words) passes in
    record { in_range = inside; unused = not-true (is_in used o) parts.0; named = (slice_eq-Decides bytes_eq-Decides (option_words p o) words _ refl).0 parts.1 }

pub test_from_free : (p : Problem) (used : List ℕ) (words : List (List ℕ)) (o : ℕ) → IsFree p used words o → is_free p used words o ≡ true
test_from_free p used words o free =
    and_from (not (is_in used o)) (pointwise bytes_eq (option_words p o) words) (not_from_false (is_in used o) free.unused) ((slice_eq-Decides bytes_eq-Decides (option_words p o) words _ refl).1 free.named)

-- where an option is free, one is the lowest
pub lowest_of : (p : Problem) (used : List ℕ) (words : List (List ℕ)) (o : ℕ) → IsFree p used words o → (k : ℕ) × (k ≤ o) × IsLowestFree p used words k
lowest_of p used words o free =
    let least = least_of (is_free p used words) o (test_from_free p used words o free) in (
      least.number,
      least.bounded,
      record {
        free = free_from_test p used words least.number (omega (arith, least.bounded, free.in_range)) least.passes;
        lowest = λ other is. least.least other (test_from_free p used words other is);
      },
    )

some_passes : (test : ℕ → Bool) (n : ℕ) → ((k : ℕ) × (k < n) × (test k ≡ true)) ⊎ ((k : ℕ) → k < n → test k ≡ true → ⊥)
some_passes test zero = inr (λ k below passes. absurd (omega arith))
some_passes test (suc n) =
    elim (cases_Bool (test n)) [
      | inl here ↦ inl (n, omega arith, here)
      | inr not_here ↦
          elim (some_passes test n) [
            | inl found ↦ inl (found.0, omega (arith, found.1), found.2)
            | inr none ↦
                inr (λ k below passes.
                elim (cases_lt k n) [
                  | inl less ↦ none k less passes
                  | inr rest ↦
                      let same : k ≡ n = omega arith in
                      both_ways (test n) not_here (ap test (sym same) ∙ passes)
                ])
          ]
    ]

-- an option is the lowest free one, or none is free
pub lowest_or_none : (p : Problem) (used : List ℕ) (words : List (List ℕ)) → ((k : ℕ) × IsLowestFree p used words k) ⊎ ((o : ℕ) → IsFree p used words o → ⊥)
lowest_or_none p used words =
    elim (some_passes (is_free p used words) (length p.options)) [
      | inl found ↦ let lowest = lowest_of p used words found.0 (free_from_test p used words found.0 found.1 found.2) in inl (lowest.0, lowest.2)
      | inr none ↦ inr (λ o free. none o free.in_range (test_from_free p used words o free))
    ]
