-- Problems without colours: options that have an item in common clash, and an exact cover names no item twice.
use Rattle.std.proofs.Common.{◌≡◌, ℕ, ◌<◌, ◌≤◌, Bool, true, ◌&&◌, length, inl, inr, sym, ◌∙◌, arith}
use Rattle.std.specs.List.{list_any}
use Rattle.std.proofs.lemmas.Bool.{and_parts, both_ways, cases_Bool, cases_lt, false_from_ne_true}
use Rattle.cover_problem.specs.ExactCover.{uses, IsInOneColour, IsExactCover}
use Rattle.cover_problem.specs.Prefix.{clash}
use Rattle.cover_problem.specs.Problem.{Problem, IsProblem, items_of, names_item, option_numbers}
use Rattle.cover_problem.proofs.Among.{any_at, some_with}
use Rattle.cover_problem.proofs.Clashes.{clash_by, clash_item, colourless_apart}
use Rattle.cover_problem.proofs.Colours.{colour_named}
use Rattle.cover_problem.proofs.Sets.{count_some}

module _ (problem : Problem) (lawful : IsProblem problem) (none : length problem.colour_names ≡ 0) where
  common : (o p : ℕ) → o < length problem.options → list_any (λ item. names_item problem p item) (items_of problem o) ≡ true → clash problem o p ≡ true
  common o p within h =
      let w = some_with (λ item. names_item problem p item) (items_of problem o) h in
      clash_by problem o p w.0 w.1 w.2 (colourless_apart problem o p w.0 lawful within none)

  -- where the options of a set share an item in one colour, none of them names it
  never_shared : (chosen : ℕ → Bool) (item : ℕ) → IsExactCover problem chosen → 1 < uses problem chosen item → IsInOneColour problem chosen item → ⊥
  never_shared chosen item cover more shared =
      let w = count_some (λ o. chosen o && names_item problem o item) (option_numbers problem) (omega (arith, more)) in
      let both = and_parts (chosen w.0) (names_item problem w.0 item) w.2 in
      let given = shared.each w.0 both.0 both.1 in
      let named = colour_named problem w.0 item lawful (cover.in_range w.0 both.0) in
      let some = shared.some in
      absurd (omega (arith, none, given, named, some))

  once : (chosen : ℕ → Bool) (item : ℕ) → IsExactCover problem chosen → uses problem chosen item ≤ 1
  once chosen item cover = elim (cases_lt item problem.primary) [
    | inl low ↦ let one = cover.primary item low in omega (arith, one)
    | inr high ↦ elim (cover.secondary item high) [
      | inl few ↦ few
      | inr shared ↦ elim (cases_lt 1 (uses problem chosen item)) [
        | inl more ↦ absurd (never_shared chosen item cover more shared)
        | inr few ↦ few
      ]
    ]
  ]

pub plain_clash : (problem : Problem) (o p : ℕ) → IsProblem problem → length problem.colour_names ≡ 0 → o < length problem.options → clash problem o p ≡ list_any (λ item. names_item problem p item) (items_of problem o)
plain_clash problem o p lawful none within = elim (cases_Bool (list_any (λ item. names_item problem p item) (items_of problem o))) [
  | inl some ↦ common problem lawful none o p within some ∙ sym some
  | inr apart ↦ false_from_ne_true (clash problem o p) (λ h.
      let w = clash_item problem o p h in
      both_ways (list_any (λ item. names_item problem p item) (items_of problem o)) apart (any_at (λ item. names_item problem p item) (items_of problem o) w.item w.first w.second))
      ∙ sym apart
]

pub plain_once : (problem : Problem) (chosen : ℕ → Bool) (item : ℕ) → IsProblem problem → length problem.colour_names ≡ 0 → IsExactCover problem chosen → uses problem chosen item ≤ 1
plain_once problem chosen item lawful none cover = once problem lawful none chosen item cover
