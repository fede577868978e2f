-- The options of an exact cover do not clash, and options that do not clash cover no item that they name too often.
use Rattle.std.proofs.Common.{◌≡◌, ℕ, ◌<◌, ◌≤◌, Bool, true, false, not, ◌&&◌, ◌==◌, ◌⊎◌, List, [], ◌∷◌, length, sym, ap, ◌∙◌, subst, inl, inr, arith}
use Rattle.std.proofs.lemmas.Bool.{eqb-true, or_cases, and_parts, and_from, true≢false, not-true, both_ways, cases_eq, cases_lt}
use Rattle.cover_problem.specs.Problem.{Problem, option_numbers, names_item, colour_of}
use Rattle.cover_problem.specs.Numbers.{is_in}
use Rattle.cover_problem.specs.ExactCover.{uses, IsInOneColour, IsExactCover}
use Rattle.cover_problem.specs.Prefix.{agree, clash, is_live, are_apart}
use Rattle.cover_problem.proofs.Among.{all_at, range_in}
use Rattle.cover_problem.proofs.Clashes.{agreement, agree_by, agree_clash, clash_agree, clash_both, plain_apart}
use Rattle.cover_problem.proofs.Sets.{count_one, count_some}
use Rattle.cover_problem.proofs.Counts.{count_at_most}

module _ (problem : Problem) (chosen : ℕ → Bool) (cover : IsExactCover problem chosen) where
  option_in : (o : ℕ) → chosen o ≡ true → is_in (option_numbers problem) o ≡ true
  option_in o co = let l = cover.in_range o co in range_in 0 (length problem.options) o (omega arith) (omega (arith, l))

  -- two options of a cover that name an item which is named once are one
  same_option : (item o p : ℕ) → uses problem chosen item ≤ 1 → chosen o ≡ true → chosen p ≡ true → names_item problem o item ≡ true → names_item problem p item ≡ true → o ≡ p
  same_option item o p once co cp on_it np =
      count_one (λ x. chosen x && names_item problem x item) (option_numbers problem) once o p
      (option_in o co) (option_in p cp) (and_from (chosen o) (names_item problem o item) co on_it) (and_from (chosen p) (names_item problem p item) cp np)

  -- two options of a cover agree on each item that both name
  chosen_agree : (item o p : ℕ) → chosen o ≡ true → chosen p ≡ true → (o ≡ p → ⊥) → names_item problem o item ≡ true → names_item problem p item ≡ true → agree problem o p item ≡ true
  chosen_agree item o p co cp other on_it np =
      elim (cases_lt item problem.primary) [
        | inl low ↦ let one = cover.primary item low in absurd (other (same_option item o p (omega (arith, one)) co cp on_it np))
        | inr high ↦ elim (cover.secondary item high) [
          | inl once ↦ absurd (other (same_option item o p once co cp on_it np))
          | inr shared ↦
              let first = shared.each o co on_it in
              let some = shared.some in
              agree_by problem o p item high (omega (arith, first, some)) (first ∙ sym (shared.each p cp np))
        ]
      ]

  pub chosen_apart : (o p : ℕ) → chosen o ≡ true → chosen p ≡ true → (o ≡ p → ⊥) → clash problem o p ≡ false
  chosen_apart o p co cp other = agree_clash problem o p (λ item on_it np. chosen_agree item o p co cp other on_it np)

module _ (problem : Problem) where
  -- two of a list of options that do not clash
  apart_both : (xs : List ℕ) → are_apart problem xs ≡ true → (a b : ℕ) → is_in xs a ≡ true → is_in xs b ≡ true → (a ≡ b → ⊥) → clash problem a b ≡ false
  apart_both [] h a b i j other = absurd (true≢false (sym i))
  apart_both (x ∷ xs) h a b i j other =
      let q = and_parts (is_live problem xs x) (are_apart problem xs) h in
      elim (or_cases (x == a) (is_in xs a) i) [
        | inl e ↦ elim (or_cases (x == b) (is_in xs b) j) [
          | inl f ↦ absurd (other (sym (eqb-true x a e) ∙ eqb-true x b f))
          | inr f ↦ clash_both problem b a (off a b q.0 e f)
        ]
        | inr e ↦ elim (or_cases (x == b) (is_in xs b) j) [
          | inl f ↦ off b a q.0 f e
          | inr f ↦ apart_both xs q.1 a b e f other
        ]
      ]
    where
      off : (c d : ℕ) → is_live problem xs x ≡ true → (x == c) ≡ true → is_in xs d ≡ true → clash problem d c ≡ false
      off c d live e f = subst (λ y. clash problem d y ≡ false) (eqb-true x c e) (not-true (clash problem d x) (all_at (λ q. not (clash problem q x)) xs d live f))

  apart_agree : (xs : List ℕ) → are_apart problem xs ≡ true → (item a b : ℕ) → is_in xs a ≡ true → is_in xs b ≡ true → (a ≡ b → ⊥) → names_item problem a item ≡ true → names_item problem b item ≡ true → agree problem a b item ≡ true
  apart_agree xs h item a b i j other m n = clash_agree problem a b item (apart_both xs h a b i j other) m n

  -- where the options of a list that name the item are one, it is named once
  named_once : (xs : List ℕ) (item : ℕ) → ((a b : ℕ) → is_in xs a ≡ true → is_in xs b ≡ true → names_item problem a item ≡ true → names_item problem b item ≡ true → a ≡ b) → uses problem (is_in xs) item ≤ 1
  named_once xs item same =
      count_at_most (λ o. is_in xs o && names_item problem o item) 0 (length problem.options)
      (λ a b p q.
      let x = and_parts (is_in xs a) (names_item problem a item) p in
      let y = and_parts (is_in xs b) (names_item problem b item) q in
      same a b x.0 y.0 x.1 y.1)

  pub apart_primary : (xs : List ℕ) → are_apart problem xs ≡ true → (item : ℕ) → item < problem.primary → uses problem (is_in xs) item ≤ 1
  apart_primary xs h item low = named_once xs item (λ a b i j m n. elim (cases_eq a b) [
    | inl same ↦ same
    | inr other ↦ absurd (both_ways (agree problem a b item) (plain_apart problem a b item low) (apart_agree xs h item a b i j other m n))
  ])

  -- an option without a colour is the only one that names the item
  plain_alone : (xs : List ℕ) → are_apart problem xs ≡ true → (item a b : ℕ) → is_in xs a ≡ true → is_in xs b ≡ true → names_item problem a item ≡ true → names_item problem b item ≡ true → colour_of problem a item ≡ 0 → a ≡ b
  plain_alone xs h item a b i j m n none = elim (cases_eq a b) [
    | inl same ↦ same
    | inr other ↦ let some = (agreement problem a b item (apart_agree xs h item a b i j other m n)).some in absurd (omega (arith, none, some))
  ]

  -- the colour of one that names the item is the colour of all
  one_colour : (xs : List ℕ) → are_apart problem xs ≡ true → (item a : ℕ) → is_in xs a ≡ true → names_item problem a item ≡ true → (uses problem (is_in xs) item ≤ 1) ⊎ IsInOneColour problem (is_in xs) item
  one_colour xs h item a i m = elim (cases_eq (colour_of problem a item) 0) [
    | inl none ↦ inl (named_once xs item (λ b c j k n l. sym (plain_alone xs h item a b i j m n none) ∙ plain_alone xs h item a c i k m l none))
    | inr some ↦ inr (record {
      colour = colour_of problem a item;
      some = omega (arith, some);
      each = λ b j n. elim (cases_eq a b) [
        | inl same ↦ ap (λ o. colour_of problem o item) (sym same)
        | inr other ↦ sym (agreement problem a b item (apart_agree xs h item a b i j other m n)).same
      ];
    })
  ]

  pub apart_secondary : (xs : List ℕ) → are_apart problem xs ≡ true → (item : ℕ) → (uses problem (is_in xs) item ≤ 1) ⊎ IsInOneColour problem (is_in xs) item
  apart_secondary xs h item = elim (cases_lt 1 (uses problem (is_in xs) item)) [
    | inl more ↦
        let w = count_some (λ o. is_in xs o && names_item problem o item) (option_numbers problem) (omega (arith, more)) in
        let both = and_parts (is_in xs w.0) (names_item problem w.0 item) w.2 in
        one_colour xs h item w.0 both.0 both.1
    | inr few ↦ inl few
  ]
