-- Items to which all options of a list that name them give one colour.
use Rattle.std.proofs.Common.{◌≡◌, ℕ, ◌≤◌, true, not, ◌||◌, ◌==◌, nat_le, List, sym, ◌∙◌, arith, inl, inr}
use Rattle.std.proofs.lemmas.Bool.{and_parts, and_from, or_cases, or_left, or_right, not-true, cases_Bool, eqb-true, eq-eqb, le-leb, leb-true, both_ways, not_from_false}
use Rattle.std.specs.List.{list_any}
use Rattle.cover_problem.specs.Problem.{Problem, names_item, colour_of}
use Rattle.cover_problem.specs.Numbers.{is_in}
use Rattle.cover_problem.specs.ExactCover.{IsInOneColour}
use Rattle.cover_problem.specs.Verdict.{all_give, gives_as_all, is_in_one_colour}
use Rattle.cover_problem.proofs.Among.{all_at, all_by, any_at, some_with}

-- ---- one colour that all give

given_at : (p : Problem) (options : List ℕ) (item colour o : ℕ) → all_give p options item colour ≡ true → is_in options o ≡ true → names_item p o item ≡ true → colour_of p o item ≡ colour
given_at p options item colour o all here named =
    elim (or_cases (not (names_item p o item)) (colour_of p o item == colour) (all_at (λ q. not (names_item p q item) || colour_of p q item == colour) options o all here)) [
      | inl unnamed ↦ absurd (both_ways (names_item p o item) (not-true (names_item p o item) unnamed) named)
      | inr given ↦ eqb-true (colour_of p o item) colour given
    ]

pub all_given : (p : Problem) (options : List ℕ) (item colour : ℕ) → ((o : ℕ) → is_in options o ≡ true → names_item p o item ≡ true → colour_of p o item ≡ colour) → all_give p options item colour ≡ true
all_given p options item colour each =
    all_by (λ q. not (names_item p q item) || colour_of p q item == colour) options
    (λ q here. elim (cases_Bool (names_item p q item)) [
      | inl named ↦ or_right (not (names_item p q item)) (colour_of p q item == colour) (eq-eqb (colour_of p q item) colour (each q here named))
      | inr unnamed ↦ or_left (not (names_item p q item)) (colour_of p q item == colour) (not_from_false (names_item p q item) unnamed)
    ])

pub in_one_colour : (p : Problem) (options : List ℕ) (item : ℕ) → is_in_one_colour p options item ≡ true → IsInOneColour p (is_in options) item
unfolding is_in_one_colour
in_one_colour p options item h =
    let both = and_parts (nat_le p.primary item) (list_any (λ o. gives_as_all p options item o) options) h in
    let w = some_with (λ o. gives_as_all p options item o) options both.1 in
    let gives = and_parts (nat_le 1 (colour_of p w.0 item)) (all_give p options item (colour_of p w.0 item)) w.2 in
    record { colour = colour_of p w.0 item; some = leb-true 1 (colour_of p w.0 item) gives.0; each = λ o here named. given_at p options item (colour_of p w.0 item) o gives.1 here named }

-- an option of the list that gives the colour of all
pub colour_in : (p : Problem) (options : List ℕ) (item o : ℕ) → p.primary ≤ item → is_in options o ≡ true → 1 ≤ colour_of p o item → all_give p options item (colour_of p o item) ≡ true → is_in_one_colour p options item ≡ true
unfolding is_in_one_colour
colour_in p options item o high here some all =
    and_from (nat_le p.primary item) (list_any (λ q. gives_as_all p options item q) options)
    (le-leb p.primary item high)
    (any_at (λ q. gives_as_all p options item q) options o here
    (and_from (nat_le 1 (colour_of p o item)) (all_give p options item (colour_of p o item)) (le-leb 1 (colour_of p o item) some) all))

pub one_colour_in : (p : Problem) (options : List ℕ) (item o : ℕ) → p.primary ≤ item → is_in options o ≡ true → names_item p o item ≡ true → IsInOneColour p (is_in options) item → is_in_one_colour p options item ≡ true
one_colour_in p options item o high here named shared =
    let is : colour_of p o item ≡ shared.colour = shared.each o here named in
    let some = shared.some in
    colour_in p options item o high here (omega (arith, some, is)) (all_given p options item (colour_of p o item) (λ q in_it on_it. shared.each q in_it on_it ∙ sym is))
