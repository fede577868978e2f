-- The first primary item of an option, and its node.
use Rattle.std.proofs.Common.{◌≡◌, ℕ, zero, suc, ◌+◌, ◌-◌, ◌<◌, ◌≤◌, List, [], ◌∷◌, length, true, nat_lt, filter, get_or, refl, arith, sym, ap, ◌∙◌, inl, inr, subst}
use Rattle.std.proofs.lemmas.Bool.{cases_lt, lt-ltb, le-ltb, ltb-true}
use Rattle.std.proofs.lemmas.List.Elements.{All-get_or}
use Rattle.cover_problem.specs.Numbers.{some_below}
use Rattle.cover_problem.specs.Problem.{Problem, IsProblem, items_of, names_item}
use Rattle.cover_problem.proofs.Among.{some_with}
use Rattle.cover_problem.proofs.Colours.{get_in}
use Rattle.dancing_links.specs.Choices.{IsPrimary}
use Rattle.dancing_links.specs.Columns.{Columns}
use Rattle.dancing_links.specs.Table.{table, base_of}
use Rattle.dancing_links.specs.Walking.{IsBelowIn}
use Rattle.dancing_links.proofs.Nodes.{first_at, starts_next}
use Rattle.dancing_links.proofs.Tables.{node_by, place_of, start_of}

first_below : (bound : ℕ) (items : List ℕ) (j : ℕ) → j < length items → get_or items j 0 < bound → ((n : ℕ) → n < j → bound ≤ get_or items n 0) → get_or (filter (λ i. nat_lt i bound) items) 0 0 ≡ get_or items j 0
first_below bound [] j inside low before = absurd (omega (arith, inside))
first_below bound (i ∷ items) zero inside low before = rw (lt-ltb i bound low) refl
first_below bound (i ∷ items) (suc j) inside low before =
    rw (le-ltb i bound (before 0 (omega arith))) (first_below bound items j (omega (arith, inside)) low (λ n lt. before (suc n) (omega (arith, lt))))

primary_in : (p : Problem) (o begin end k : ℕ) → IsProblem p → o < length p.options → begin ≡ start_of p o → end ≡ start_of p o + length (items_of p o) → IsBelowIn (table p) p.primary begin end k → IsPrimary p (table p) o k
primary_in p o begin end k is inside b e at = elim (cases_lt k end) [
  | inl before ↦
      let j : ℕ = k - start_of p o in
      let place : k - start_of p o < length (items_of p o) = omega (arith, before, at.low, b, e) in
      let by = node_by p k o (k - start_of p o) inside place (omega (arith, at.low, b)) in
      let low : get_or (items_of p o) (k - start_of p o) 0 < p.primary = omega (arith, by.item, at.found before) in
      let first = first_below p.primary (items_of p o) (k - start_of p o) place low (λ n lt.
      let y = node_by p (start_of p o + n) o n inside (omega (arith, lt, place)) refl in
      omega (arith, y.item, at.before (start_of p o + n) (omega (arith, b)) (omega (arith, lt, at.low, b)))) in
      record {
        in_option = (omega (arith, by.low, by.node), omega (arith, by.high, by.node, by.place_in));
        own = by.own;
        primary = at.found before;
        named = ap (names_item p o) by.item ∙ get_in (items_of p o) j place;
        first = by.item ∙ sym first;
      }
  | inr past ↦
      let P : List ℕ → Type 0 = λ items. some_below p.primary items ≡ true in
      let some : some_below p.primary (items_of p o) ≡ true = All-get_or P p.options o [] inside is.each_primary in
      let item = some_with (λ i. nat_lt i p.primary) (items_of p o) some in
      let place = place_of (items_of p o) item.0 item.1 in
      let y = node_by p (start_of p o + place.0) o place.0 inside place.1 refl in
      let primary = ltb-true item.0 p.primary item.2 in
      absurd (omega (arith, primary, place.2, y.item, at.before (start_of p o + place.0) (omega (arith, b)) (omega (arith, past, e, place.1))))
]

pub primary_node : (p : Problem) (c : Columns) (o begin end k bound : ℕ) → c ≡ table p → IsProblem p → o < length p.options → begin ≡ get_or c.first o 0 → end ≡ get_or c.first (o + 1) 0 → bound ≡ p.primary → IsBelowIn c bound begin end k → IsPrimary p c o k
primary_node p c o begin end k bound same is inside b e f at =
    let P : Columns → Type 0 = λ t. IsBelowIn t p.primary begin end k → IsPrimary p t o k in
    let Q : ℕ → Type 0 = λ n. IsBelowIn c n begin end k in
    let low : begin ≡ start_of p o = b ∙ ap (λ (t : Columns). get_or t.first o 0) same ∙ first_at p o (omega (arith, inside)) in
    let high : end ≡ start_of p o + length (items_of p o) = e ∙ ap (λ (t : Columns). get_or t.first (o + 1) 0) same ∙ first_at p (o + 1) (omega (arith, inside)) ∙ starts_next (base_of p) p.options o inside in
    subst P (sym same) (primary_in p o begin end k is inside low high) (subst Q f at)
