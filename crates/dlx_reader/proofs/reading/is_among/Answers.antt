use Rattle.std.proofs.Common.{◌≡◌, ℕ, ◌<◌, ◌≤◌, ◌∙◌, List, [], ◌∷◌, sym, refl, false, All, arith, nat_eq, nat_lt}
use Rattle.std.proofs.lemmas.Bool.{or_from, false_from_ne_true, ltb-true, eqb-true, le-ltb}
use Rattle.std.proofs.lemmas.List.Elements.{All-head, All-tail}
use Rattle.cover_problem.specs.Numbers.{is_in}
use Rattle.dlx_reader.proofs.reading.is_among.Goals as goal

-- no number is one of others that are all below a bound, where it isn't below it itself
none_from : (items : List ℕ) (bound item : ℕ) → All (λ i. i < bound) items → bound ≤ item → is_in items item ≡ false
none_from [] bound item below from = refl
none_from (first ∷ items) bound item below from =
    let other : nat_eq first item ≡ false = false_from_ne_true (nat_eq first item) (λ same. omega (arith, eqb-true first item same, All-head (λ i. i < bound) first items below, from)) in
    or_from (nat_eq first item) (is_in items item) other (none_from items bound item (All-tail (λ i. i < bound) first items below) from)

pub returns-else-from-bound : goal.returns-else-from-bound
returns-else-from-bound c =
    let from : c.args.bound ≤ c.args.item = omega (arith, c.if-from-bound.false, c.from.ensures) in
    le-ltb c.from.result c.args.bound c.if-from-bound.false ∙ sym (none_from c.args.items.now c.args.bound c.args.item c.requires from)
