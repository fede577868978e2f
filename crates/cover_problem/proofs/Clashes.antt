-- When two options agree on an item, and when they clash. The definitions of both are opened here alone.
use Rattle.std.proofs.Common.{◌≡◌, ℕ, ◌<◌, ◌≤◌, true, false, not, ◌&&◌, ◌==◌, nat_le, length, sym, subst, arith}
use Rattle.std.proofs.lemmas.Bool.{both_ways, and_parts, and_from, leb-true, le-leb, eqb-true, eq-eqb, not-true, not_from_false, false_from_ne_true, true_from_ne_false}
use Rattle.cover_problem.specs.Problem.{Problem, IsProblem, items_of, names_item, colour_of}
use Rattle.cover_problem.specs.Prefix.{agree, clash}
use Rattle.cover_problem.proofs.Among.{any_at, some_with}
use Rattle.cover_problem.proofs.Colours.{colour_named}

-- ---- on an item

-- what it is that two options agree on an item
pub record Agreement (p : Problem) (o q item : ℕ) : Type 0 where
  pub secondary : p.primary ≤ item
  pub some : 1 ≤ colour_of p o item
  pub same : colour_of p o item ≡ colour_of p q item

pub agreement : (p : Problem) (o q item : ℕ) → agree p o q item ≡ true → Agreement p o q item
agreement p o q item h =
    let both = and_parts (nat_le p.primary item && nat_le 1 (colour_of p o item)) (colour_of p o item == colour_of p q item) h in
    let first = and_parts (nat_le p.primary item) (nat_le 1 (colour_of p o item)) both.0 in
    record { secondary = leb-true p.primary item first.0; some = leb-true 1 (colour_of p o item) first.1; same = eqb-true (colour_of p o item) (colour_of p q item) both.1 }

pub agree_by : (p : Problem) (o q item : ℕ) → p.primary ≤ item → 1 ≤ colour_of p o item → colour_of p o item ≡ colour_of p q item → agree p o q item ≡ true
agree_by p o q item secondary some same =
    and_from (nat_le p.primary item && nat_le 1 (colour_of p o item)) (colour_of p o item == colour_of p q item)
    (and_from (nat_le p.primary item) (nat_le 1 (colour_of p o item)) (le-leb p.primary item secondary) (le-leb 1 (colour_of p o item) some))
    (eq-eqb (colour_of p o item) (colour_of p q item) same)

pub agree_both : (p : Problem) (o q item : ℕ) → agree p o q item ≡ true → agree p q o item ≡ true
agree_both p o q item h =
    let both = agreement p o q item h in
    agree_by p q o item both.secondary (subst (λ colour. 1 ≤ colour) both.same both.some) (sym both.same)

pub plain_apart : (p : Problem) (o q item : ℕ) → item < p.primary → agree p o q item ≡ false
plain_apart p o q item l = false_from_ne_true (agree p o q item) (λ h. let above = (agreement p o q item h).secondary in absurd (omega (arith, l, above)))

pub colourless_apart : (p : Problem) (o q item : ℕ) → IsProblem p → o < length p.options → length p.colour_names ≡ 0 → agree p o q item ≡ false
colourless_apart p o q item problem within none = false_from_ne_true (agree p o q item) (λ h.
    let some = (agreement p o q item h).some in
    let named = colour_named p o item problem within in
    absurd (omega (arith, none, some, named)))

-- ---- for any items

pub clash_by : (p : Problem) (o q item : ℕ) → names_item p o item ≡ true → names_item p q item ≡ true → agree p o q item ≡ false → clash p o q ≡ true
clash_by p o q item on_o on_q apart =
    any_at (λ i. names_item p q i && not (agree p o q i)) (items_of p o) item on_o
    (and_from (names_item p q item) (not (agree p o q item)) on_q (not_from_false (agree p o q item) apart))

-- an item that both name, and on which they do not agree
pub record Common (p : Problem) (o q : ℕ) : Type 0 where
  pub item : ℕ
  pub first : names_item p o item ≡ true
  pub second : names_item p q item ≡ true
  pub apart : agree p o q item ≡ false

pub clash_item : (p : Problem) (o q : ℕ) → clash p o q ≡ true → Common p o q
clash_item p o q h =
    let w = some_with (λ i. names_item p q i && not (agree p o q i)) (items_of p o) h in
    let both = and_parts (names_item p q w.0) (not (agree p o q w.0)) w.2 in
    record { item = w.0; first = w.1; second = both.0; apart = not-true (agree p o q w.0) both.1 }

-- options that do not clash agree on each item that both name
pub clash_agree : (p : Problem) (o q item : ℕ) → clash p o q ≡ false → names_item p o item ≡ true → names_item p q item ≡ true → agree p o q item ≡ true
clash_agree p o q item h on_o on_q = true_from_ne_false (agree p o q item) (λ apart. both_ways (clash p o q) h (clash_by p o q item on_o on_q apart))

-- options that agree on each item that both name do not clash
pub agree_clash : (p : Problem) (o q : ℕ) → ((item : ℕ) → names_item p o item ≡ true → names_item p q item ≡ true → agree p o q item ≡ true) → clash p o q ≡ false
agree_clash p o q each = false_from_ne_true (clash p o q) (λ h.
    let common = clash_item p o q h in
    both_ways (agree p o q common.item) common.apart (each common.item common.first common.second))

-- ---- what the searches rest on

pub clash_primary : (p : Problem) (o q item : ℕ) → item < p.primary → names_item p o item ≡ true → names_item p q item ≡ true → clash p o q ≡ true
clash_primary p o q item l on_o on_q = clash_by p o q item on_o on_q (plain_apart p o q item l)

pub clash_both : (p : Problem) (o q : ℕ) → clash p o q ≡ false → clash p q o ≡ false
clash_both p o q h = agree_clash p q o (λ item on_q on_o. agree_both p o q item (clash_agree p o q item h on_o on_q))
