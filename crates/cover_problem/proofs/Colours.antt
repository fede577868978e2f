-- The colour that an option gives an item.
use Rattle.std.proofs.Common.{◌≡◌, ℕ, zero, suc, ◌+◌, ◌<◌, ◌≤◌, true, false, not, ◌==◌, nat_lt, List, [], ◌∷◌, length, get_or, map, refl, sym, ap, ◌∙◌, arith, inl, inr}
use Rattle.std.proofs.lemmas.Bool.{and_parts, cases_Bool, eq-eqb, ne_eqb, ltb-true, both_ways, not-true, or_left, or_right}
use Rattle.std.proofs.lemmas.List.{length-map}
use Rattle.cover_problem.specs.Problem.{Problem, IsProblem, items_of, colours_of, colour_beside, colour_of}
use Rattle.cover_problem.specs.Numbers.{is_in, is_distinct, are_below}

-- ---- beside each other

beside_below : (bound : ℕ) (items colours : List ℕ) (item : ℕ) → 0 < bound → are_below bound colours ≡ true → colour_beside items colours item < bound
beside_below bound [] colours item some below = some
beside_below bound (i ∷ is) [] item some below = some
beside_below bound (i ∷ is) (c ∷ cs) item some below =
    let parts = and_parts (nat_lt c bound) (are_below bound cs) below in
    elim (cases_Bool (i == item)) [
      | inl here ↦ rw here (ltb-true c bound parts.0)
      | inr there ↦ rw there (beside_below bound is cs item some parts.1)
    ]

pub get_in : (xs : List ℕ) (k : ℕ) → k < length xs → is_in xs (get_or xs k 0) ≡ true
get_in [] k h = absurd (omega arith)
get_in (x ∷ xs) zero h = or_left (x == x) (is_in xs x) (eq-eqb x x refl)
get_in (x ∷ xs) (suc k) h = or_right (x == get_or xs k 0) (is_in xs (get_or xs k 0)) (get_in xs k (omega arith))

-- at each place, where no item stands twice
beside_at : (items colours : List ℕ) (k : ℕ) → is_distinct items ≡ true → length colours ≡ length items → k < length colours → colour_beside items colours (get_or items k 0) ≡ get_or colours k 0
beside_at items [] k distinct long within = absurd (omega arith)
beside_at [] (c ∷ cs) k distinct long within = absurd (omega (arith, long))
beside_at (i ∷ is) (c ∷ cs) zero distinct long within = rw (eq-eqb i i refl) refl
beside_at (i ∷ is) (c ∷ cs) (suc k) distinct long within =
    let parts = and_parts (not (is_in is i)) (is_distinct is) distinct in
    let inside : k < length is = omega (arith, long, within) in
    let other : (i == get_or is k 0) ≡ false = ne_eqb i (get_or is k 0) (λ same.
    both_ways (is_in is i) (not-true (is_in is i) parts.0) (ap (is_in is) same ∙ get_in is k inside)) in
    rw other (beside_at is cs k parts.1 (omega (arith, long)) (omega (arith, within)))

-- ---- of an option

-- the lists of colours are as long as those of the items
pub colours_long : (p : Problem) (o : ℕ) → IsProblem p → length (colours_of p o) ≡ length (items_of p o)
colours_long p o problem = same_at p.colours p.options o problem.each_coloured
  where
    same_at : (xs ys : List (List ℕ)) (k : ℕ) → map length xs ≡ map length ys → length (get_or xs k []) ≡ length (get_or ys k [])
    same_at [] [] k same = refl
    same_at [] (y ∷ ys) k same = cc
    same_at (x ∷ xs) [] k same = cc
    same_at (x ∷ xs) (y ∷ ys) zero same = cc
    same_at (x ∷ xs) (y ∷ ys) (suc k) same = same_at xs ys k (cc)

pub colours_many : (p : Problem) → IsProblem p → length p.colours ≡ length p.options
colours_many p problem = sym (length-map p.colours length) ∙ ap length problem.each_coloured ∙ length-map p.options length

pub colours_below : (p : Problem) (o : ℕ) → IsProblem p → o < length p.options → are_below (length p.colour_names + 1) (colours_of p o) ≡ true
colours_below p o problem within = let many = colours_many p problem in problem.each_colour o [] (omega (arith, many, within))

pub colour_named : (p : Problem) (o item : ℕ) → IsProblem p → o < length p.options → colour_of p o item ≤ length p.colour_names
colour_named p o item problem within =
    let below = beside_below (length p.colour_names + 1) (items_of p o) (colours_of p o) item (omega arith) (colours_below p o problem within) in
    omega (arith, below)

pub colour_at : (p : Problem) (o k : ℕ) → IsProblem p → o < length p.options → k < length (colours_of p o) → colour_of p o (get_or (items_of p o) k 0) ≡ get_or (colours_of p o) k 0
colour_at p o k problem within inside = beside_at (items_of p o) (colours_of p o) k (problem.each_distinct o [] within) (colours_long p o problem) inside
