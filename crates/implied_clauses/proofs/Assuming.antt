-- Marks of rounds, and what is assumed by them.
use Rattle.std.proofs.Common.{◌≡◌, ℕ, zero, suc, ◌+◌, ◌*◌, ◌<◌, Bool, true, false, List, [], ◌∷◌, length, map, set, replicate, Some, None, refl, ap, ◌∙◌, arith}
use Rattle.std.proofs.lemmas.Bool.{ne_eqb, eq-eqb}
use Rattle.std.proofs.lemmas.List.{map-set}
use Rattle.std.specs.List.{All}
use Rattle.implied_clauses.specs.Rests.{assumed_by, mark_of}

-- what the mark of a round says in it
pub own_mark : (round : ℕ) (b : Bool) → assumed_by round (mark_of round b) ≡ Some b
own_mark round true = rw (eq-eqb (round * 2 + 1) (round * 2 + 1) refl) refl
own_mark round false = rw (ne_eqb (round * 2) (round * 2 + 1) (λ e. omega (arith, e)), eq-eqb (round * 2) (round * 2) refl) refl

-- what one more mark of a round says
pub mark_set : (round : ℕ) (marks : List ℕ) (option : ℕ) (b : Bool) → map (assumed_by round) (set marks option (mark_of round b)) ≡ set (map (assumed_by round) marks) option (Some b)
mark_set round marks option b = map-set (assumed_by round) marks option (mark_of round b) ∙ ap (set (map (assumed_by round) marks) option) (own_mark round b)

-- the marks of older rounds say nothing
pub older : (round : ℕ) (marks : List ℕ) → All (λ mark. mark < round * 2) marks → map (assumed_by round) marks ≡ replicate (length marks) None
older round [] low = refl
older round (mark ∷ marks) low =
    let here : mark < round * 2 = low 0 0 (omega arith) in
    let says_none : assumed_by round mark ≡ None = rw (ne_eqb mark (round * 2 + 1) (λ e. omega (arith, here, e)), ne_eqb mark (round * 2) (λ e. omega (arith, here, e))) refl in
    ap (λ slot. slot ∷ map (assumed_by round) marks) says_none
    ∙ ap (λ slots. None ∷ slots) (older round marks (λ k d inside. low (suc k) d (omega (arith, inside))))

-- marks of no round say nothing in the first one
pub no_marks : (n : ℕ) → map (assumed_by 1) (replicate n 0) ≡ replicate n None
no_marks zero = refl
no_marks (suc n) = ap (λ slots. None ∷ slots) (no_marks n)
