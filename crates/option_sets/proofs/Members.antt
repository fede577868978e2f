-- Rows of numbered sets, to which options are added one by one.
use Rattle.std.proofs.Common.{◌≡◌, ℕ, ◌+◌, ◌*◌, ◌<◌, ◌≤◌, Bool, true, false, ◌&&◌, ◌||◌, ◌==◌, List, [], ◌∷◌, ◌++◌, length, get_or, set, take, drop, replicate, refl, sym, ap, ◌∙◌, inl, inr, arith, subst}
use Rattle.std.proofs.lemmas.Bool.{eq-eqb, ne_eqb, cases_eq, cases_lt, lt-ltb, le-ltb, both_ways}
use Rattle.std.proofs.lemmas.List.{get_or-set_same, get_or-set_other, length-set, take_more, get_or-replicate, length-replicate, get_or_default, take_at}
use Rattle.std.proofs.lemmas.List.Elements.{All-weaker, All-nil}
use Rattle.cover_problem.specs.Numbers.{is_in}
use Rattle.option_sets.specs.Rows.{IsRowBy, AreRowsBy, with_option, stands_below}
use Rattle.option_sets.specs.declared.word.Word.{Word}
use Rattle.option_sets.proofs.Adding.{any_append, or-false}

-- the same row, by a greater bound and a test that agrees
pub row_same : (n m : ℕ) (p q : ℕ → Bool) (row : List Word) → n ≤ m → ((x : ℕ) → p x ≡ q x) → IsRowBy n p row → IsRowBy m q row
row_same n m p q row low agree by = record {
  rising = by.rising;
  below = All-weaker (λ (v : Word). v.place * 64 < n) (λ (v : Word). v.place * 64 < m) (λ v h. omega (arith, low, h)) row by.below;
  some = by.some;
  held = λ place h. let x = by.held place h in (x.0, x.1, sym (agree x.0) ∙ x.2);
  exact = λ x. by.exact x ∙ agree x;
}

none : (a b : Bool) → (a || (b && false)) ≡ a
none true b = refl
none false true = refl
none false false = refl

pub none_added : (n o : ℕ) (has : ℕ → ℕ → Bool) (rows : List (List Word)) → n ≤ o + 1 → AreRowsBy n has rows → AreRowsBy (o + 1) (with_option has o []) rows
none_added n o has rows low by t inside = row_same n (o + 1) (has t) (with_option has o [] t) (get_or rows t []) low (λ x. sym (none (has t x) (x == o))) (by t inside)

again : (a b c : Bool) → ((a || (b && c)) || b) ≡ (a || (b && (c || true)))
again true b c = refl
again false true true = refl
again false true false = refl
again false false c = refl

in_more : (sets : List ℕ) (k t : ℕ) → k < length sets → is_in (take (k + 1) sets) t ≡ (is_in (take k sets) t || get_or sets k 0 == t)
in_more sets k t inside =
    ap (λ ys. is_in ys t) (take_more sets k 0 inside)
    ∙ any_append (λ y. y == t) (take k sets) (get_or sets k 0 ∷ [])
    ∙ ap (λ b. is_in (take k sets) t || b) (or-false (get_or sets k 0 == t))

-- the row of one number gets the option, the others stay
pub one_added : (o : ℕ) (has : ℕ → ℕ → Bool) (sets : List ℕ) (k : ℕ) (rows : List (List Word)) (d new : List Word) → k < length sets → get_or sets k 0 < length rows
    → ((n : ℕ) (p : ℕ → Bool) → n ≤ o + 1 → IsRowBy n p (get_or rows (get_or sets k 0) d) → IsRowBy (o + 1) (λ x. p x || x == o) new)
    → AreRowsBy (o + 1) (with_option has o (take k sets)) rows → AreRowsBy (o + 1) (with_option has o (take (k + 1) sets)) (set rows (get_or sets k 0) new)
one_added o has sets k rows d new more inside adds by t within =
    let i : ℕ = get_or sets k 0 in
    let low : t < length rows = omega (arith, within, length-set rows i new) in
    elim (cases_eq t i) [
      | inl e ↦
          let before : IsRowBy (o + 1) (with_option has o (take k sets) i) (get_or rows i d) = subst (IsRowBy (o + 1) (with_option has o (take k sets) i)) (get_or_default rows i [] d inside) (by i inside) in
          rw (e, get_or-set_same rows i new [] inside)
          (row_same (o + 1) (o + 1) (λ x. with_option has o (take k sets) i x || x == o) (with_option has o (take (k + 1) sets) i) new (omega arith)
          (λ x. again (has i x) (x == o) (is_in (take k sets) i) ∙ sym (ap (λ b. has i x || ((x == o) && b)) (in_more sets k i more ∙ ap (λ b. is_in (take k sets) i || b) (eq-eqb i i refl))))
          (adds (o + 1) (with_option has o (take k sets) i) (omega arith) before))
      | inr apart ↦
          rw (get_or-set_other rows i t new [] apart)
          (row_same (o + 1) (o + 1) (with_option has o (take k sets) t) (with_option has o (take (k + 1) sets) t) (get_or rows t []) (omega arith)
          (λ x. sym (ap (λ b. has t x || ((x == o) && b)) (in_more sets k t more ∙ ap (λ b. is_in (take k sets) t || b) (ne_eqb i t (λ e. apart (sym e))) ∙ or-false (is_in (take k sets) t))))
          (by t low))
    ]

-- ---- all options in turn

stands_none : (lists : List (List ℕ)) (t x : ℕ) → false ≡ stands_below lists 0 t x
stands_none lists t x = rw (le-ltb x 0 (omega arith)) refl

pub none_stand : (lists : List (List ℕ)) (count : ℕ) (rows : List (List Word)) → rows ≡ replicate count [] → AreRowsBy 0 (stands_below lists 0) rows
none_stand lists count rows is t inside =
    let nil : List Word = [] in
    let few : t < count = omega (arith, inside, ap length is, length-replicate count nil) in
    rw (is, get_or-replicate count t nil [] few)
    (record { rising = λ k h. omega (arith, h); below = All-nil (λ (v : Word). v.place * 64 < 0); some = All-nil (λ (v : Word). 1 ≤ v.bits); held = λ place h. absurd (both_ways false refl h); exact = λ x. stands_none lists t x })

stands_more : (lists : List (List ℕ)) (o t x : ℕ) → with_option (stands_below lists o) o (get_or lists o []) t x ≡ stands_below lists (o + 1) t x
stands_more lists o t x = elim (cases_lt x o) [
  | inl low ↦ rw (lt-ltb x o low, lt-ltb x (o + 1) (omega arith), ne_eqb x o (λ e. omega (arith, e, low))) (or-false (is_in (get_or lists x []) t))
  | inr high ↦ elim (cases_eq x o) [
    | inl e ↦ rw (e, le-ltb o o (omega arith), lt-ltb o (o + 1) (omega arith), eq-eqb o o refl) refl
    | inr d ↦ rw (le-ltb x o high, le-ltb x (o + 1) (omega (arith, high, d)), ne_eqb x o d) refl
  ]
]

pub more_stand : (lists : List (List ℕ)) (o : ℕ) (sets : List ℕ) (rows : List (List Word)) → sets ≡ get_or lists o []
    → AreRowsBy (o + 1) (with_option (stands_below lists o) o sets) rows → AreRowsBy (o + 1) (stands_below lists (o + 1)) rows
more_stand lists o sets rows is by t inside =
    row_same (o + 1) (o + 1) (with_option (stands_below lists o) o sets t) (stands_below lists (o + 1) t) (get_or rows t []) (omega arith)
    (λ x. ap (λ ys. with_option (stands_below lists o) o ys t x) is ∙ stands_more lists o t x) (by t inside)

-- what a vector has once all of it was lent as a slice
pub written : {X : Type 0} (xs ys : List X) (n : ℕ) → length ys ≡ n → take n (ys ++ drop (length ys) xs) ≡ ys
written xs ys n long = take_at ys (drop (length ys) xs) n long

pub are_empty : (rows : List (List Word)) (count : ℕ) → rows ≡ replicate count [] → length rows ≡ count
are_empty rows count is = let nil : List Word = [] in ap length is ∙ length-replicate count nil
