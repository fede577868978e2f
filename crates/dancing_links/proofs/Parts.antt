-- The nodes of one column among those of a list of options.
use Rattle.std.proofs.Common.{◌≡◌, ℕ, zero, suc, ◌+◌, ◌<◌, List, [], ◌∷◌, ◌++◌, length, Bool, true, false, not, ◌==◌, ◌&&◌, cond, filter, map, get_or, refl, arith, sym, ap, ◌∙◌, inl, inr}
use Rattle.std.specs.List.{range_with_len, sum_by}
use Rattle.std.proofs.lemmas.Bool.{and_parts, cases_Bool, cases_eq, eq-eqb, ne_eqb, not-true}
use Rattle.std.proofs.lemmas.List.Sums.{sum_by-cons}
use Rattle.std.proofs.lemmas.List.Elements.{filter-append}
use Rattle.cover_problem.specs.Numbers.{is_in, is_distinct}
use Rattle.dancing_links.specs.Table.{starts}

option_part : (col opt : ℕ → ℕ) (inside : ℕ → Bool) (a : Bool) (i q : ℕ) (x : List ℕ) (s : ℕ) → ((j : ℕ) → j < length x → col (s + j) ≡ get_or x j 0) → ((j : ℕ) → j < length x → opt (s + j) ≡ q) → ((j : ℕ) → j < length x → col (s + j) ≡ i → inside (s + j) ≡ a) → is_distinct x ≡ true → map opt (filter (λ k. (col k == i) && inside k) (range_with_len s (length x))) ≡ cond (is_in x i && a) (q ∷ []) []
option_part col opt inside a i q [] s cols opts ins d = refl
option_part col opt inside a i q (y ∷ ys) s cols opts ins d =
    let at : s + 0 ≡ s = omega arith in
    let parts = and_parts (not (is_in ys y)) (is_distinct ys) d in
    let here : col s ≡ y = ap col (sym at) ∙ cols 0 (omega arith) in
    let own : opt s ≡ q = ap opt (sym at) ∙ opts 0 (omega arith) in
    let shift : (j : ℕ) → s + 1 + j ≡ s + suc j = (λ j. omega arith) in
    let rest = option_part col opt inside a i q ys (s + 1) (λ j h. ap col (shift j) ∙ cols (suc j) (omega (arith, h))) (λ j h. ap opt (shift j) ∙ opts (suc j) (omega (arith, h))) (λ j h e. ap inside (shift j) ∙ ins (suc j) (omega (arith, h)) (ap col (sym (shift j)) ∙ e)) parts.1 in
    elim (cases_eq y i) [
      | inl e ↦
          let absent : is_in ys i ≡ false = ap (is_in ys) (sym e) ∙ not-true (is_in ys y) parts.0 in
          let test : (col s == i) ≡ true = eq-eqb (col s) i (here ∙ e) in
          let flag : inside s ≡ a = ap inside (sym at) ∙ ins 0 (omega arith) (ap col at ∙ here ∙ e) in
          let named : (y == i) ≡ true = eq-eqb y i e in
          let none : map opt (filter (λ k. (col k == i) && inside k) (range_with_len (s + 1) (length ys))) ≡ [] = rest ∙ ap (λ b. cond (b && a) (q ∷ []) []) absent in
          elim (cases_Bool a) [
            | inl t ↦ rw (test, flag, t, named, own, none) refl
            | inr f ↦ rw (test, flag, f, named, none) refl
          ]
      | inr ne ↦ rw (ne_eqb (col s) i (λ e. ne (sym here ∙ e)), ne_eqb y i ne) rest
    ]

pub range_split : (s n m : ℕ) → range_with_len s (n + m) ≡ range_with_len s n ++ range_with_len (s + n) m
range_split s zero m = let e : 0 + m ≡ m = omega arith in let f : s ≡ s + 0 = omega arith in ap (range_with_len s) e ∙ ap (λ t. range_with_len t m) f
range_split s (suc n) m =
    let e : suc n + m ≡ suc (n + m) = omega arith in
    let f : s + 1 + n ≡ s + suc n = omega arith in
    ap (range_with_len s) e ∙ ap (λ ks. s ∷ ks) (range_split (s + 1) n m ∙ ap (λ t. range_with_len (s + 1) n ++ range_with_len t m) f)

pub map_append : (f : ℕ → ℕ) (xs ys : List ℕ) → map f (xs ++ ys) ≡ map f xs ++ map f ys
map_append f [] ys = refl
map_append f (x ∷ xs) ys = ap (λ ks. f x ∷ ks) (map_append f xs ys)

pub options_part : (col opt : ℕ → ℕ) (inside alive named : ℕ → Bool) (i q : ℕ) (options : List (List ℕ)) (s : ℕ)
    → ((o j : ℕ) → o < length options → j < length (get_or options o []) → col (get_or (starts s options) o 0 + j) ≡ get_or (get_or options o []) j 0)
    → ((o j : ℕ) → o < length options → j < length (get_or options o []) → opt (get_or (starts s options) o 0 + j) ≡ q + o)
    → ((o j : ℕ) → o < length options → j < length (get_or options o []) → col (get_or (starts s options) o 0 + j) ≡ i → inside (get_or (starts s options) o 0 + j) ≡ alive (q + o))
    → ((o : ℕ) → o < length options → named (q + o) ≡ is_in (get_or options o []) i)
    → ((o : ℕ) → o < length options → is_distinct (get_or options o []) ≡ true)
    → map opt (filter (λ k. (col k == i) && inside k) (range_with_len s (sum_by length options))) ≡ filter (λ o. alive o && named o) (range_with_len q (length options))
options_part col opt inside alive named i q [] s cols opts ins names distinct = refl
options_part col opt inside alive named i q (x ∷ xs) s cols opts ins names distinct =
    let test : ℕ → Bool = λ k. (col k == i) && inside k in
    let at : q + 0 ≡ q = omega arith in
    let shift : (o : ℕ) → q + suc o ≡ q + 1 + o = (λ o. omega arith) in
    let first = option_part col opt inside (alive q) i q x s (λ j h. cols 0 j (omega arith) h) (λ j h. opts 0 j (omega arith) h ∙ at) (λ j h e. ins 0 j (omega arith) h e ∙ ap alive at) (distinct 0 (omega arith)) in
    let rest = options_part col opt inside alive named i (q + 1) xs (s + length x) (λ o j ho hj. cols (suc o) j (omega (arith, ho)) hj) (λ o j ho hj. opts (suc o) j (omega (arith, ho)) hj ∙ shift o) (λ o j ho hj e. ins (suc o) j (omega (arith, ho)) hj e ∙ ap alive (shift o)) (λ o ho. ap named (sym (shift o)) ∙ names (suc o) (omega (arith, ho))) (λ o ho. distinct (suc o) (omega (arith, ho))) in
    let name : named q ≡ is_in x i = ap named (sym at) ∙ names 0 (omega arith) in
    let split : range_with_len s (sum_by length (x ∷ xs)) ≡ range_with_len s (length x) ++ range_with_len (s + length x) (sum_by length xs) = ap (range_with_len s) (sum_by-cons length x xs) ∙ range_split s (length x) (sum_by length xs) in
    let both : map opt (filter test (range_with_len s (sum_by length (x ∷ xs)))) ≡ cond (is_in x i && alive q) (q ∷ []) [] ++ filter (λ o. alive o && named o) (range_with_len (q + 1) (length xs)) =
    ap (λ ks. map opt (filter test ks)) split
    ∙ ap (map opt) (filter-append test (range_with_len s (length x)) (range_with_len (s + length x) (sum_by length xs)))
    ∙ map_append opt (filter test (range_with_len s (length x))) (filter test (range_with_len (s + length x) (sum_by length xs)))
    ∙ ap (λ ks. ks ++ map opt (filter test (range_with_len (s + length x) (sum_by length xs)))) first
    ∙ ap (λ ks. cond (is_in x i && alive q) (q ∷ []) [] ++ ks) rest in
    both ∙ elim (cases_Bool (is_in x i)) [
      | inl t ↦ elim (cases_Bool (alive q)) [
        | inl u ↦ rw (name, t, u) refl
        | inr u ↦ rw (name, t, u) refl
      ]
      | inr f ↦ elim (cases_Bool (alive q)) [
        | inl u ↦ rw (name, f, u) refl
        | inr u ↦ rw (name, f, u) refl
      ]
    ]
