-- What stands in the tables.
use Rattle.std.proofs.Common.{◌≡◌, ℕ, zero, suc, ◌+◌, ◌<◌, ◌≤◌, Bool, true, false, not, ◌&&◌, ◌||◌, ◌==◌, nat_le, List, [], ◌∷◌, ◌++◌, length, get_or, take, drop, map, refl, sym, ap, ◌∙◌, inl, inr, arith, subst, add-one}
use Rattle.std.specs.List.{range_with_len, list_any, sum_by, All}
use Rattle.std.proofs.lemmas.List.{get_or_read, get_or-map, map_push, take_more, length-map, drop_more}
use Rattle.std.proofs.lemmas.List.Sums.{sum_by-cons}
use Rattle.std.proofs.lemmas.Bool.{both_ways, eq-eqb, eqb-true, cases_lt, cases_Bool, and_parts, le-leb}
use Rattle.std.proofs.lemmas.List.Elements.{All-weaker}
use Rattle.std.specs.List.Sorted.{IsStrictlyIncreasing}
use Rattle.cover_problem.proofs.Basics.{same_truth}
use Rattle.cover_problem.specs.Problem.{Problem, IsProblem, items_of, names_item, colour_of}
use Rattle.cover_problem.specs.Numbers.{is_in}
use Rattle.option_sets.specs.Rows.{IsPart}
use Rattle.option_sets.specs.Sets.{IsRow, row_has, places, words_of}
use Rattle.option_sets.specs.ClashTables.{AreClashTables, HasTint, IsTinted, IsTint, clash_at}
use Rattle.option_sets.specs.declared.word.Word.{Word}
use Rattle.option_sets.proofs.Adding.{any_append, or-false}
use Rattle.option_sets.proofs.Bits.{out}
use Rattle.option_sets.proofs.Sparing.{none-there}

pub row_is : (p q : Problem) (rows tints : List (List Word)) (lists : List (List ℕ)) (item : ℕ) (old row : List Word) → p ≡ q → AreClashTables p rows tints lists
    → item < length q.names → old ≡ get_or rows item old → row ≡ old → IsRow q item row
row_is p q rows tints lists item old row e by inside read same =
    let inside' : item < length p.names = rw e inside in
    let here : old ≡ get_or rows item [] = get_or_read rows item old (omega (arith, inside', by.items)) read [] in
    let r : IsRow p item (get_or rows item []) = by.row item inside' in
    subst (λ (z : Problem). IsRow z item row) e (subst (IsRow p item) (sym (same ∙ here)) r)

-- ---- lists of a range

range_more : (start n : ℕ) → range_with_len start n ++ (start + n) ∷ [] ≡ range_with_len start (suc n)
range_more start zero = ap (λ k. k ∷ []) (omega arith)
range_more start (suc n) = ap (λ ks. start ∷ ks) (ap (λ k. range_with_len (start + 1) n ++ k ∷ []) (omega arith) ∙ range_more (start + 1) n)

range_next : (n : ℕ) → range_with_len 0 n ++ n ∷ [] ≡ range_with_len 0 (n + 1)
range_next n =
    let e : 0 + n ≡ n = omega arith in
    ap (λ k. range_with_len 0 n ++ k ∷ []) (sym e) ∙ range_more 0 n ∙ ap (range_with_len 0) (sym (add-one n))

pub named_more : (f : ℕ → List ℕ) (lists : List (List ℕ)) (o : ℕ) (new : List ℕ) → lists ≡ map f (range_with_len 0 o) → new ≡ f o
    → lists ++ new ∷ [] ≡ map f (range_with_len 0 (o + 1))
named_more f lists o new e n =
    ap (λ ls. ls ++ new ∷ []) e ∙ ap (λ l. map f (range_with_len 0 o) ++ l ∷ []) n ∙ sym (map_push f (range_with_len 0 o) o) ∙ ap (map f) (range_next o)

range_at : (a n k : ℕ) → k < n → get_or (range_with_len a n) k 0 ≡ a + k
range_at a zero k h = absurd (omega arith)
range_at a (suc n) zero h = omega arith
range_at a (suc n) (suc k) h = range_at (a + 1) n k (omega arith) ∙ omega arith

length_range : (a n : ℕ) → length (range_with_len a n) ≡ n
length_range a zero = refl
length_range a (suc n) = ap suc (length_range (a + 1) n)

pub named_long : (f : ℕ → List ℕ) (named : List (List ℕ)) (n : ℕ) → named ≡ map f (range_with_len 0 n) → length named ≡ n
named_long f named n e = ap length e ∙ length-map (range_with_len 0 n) f ∙ length_range 0 n

pub named_at : (f : ℕ → List ℕ) (named : List (List ℕ)) (n o : ℕ) (old : List ℕ) → named ≡ map f (range_with_len 0 n) → o < n → old ≡ get_or named o old → old ≡ f o
named_at f named n o old e inside read =
    let long = length_range 0 n in
    let here : old ≡ get_or named o [] = get_or_read named o old (omega (arith, named_long f named n e, inside)) read [] in
    here ∙ ap (λ ls. get_or ls o []) e ∙ get_or-map f (range_with_len 0 n) o 0 [] (omega (arith, long, inside)) ∙ ap f (range_at 0 n o inside ∙ omega arith)

-- ---- what is barred, item by item

pub any_more : (f : ℕ → Bool) (xs : List ℕ) (k : ℕ) → k < length xs → list_any f (take (k + 1) xs) ≡ (list_any f (take k xs) || f (get_or xs k 0))
any_more f xs k inside =
    ap (list_any f) (take_more xs k 0 inside) ∙ any_append f (take k xs) (get_or xs k 0 ∷ []) ∙ ap (λ b. list_any f (take k xs) || b) (or-false (f (get_or xs k 0)))

pub barred_more : (f : ℕ → Bool) (xs : List ℕ) (k : ℕ) (start old new : Bool) → k < length xs → old ≡ (start && not (list_any f (take k xs)))
    → new ≡ (old && not (f (get_or xs k 0))) → new ≡ (start && not (list_any f (take (k + 1) xs)))
barred_more f xs k start old new inside e g =
    g ∙ ap (λ b. b && not (f (get_or xs k 0))) e ∙ sym (out start (list_any f (take k xs)) (f (get_or xs k 0))) ∙ ap (λ b. start && not b) (sym (any_more f xs k inside))

pub left_next : (options : List (List ℕ)) (o : ℕ) → o < length options → sum_by length (drop o options) ≡ length (get_or options o []) + sum_by length (drop (o + 1) options)
left_next options o h = ap (sum_by length) (drop_more options o [] h) ∙ sum_by-cons length (get_or options o []) (drop (o + 1) options)

-- ---- what one item bars

off : (n a c : Bool) → (n && not ((a && false) && c)) ≡ n
off true true c = refl
off true false c = refl
off false a c = refl

plain_clash : (p : Problem) (o item x : ℕ) → colour_of p o item ≡ 0 → clash_at p o item x ≡ names_item p x item
plain_clash p o item x e =
    ap (λ c. names_item p x item && not (nat_le p.primary item && nat_le 1 c && c == colour_of p x item)) e
    ∙ off (names_item p x item) (nat_le p.primary item) (0 == colour_of p x item)

on : (n a b c d : Bool) → a ≡ true → b ≡ true → c ≡ d → (n && not ((a && b) && c)) ≡ (n && not (n && d))
on n false b c d e f g = absurd (both_ways false refl e)
on n true false c d e f g = absurd (both_ways false refl f)
on true true true c d e f g = ap not g
on false true true c d e f g = refl

turn : (a b : ℕ) → (a == b) ≡ (b == a)
turn a b = same_truth _ _ (λ h. eq-eqb b a (sym (eqb-true a b h))) (λ h. eq-eqb a b (sym (eqb-true b a h)))

tinted_clash : (p : Problem) (o item x : ℕ) → IsProblem p → 1 ≤ colour_of p o item
    → clash_at p o item x ≡ (names_item p x item && not (names_item p x item && colour_of p x item == colour_of p o item))
tinted_clash p o item x by some =
    let high : p.primary ≤ item = elim (cases_lt item p.primary) [ inl low ↦ absurd (omega (arith, some, by.plain_primary o item low)) | inr h ↦ h ] in
    on (names_item p x item) (nat_le p.primary item) (nat_le 1 (colour_of p o item)) (colour_of p o item == colour_of p x item) (colour_of p x item == colour_of p o item)
    (le-leb p.primary item high) (le-leb 1 (colour_of p o item) some) (turn (colour_of p o item) (colour_of p x item))

module _ (p : Problem) (rows tints : List (List Word)) (lists : List (List ℕ)) (by : AreClashTables p rows tints lists) (o k item number : ℕ) (row : List Word)
    (option : o < length p.options) (place : k < length (items_of p o)) (item-is : item ≡ get_or (items_of p o) k 0)
    (number-is : number ≡ get_or (get_or lists o []) k 0) (named : item < length p.names) (row-is : row ≡ get_or rows item []) where
  own : IsRow p item row
  own = subst (IsRow p item) (sym row-is) (by.row item named)

  tint : HasTint p tints o item number
  tint = subst (λ (i : ℕ). HasTint p tints o i number) (sym item-is) (subst (λ (n : ℕ). HasTint p tints o (get_or (items_of p o) k 0) n) (sym number-is) (by.each o k option place))

  pub row_inside : (n : ℕ) → n ≡ words_of p → All (λ (w : Word). w.place < n) row
  row_inside n e = let h = own.words.inside in All-weaker (λ (w : Word). w.place < words_of p) (λ (w : Word). w.place < n) (λ w l. omega (arith, l, e)) row h

  pub row_rises : IsStrictlyIncreasing (places row)
  row_rises = own.words.rising

  pub bar_plain : number ≡ 0 → (b : Bool) (x : ℕ) → (b && not (row_has row x)) ≡ (b && not (clash_at p o item x))
  bar_plain none b x = ap (λ h. b && not h) (own.exact x ∙ sym (plain_clash p o item x (tint.plain none)))

  pub tint_inside : 0 < number → number < length tints
  tint_inside some = (tint.tinted some).inside

  module _ (kept : List Word) (some : 0 < number) (kept-is : kept ≡ get_or tints number []) where
    there : IsTinted p tints o item number
    there = tint.tinted some

    own_tint : IsTint p item (colour_of p o item) kept
    own_tint = subst (IsTint p item (colour_of p o item)) (sym kept-is) there.tint

    pub tint_rises : IsStrictlyIncreasing (places kept)
    tint_rises = own_tint.words.rising

    pub bar_tinted : (b : Bool) (x : ℕ) → (b && not (row_has row x && not (row_has kept x))) ≡ (b && not (clash_at p o item x))
    bar_tinted b x =
        ap (λ h. b && not (h && not (row_has kept x))) (own.exact x) ∙ ap (λ h. b && not (names_item p x item && not h)) (own_tint.exact x)
        ∙ ap (λ h. b && not h) (sym (tinted_clash p o item x by.lawful there.coloured))

    pub tint_part : IsPart kept row
    tint_part place h =
        let x = own_tint.words.held place h in
        let names = and_parts (names_item p x.0 item) (colour_of p x.0 item == colour_of p o item) (sym (own_tint.exact x.0) ∙ x.2) in
        elim (cases_Bool (is_in (places row) place)) [
          | inl there ↦ there
          | inr off ↦ absurd (both_ways (row_has row x.0) (none-there row x.0 (ap (is_in (places row)) x.1 ∙ off)) (own.exact x.0 ∙ names.0))
        ]
