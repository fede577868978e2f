-- Options that do not clash, by marks of their items.
use Rattle.std.proofs.Common.{◌≡◌, ℕ, zero, suc, ◌+◌, ◌<◌, ◌≤◌, List, [], ◌∷◌, ◌++◌, length, take, get_or, set, true, false, not, ◌||◌, ◌==◌, nat_le, nat_lt, Option, Some, None, inl, inr, refl, sym, ap, ◌∙◌, subst, arith, if◌then◌else◌}
use Rattle.std.proofs.lemmas.List.{get_or-set_other, get_or-set_same, take_more, length-replicate, get_or-replicate}
use Rattle.std.proofs.Math.ListN.{replicate}
use Rattle.std.proofs.lemmas.List.Folds.{list_any-append}
use Rattle.std.proofs.lemmas.Option.{none-some, same_Some}
use Rattle.std.proofs.lemmas.Bool.{cases_Bool, cases_eq, cases_lt, both_ways, or_left, or_cases, and_parts, and_from, not-true, false_from_ne_true, eq-eqb, eqb-true, leb-true, le-leb, ltb-true}
use Rattle.cover_problem.specs.Marks.{admits, fits, marked_by}
use Rattle.cover_problem.specs.Numbers.{is_in}
use Rattle.cover_problem.specs.Prefix.{clash, is_live, are_apart}
use Rattle.cover_problem.specs.Problem.{Problem, IsProblem, items_of, names_item, colour_of}
use Rattle.cover_problem.proofs.Among.{all_at, all_by}
use Rattle.cover_problem.proofs.Clashes.{agreement, agree_by, clash_agree}
use Rattle.cover_problem.proofs.Colours.{get_in}
use Rattle.cover_problem.proofs.Prefixes.{agree_live, live_agree, apart_more}
use Rattle.cover_problem.proofs.Repeats.{push_same, push_other}

-- ---- while an option marks its items

-- the items of a list have the option's colours as marks, the others what they had
abbrev pub AreMarked : Problem → ℕ → List ℕ → List (Option ℕ) → List (Option ℕ) → Type 0
AreMarked p o items old marks = (item : ℕ) → item < length old → get_or marks item None ≡ (if is_in items item then Some (colour_of p o item) else get_or old item None)

-- one more item is marked
pub mark_more : (p : Problem) (o : ℕ) (old marks : List (Option ℕ)) (items : List ℕ) (place n c : ℕ) → place < length items → get_or items place 0 ≡ n → n < length marks → colour_of p o n ≡ c
    → AreMarked p o (take place items) old marks → AreMarked p o (take (place + 1) items) old (set marks n (Some c))
mark_more p o old marks items place n c inside here within colour are item low =
    let front : take (place + 1) items ≡ take place items ++ n ∷ [] = take_more items place 0 inside ∙ ap (λ m. take place items ++ m ∷ []) here in
    let P : List ℕ → Type 0 = λ list. get_or (set marks n (Some c)) item None ≡ (if is_in list item then Some (colour_of p o item) else get_or old item None) in
    let pushed : P (take place items ++ n ∷ []) = elim (cases_eq item n) [
      | inl same ↦
          let Q : ℕ → Type 0 = λ i. get_or (set marks n (Some c)) i None ≡ (if is_in (take place items ++ n ∷ []) i then Some (colour_of p o i) else get_or old i None) in
          subst Q (sym same)
          (get_or-set_same marks n (Some c) None within ∙ sym (ap Some colour)
          ∙ sym (ap (λ b. if b then Some (colour_of p o n) else get_or old n None) (push_same (take place items) n)))
      | inr other ↦
          get_or-set_other marks n item (Some c) None other ∙ are item low
          ∙ sym (ap (λ b. if b then Some (colour_of p o item) else get_or old item None) (push_other (take place items) n item (λ e. other (sym e))))
    ] in
    subst P (sym front) pushed

-- ---- the marks of options that do not clash

pub record Marked (p : Problem) (marks : List (Option ℕ)) (done : List ℕ) : Type 0 where
  pub long : length p.names ≤ length marks
  pub named : (q item : ℕ) → item < length marks → is_in done q ≡ true → names_item p q item ≡ true → get_or marks item None ≡ Some (colour_of p q item)
  pub some : (item c : ℕ) → item < length marks → get_or marks item None ≡ Some c → (q : ℕ) × (is_in done q ≡ true) × (names_item p q item ≡ true) × (colour_of p q item ≡ c)
  pub apart : are_apart p done ≡ true

pub marked_none : (p : Problem) (marks : List (Option ℕ)) (count : ℕ) → length p.names ≤ count → marks ≡ replicate count None → Marked p marks []
marked_none p marks count enough is =
    let long : length marks ≡ count = ap length is ∙ length-replicate count None in
    record {
      long = omega (arith, enough, long);
      named = λ q item low here on_q. absurd (both_ways false refl here);
      some = λ item c low e. absurd (none-some c (sym (ap (λ ms. get_or ms item None) is ∙ get_or-replicate count item None None (omega (arith, low, long))) ∙ e));
      apart = refl;
    }

-- an item that an option names is one of the problem
low_item : (p : Problem) (o item : ℕ) → IsProblem p → o < length p.options → names_item p o item ≡ true → item < length p.names
low_item p o item problem within on_o = ltb-true item (length p.names) (all_at (λ i. nat_lt i (length p.names)) (items_of p o) item (problem.each_named o [] within) on_o)

-- an option that fits is live
pub fits_live : (p : Problem) (marks : List (Option ℕ)) (done : List ℕ) (o : ℕ) → IsProblem p → o < length p.options → Marked p marks done → fits p marks o ≡ true → is_live p done o ≡ true
fits_live p marks done o problem within marked fit = agree_live p done o (λ q item here on_q on_o.
    let low = low_item p o item problem within on_o in
    let mark = marked.named q item (omega (arith, low, marked.long)) here on_q in
    let own : admits (Some (colour_of p q item)) (colour_of p o item) ≡ true = sym (ap (λ m. admits m (colour_of p o item)) mark) ∙ all_at (λ i. admits (get_or marks i None) (colour_of p o i)) (items_of p o) item fit on_o in
    let both = and_parts (nat_le 1 (colour_of p o item)) (colour_of p q item == colour_of p o item) own in
    let some = leb-true 1 (colour_of p o item) both.0 in
    let same = eqb-true (colour_of p q item) (colour_of p o item) both.1 in
    elim (cases_lt item p.primary) [
      | inl first ↦ let plain = problem.plain_primary o item first in absurd (omega (arith, plain, some))
      | inr high ↦ agree_by p q o item high (omega (arith, same, some)) same
    ])

-- an option of a list does not clash with those before it, where no two clash
apart_at : (p : Problem) (xs : List ℕ) (k q : ℕ) → k < length xs → are_apart p xs ≡ true → is_in (take k xs) q ≡ true → clash p (get_or xs k 0) q ≡ false
apart_at p [] k q inside apart here = absurd (omega (arith, inside))
apart_at p (x ∷ xs) zero q inside apart here = absurd (both_ways false refl here)
apart_at p (x ∷ xs) (suc k) q inside apart here =
    let within : k < length xs = omega (arith, inside) in
    let parts = and_parts (is_live p xs x) (are_apart p xs) apart in
    elim (or_cases (x == q) (is_in (take k xs) q) here) [
      | inl same ↦ subst (λ y. clash p (get_or xs k 0) y ≡ false) (eqb-true x q same) (not-true (clash p (get_or xs k 0) x) (all_at (λ r. not (clash p r x)) xs (get_or xs k 0) parts.0 (get_in xs k within)))
      | inr later ↦ apart_at p xs k q within parts.1 later
    ]

-- where no two of a list clash, each fits what those before it marked
fit_at : (p : Problem) (marks : List (Option ℕ)) (xs : List ℕ) (k o : ℕ) → IsProblem p → o < length p.options → Marked p marks (take k xs) → k < length xs → get_or xs k 0 ≡ o → are_apart p xs ≡ true → fits p marks o ≡ true
fit_at p marks xs k o problem within marked inside here apart =
    all_by (λ item. admits (get_or marks item None) (colour_of p o item)) (items_of p o) (λ item on_o.
    let low = low_item p o item problem within on_o in
    admitted item (omega (arith, low, marked.long)) on_o (get_or marks item None) refl)
  where
    admitted : (item : ℕ) → item < length marks → names_item p o item ≡ true → (mark : Option ℕ) → get_or marks item None ≡ mark → admits mark (colour_of p o item) ≡ true
    admitted item low on_o None e = refl
    admitted item low on_o (Some c) e =
        let q = marked.some item c low e in
        let free : clash p o q.0 ≡ false = ap (λ x. clash p x q.0) (sym here) ∙ apart_at p xs k q.0 inside apart q.1 in
        let one = agreement p o q.0 item (clash_agree p o q.0 item free on_o q.2) in
        and_from (nat_le 1 (colour_of p o item)) (c == colour_of p o item) (le-leb 1 (colour_of p o item) one.some) (eq-eqb c (colour_of p o item) (sym q.3 ∙ sym one.same))

pub unfit : (p : Problem) (marks : List (Option ℕ)) (xs : List ℕ) (k o : ℕ) → IsProblem p → o < length p.options → Marked p marks (take k xs) → k < length xs → get_or xs k 0 ≡ o → fits p marks o ≡ false → are_apart p xs ≡ false
unfit p marks xs k o problem within marked inside here off = false_from_ne_true (are_apart p xs) (λ apart. both_ways (fits p marks o) off (fit_at p marks xs k o problem within marked inside here apart))

-- once an option that fits marked its items
marked_push : (p : Problem) (old marks : List (Option ℕ)) (done : List ℕ) (o : ℕ) → Marked p old done → is_live p done o ≡ true → length marks ≡ length old
    → ((item : ℕ) → item < length old → get_or marks item None ≡ marked_by p o item (get_or old item None)) → Marked p marks (done ++ o ∷ [])
marked_push p old marks done o marked live long each = record {
  long = omega (arith, long, marked.long);
  named = λ q item low here on_q. elim (or_cases (is_in done q) ((o == q) || false) (sym (list_any-append (λ x. x == q) done (o ∷ [])) ∙ here)) [
    | inl before ↦ elim (cases_Bool (names_item p o item)) [
      | inl on_o ↦ own item low on_o ∙ ap Some (sym (agreement p q o item (live_agree p done o q item live before on_q on_o)).same)
      | inr off_o ↦ other item low off_o ∙ marked.named q item (within item low) before on_q
    ]
    | inr last ↦ elim (or_cases (o == q) false last) [
      | inl same ↦
          let is : o ≡ q = eqb-true o q same in
          own item low (ap (λ x. names_item p x item) is ∙ on_q) ∙ ap (λ x. Some (colour_of p x item)) is
      | inr off ↦ absurd (both_ways false refl off)
    ]
  ];
  some = λ item c low e. elim (cases_Bool (names_item p o item)) [
    | inl on_o ↦ (o, push_same done o, on_o, same_Some (colour_of p o item) c (sym (own item low on_o) ∙ e))
    | inr off_o ↦
        let q = marked.some item c (within item low) (sym (other item low off_o) ∙ e) in
        (q.0, list_any-append (λ x. x == q.0) done (o ∷ []) ∙ or_left (is_in done q.0) ((o == q.0) || false) q.1, q.2, q.3)
  ];
  apart = apart_more p done o marked.apart live;
}
  where
    within : (item : ℕ) → item < length marks → item < length old
    within item low = omega (arith, low, long)

    own : (item : ℕ) → item < length marks → names_item p o item ≡ true → get_or marks item None ≡ Some (colour_of p o item)
    own item low on_o = each item (within item low) ∙ ap (λ b. if b then Some (colour_of p o item) else get_or old item None) on_o

    other : (item : ℕ) → item < length marks → names_item p o item ≡ false → get_or marks item None ≡ get_or old item None
    other item low off_o = each item (within item low) ∙ ap (λ b. if b then Some (colour_of p o item) else get_or old item None) off_o

pub marked_more : (p : Problem) (old marks : List (Option ℕ)) (xs : List ℕ) (k o : ℕ) → IsProblem p → o < length p.options → Marked p old (take k xs) → k < length xs → get_or xs k 0 ≡ o → fits p old o ≡ true → length marks ≡ length old
    → ((item : ℕ) → item < length old → get_or marks item None ≡ marked_by p o item (get_or old item None)) → Marked p marks (take (k + 1) xs)
marked_more p old marks xs k o problem within marked inside here fit long each =
    let front : take (k + 1) xs ≡ take k xs ++ o ∷ [] = take_more xs k 0 inside ∙ ap (λ x. take k xs ++ x ∷ []) here in
    subst (Marked p marks) (sym front) (marked_push p old marks (take k xs) o marked (fits_live p old (take k xs) o problem within marked fit) long each)
