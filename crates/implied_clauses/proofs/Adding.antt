-- How the clauses of the items grow, option by option.
use Rattle.std.proofs.Common.{◌≡◌, ℕ, zero, suc, ◌+◌, ◌<◌, ◌≤◌, Bool, true, false, cond, if◌then◌else◌, List, [], ◌∷◌, ◌++◌, length, take, get_or, set, map, filter, Option, Some, None, refl, sym, ap, ◌∙◌, subst, arith, inl, inr, add-zero, add-one}
use Rattle.std.proofs.lemmas.Bool.{cases_eq, cases_lt}
use Rattle.std.proofs.lemmas.List.{append-nil, ext_get_or, get_or-set_other, get_or-set_same, map-append, set_past, take_more}
use Rattle.std.proofs.lemmas.List.Elements.{filter-append}
use Rattle.std.proofs.lemmas.List.FromFn.{get_or-map-range_with_len, length-map-range_with_len}
use Rattle.std.specs.List.{range_with_len}
use Rattle.std.specs.Option.{option_map}
use Rattle.cover_problem.specs.Numbers.{is_in}
use Rattle.cover_problem.specs.Problem.{Problem, names_item}
use Rattle.cover_problem.proofs.Repeats.{push_same, push_other}
use Rattle.implied_clauses.specs.Clauses.{item_clause, item_clauses}
use Rattle.implied_clauses.specs.Items.{with_literal, with_option, with_option_at, clause_below}
use Rattle.implied_clauses.specs.declared.literal.Literal.{Literal}
use Rattle.implied_clauses.specs.declared.literal.Literal.TheVariants.{Chosen}

-- ---- while an option is added

-- the clauses of the items of a list have the option at the end, the others are as they were
abbrev pub AreAdded : ℕ → List ℕ → List (Option (List Literal)) → List (Option (List Literal)) → Type 0
AreAdded o items old new = (item : ℕ) → item < length old → get_or new item None ≡ with_literal (is_in items item) o (get_or old item None)

pub none_added : (o : ℕ) (old : List (Option (List Literal))) → AreAdded o [] old old
none_added o old item low = go (get_or old item None)
  where
    go : (slot : Option (List Literal)) → slot ≡ with_literal false o slot
    go None = refl
    go (Some clause) = ap (λ ls. Some ls) (sym (append-nil clause))

-- an option's literal behind nothing is that literal
after_nothing : (o : ℕ) (slot : Option (List Literal)) → option_map (λ clause. clause ++ Chosen o ∷ []) (with_literal false o slot) ≡ with_literal true o slot
after_nothing o None = refl
after_nothing o (Some clause) = ap (λ ls. Some (ls ++ Chosen o ∷ [])) (append-nil clause)

front : (items : List ℕ) (place n : ℕ) → place < length items → get_or items place 0 ≡ n → take (place + 1) items ≡ take place items ++ n ∷ []
front items place n inside here = take_more items place 0 inside ∙ ap (λ m. take place items ++ m ∷ []) here

-- one more item, which stands in the list once and has a clause
put_more : (o : ℕ) (old new : List (Option (List Literal))) (items : List ℕ) (place n : ℕ) → place < length items → get_or items place 0 ≡ n → n < length new → length new ≡ length old
    → is_in (take place items) n ≡ false → AreAdded o (take place items) old new → AreAdded o (take (place + 1) items) old (with_option_at o n new)
put_more o old new items place n inside here within long fresh are item low =
    let slot : Option (List Literal) = option_map (λ clause. clause ++ Chosen o ∷ []) (get_or new n None) in
    let P : List ℕ → Type 0 = λ list. get_or (set new n slot) item None ≡ with_literal (is_in list item) o (get_or old item None) in
    let pushed : P (take place items ++ n ∷ []) = elim (cases_eq item n) [
      | inl same ↦
          let Q : ℕ → Type 0 = λ i. get_or (set new n slot) i None ≡ with_literal (is_in (take place items ++ n ∷ []) i) o (get_or old i None) in
          let own : get_or new n None ≡ with_literal false o (get_or old n None) = are n (omega (arith, within, long)) ∙ ap (λ b. with_literal b o (get_or old n None)) fresh in
          subst Q (sym same)
          (get_or-set_same new n slot None within ∙ ap (option_map (λ clause. clause ++ Chosen o ∷ [])) own ∙ after_nothing o (get_or old n None)
          ∙ sym (ap (λ b. with_literal b o (get_or old n None)) (push_same (take place items) n)))
      | inr other ↦
          get_or-set_other new n item slot None other ∙ are item low
          ∙ sym (ap (λ b. with_literal b o (get_or old item None)) (push_other (take place items) n item (λ e. other (sym e))))
    ] in
    subst P (sym (front items place n inside here)) pushed

-- one more item, which has no clause
pass_more : (o : ℕ) (old new : List (Option (List Literal))) (items : List ℕ) (place n : ℕ) → place < length items → get_or items place 0 ≡ n → length old ≤ n
    → AreAdded o (take place items) old new → AreAdded o (take (place + 1) items) old new
pass_more o old new items place n inside here past are item low =
    are item low
    ∙ sym (ap (λ b. with_literal b o (get_or old item None)) (push_other (take place items) n item (λ e. omega (arith, e, past, low))))
    ∙ sym (ap (λ list. with_literal (is_in list item) o (get_or old item None)) (front items place n inside here))

-- one more item, which stands in the list once
pub add_more : (o : ℕ) (old new : List (Option (List Literal))) (items : List ℕ) (place : ℕ) → place < length items → length new ≡ length old
    → is_in (take place items) (get_or items place 0) ≡ false → AreAdded o (take place items) old new → AreAdded o (take (place + 1) items) old (with_option_at o (get_or items place 0) new)
add_more o old new items place inside long fresh are =
    let n = get_or items place 0 in
    elim (cases_lt n (length new)) [
      | inl within ↦ put_more o old new items place n inside refl within long fresh are
      | inr past ↦
          let P : List (Option (List Literal)) → Type 0 = λ list. AreAdded o (take (place + 1) items) old list in
          subst P (sym (set_past new n _ past)) (pass_more o old new items place n inside refl (omega (arith, past, long)) are)
    ]

-- ---- while the options are gone through

-- each clause has the options below a bound
pub record AreBelow (p : Problem) (bound : ℕ) (clauses : List (Option (List Literal))) : Type 0 where
  pub long : length clauses ≡ p.primary
  pub each : (item : ℕ) → item < p.primary → get_or clauses item None ≡ Some (clause_below p bound item)

range_more : (a n : ℕ) → range_with_len a (suc n) ≡ range_with_len a n ++ (a + n) ∷ []
range_more a zero = ap (λ x. x ∷ []) (sym (add-zero a))
range_more a (suc n) = ap (λ xs. a ∷ xs) (range_more (a + 1) n ∙ ap (λ x. range_with_len (a + 1) n ++ x ∷ []) (omega arith))

below_more : (p : Problem) (o item : ℕ) → with_option p o item (Some (clause_below p o item)) ≡ Some (clause_below p (suc o) item)
below_more p o item =
    ap (λ ls. Some ls)
    (go (names_item p o item)
    ∙ sym (map-append (λ option. Chosen option) (filter kept (range_with_len 0 o)) (filter kept (o ∷ [])))
    ∙ ap (map (λ option. Chosen option)) (sym (filter-append kept (range_with_len 0 o) (o ∷ [])) ∙ ap (filter kept) (sym (range_more 0 o ∙ ap (λ x. range_with_len 0 o ++ x ∷ []) (omega arith)))))
  where
    kept : ℕ → Bool
    kept option = names_item p option item

    go : (b : Bool) → clause_below p o item ++ (if b then Chosen o ∷ [] else []) ≡ clause_below p o item ++ map (λ option. Chosen option) (cond b (o ∷ []) [])
    go true = refl
    go false = refl

pub go_on : (p : Problem) (o : ℕ) (old new : List (Option (List Literal))) → AreBelow p o old → length new ≡ length old
    → ((item : ℕ) → item < length old → get_or new item None ≡ with_option p o item (get_or old item None)) → AreBelow p (o + 1) new
go_on p o old new below long each = record {
  long = long ∙ below.long;
  each = λ item low. each item (omega (arith, low, below.long)) ∙ ap (with_option p o item) (below.each item low) ∙ below_more p o item ∙ ap (λ n. Some (clause_below p n item)) (sym (add-one o));
}

pub all_below : (p : Problem) (clauses : List (Option (List Literal))) → AreBelow p (length p.options) clauses → clauses ≡ item_clauses p
all_below p clauses below =
    ext_get_or None clauses (item_clauses p) (below.long ∙ sym (length-map-range_with_len (λ item. Some (item_clause p item)) 0 p.primary))
    (λ i low. let inside : i < p.primary = omega (arith, low, below.long) in
    below.each i inside ∙ sym (get_or-map-range_with_len (λ item. Some (item_clause p item)) 0 p.primary i i None inside (omega arith)))
