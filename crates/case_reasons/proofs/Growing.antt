-- Cases of the options so far, and of one more; copies of some options, and of one more.
use Rattle.std.proofs.Common.{◌≡◌, ℕ, ◌+◌, ◌<◌, Bool, true, false, ◌&&◌, cond, List, [], ◌∷◌, ◌++◌, map, filter, get_or, length, take, refl, sym, ap, ◌∙◌, arith}
use Rattle.std.specs.List.{list_all, range_with_len}
use Rattle.std.proofs.lemmas.Bool.{and_from}
use Rattle.std.proofs.lemmas.List.{map_push, take_more}
use Rattle.std.proofs.lemmas.List.Folds.{list_all-append}
use Rattle.std.proofs.lemmas.List.FromFn.{filter_of_map_range_with_len_more}
use Rattle.cover_problem.specs.Problem.{Problem, names_item}
use Rattle.case_reasons.specs.Cases.{is_case}
use Rattle.case_reasons.specs.declared.case.Case.{Case}

same_list : (xs : List ℕ) → map (λ x. x) xs ≡ xs
same_list [] = refl
same_list (x ∷ xs) = ap (λ l. x ∷ l) (same_list xs)

next_of : (test : ℕ → Bool) (k : ℕ) → filter test (range_with_len 0 (k + 1)) ≡ filter test (range_with_len 0 k) ++ cond (test k) (k ∷ []) []
next_of test k =
    ap (filter test) (sym (same_list (range_with_len 0 (k + 1))))
    ∙ filter_of_map_range_with_len_more test (λ x. x) 0 k k (omega arith)
    ∙ ap (λ xs. filter test xs ++ cond (test k) (k ∷ []) []) (same_list (range_with_len 0 k))

pub each_more : (p : Problem) (item : ℕ) (now new : List Case) (k : ℕ) (case : Case) → map (λ c. c.option) now ≡ filter (λ o. names_item p o item) (range_with_len 0 k) → names_item p k item ≡ true → new ≡ now ++ case ∷ [] → case.option ≡ k → map (λ c. c.option) new ≡ filter (λ o. names_item p o item) (range_with_len 0 (k + 1))
each_more p item now new k case was named is same =
    ap (map (λ c. c.option)) is ∙ map_push (λ (c : Case). c.option) now case ∙ ap (λ xs. xs ++ case.option ∷ []) was ∙ ap (λ o. filter (λ o. names_item p o item) (range_with_len 0 k) ++ o ∷ []) same
    ∙ sym (next_of (λ o. names_item p o item) k ∙ ap (λ b. filter (λ o. names_item p o item) (range_with_len 0 k) ++ cond b (k ∷ []) []) named)

append_none : (xs : List ℕ) → xs ++ [] ≡ xs
append_none [] = refl
append_none (x ∷ xs) = ap (λ l. x ∷ l) (append_none xs)

pub each_same : (p : Problem) (item : ℕ) (now new : List Case) (k : ℕ) → map (λ c. c.option) now ≡ filter (λ o. names_item p o item) (range_with_len 0 k) → names_item p k item ≡ false → new ≡ now → map (λ c. c.option) new ≡ filter (λ o. names_item p o item) (range_with_len 0 (k + 1))
each_same p item now new k was unnamed same =
    ap (map (λ c. c.option)) same ∙ was
    ∙ sym (next_of (λ o. names_item p o item) k ∙ ap (λ b. filter (λ o. names_item p o item) (range_with_len 0 k) ++ cond b (k ∷ []) []) unnamed ∙ append_none (filter (λ o. names_item p o item) (range_with_len 0 k)))

pub hold_more : (p : Problem) (now new : List Case) (case : Case) → list_all (is_case p) now ≡ true → new ≡ now ++ case ∷ [] → is_case p case ≡ true → list_all (is_case p) new ≡ true
hold_more p now new case was is holds =
    ap (list_all (is_case p)) is ∙ list_all-append (is_case p) now (case ∷ []) ∙ and_from (list_all (is_case p) now) (is_case p case && true) was (and_from (is_case p case) true holds refl)

-- by what a function says of the next element of another list
pub one_more_mapped : {X Y : Type 0} (f : X → Y) (xs : List X) (now new : List Y) (k : ℕ) (d : X) (y : Y) → k < length xs → now ≡ map f (take k xs) → new ≡ now ++ y ∷ [] → y ≡ f (get_or xs k d) → new ≡ map f (take (k + 1) xs)
one_more_mapped f xs now new k d y inside was is next =
    is ∙ ap (λ ys. ys ++ y ∷ []) was ∙ ap (λ z. map f (take k xs) ++ z ∷ []) next
    ∙ sym (ap (map f) (take_more xs k d inside) ∙ map_push f (take k xs) (get_or xs k d))
