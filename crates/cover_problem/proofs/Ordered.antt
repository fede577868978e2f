-- The options of a list, in file order, are in file order.
use Rattle.std.proofs.Common.{◌≡◌, ℕ, ◌+◌, ◌<◌, Bool, true, false, cond, List, [], ◌∷◌, ◌++◌, length, filter, sym, ap, ◌∙◌, arith}
use Rattle.std.specs.List.{range_with_len}
use Rattle.std.specs.List.Sorted.{IsStrictlyIncreasing}
use Rattle.std.proofs.lemmas.List.Elements.{All-filter}
use Rattle.std.proofs.lemmas.List.{append-nil, map-id}
use Rattle.std.proofs.lemmas.List.FromFn.{filter_of_map_range_with_len_more, length-range_with_len, get_or-range_with_len}
use Rattle.std.proofs.lemmas.List.Kept.{IsStrictlyIncreasing-filter}
use Rattle.cover_problem.specs.ExactCover.{in_order}
use Rattle.cover_problem.specs.Numbers.{is_in}
use Rattle.cover_problem.specs.Prefix.{InFileOrder}
use Rattle.cover_problem.specs.Problem.{Problem, option_numbers}

range_rises : (start count : ℕ) → IsStrictlyIncreasing (range_with_len start count)
range_rises start count k h =
    let later : k + 1 < count = omega (arith, length-range_with_len start count) in
    let here : k < count = omega arith in
    rw (get_or-range_with_len start count k 0 here, get_or-range_with_len start count (k + 1) 0 later) (omega arith)

pub in_order_rises : (problem : Problem) (options : List ℕ) → InFileOrder problem (in_order problem options)
in_order_rises problem options = (
  All-filter (λ o. is_in options o) (λ o. o < length problem.options) (option_numbers problem)
      (λ k d h.
      let within : k < length problem.options = omega (arith, length-range_with_len 0 (length problem.options)) in
      rw (get_or-range_with_len 0 (length problem.options) k d within) (omega arith)),
  IsStrictlyIncreasing-filter (λ o. is_in options o) (option_numbers problem) (range_rises 0 (length problem.options)),
)

-- ---- the options of a list, one number after the other

next_chosen : (chosen : List ℕ) (k : ℕ) → filter (λ o. is_in chosen o) (range_with_len 0 (k + 1)) ≡ filter (λ o. is_in chosen o) (range_with_len 0 k) ++ cond (is_in chosen k) (k ∷ []) []
next_chosen chosen k =
    let keeps : ℕ → Bool = λ o. is_in chosen o in
    sym (ap (filter keeps) (map-id (range_with_len 0 (k + 1))))
    ∙ filter_of_map_range_with_len_more keeps (λ o. o) 0 k k (omega arith)
    ∙ ap (λ l. filter keeps l ++ cond (keeps k) (k ∷ []) []) (map-id (range_with_len 0 k))

pub one_more_chosen : (chosen options : List ℕ) (k : ℕ) → is_in chosen k ≡ true → options ≡ filter (λ o. is_in chosen o) (range_with_len 0 k)
    → options ++ k ∷ [] ≡ filter (λ o. is_in chosen o) (range_with_len 0 (k + 1))
one_more_chosen chosen options k is so =
    ap (λ l. l ++ k ∷ []) so ∙ sym (next_chosen chosen k ∙ ap (λ b. filter (λ o. is_in chosen o) (range_with_len 0 k) ++ cond b (k ∷ []) []) is)

pub none_more_chosen : (chosen options : List ℕ) (k : ℕ) → is_in chosen k ≡ false → options ≡ filter (λ o. is_in chosen o) (range_with_len 0 k)
    → options ≡ filter (λ o. is_in chosen o) (range_with_len 0 (k + 1))
none_more_chosen chosen options k is so =
    so ∙ sym (next_chosen chosen k ∙ ap (λ b. filter (λ o. is_in chosen o) (range_with_len 0 k) ++ cond b (k ∷ []) []) is ∙ append-nil (filter (λ o. is_in chosen o) (range_with_len 0 k)))
