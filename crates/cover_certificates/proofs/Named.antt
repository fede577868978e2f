-- The options that name an item, one number after the other.
use Rattle.std.proofs.Common.{◌≡◌, ℕ, ◌+◌, ◌<◌, Bool, true, false, cond, List, [], ◌∷◌, ◌++◌, length, get_or, filter, sym, ap, ◌∙◌, arith}
use Rattle.std.specs.List.{range_with_len}
use Rattle.std.proofs.lemmas.List.Elements.{All-filter}
use Rattle.std.proofs.lemmas.List.{append-nil, map-id}
use Rattle.std.proofs.lemmas.List.FromFn.{filter_of_map_range_with_len_more, length-range_with_len, get_or-range_with_len}
use Rattle.cover_problem.specs.Problem.{Problem, names_item, option_numbers}
use Rattle.cover_certificates.specs.Tables.{options_naming}

next_named : (named : ℕ → Bool) (k : ℕ) → filter named (range_with_len 0 (k + 1)) ≡ filter named (range_with_len 0 k) ++ cond (named k) (k ∷ []) []
next_named named k =
    sym (ap (filter named) (map-id (range_with_len 0 (k + 1))))
    ∙ filter_of_map_range_with_len_more named (λ o. o) 0 k k (omega arith)
    ∙ ap (λ l. filter named l ++ cond (named k) (k ∷ []) []) (map-id (range_with_len 0 k))

pub one_more_named : (named : ℕ → Bool) (options : List ℕ) (k : ℕ) → named k ≡ true → options ≡ filter named (range_with_len 0 k) → options ++ k ∷ [] ≡ filter named (range_with_len 0 (k + 1))
one_more_named named options k is so =
    ap (λ l. l ++ k ∷ []) so ∙ sym (next_named named k ∙ ap (λ b. filter named (range_with_len 0 k) ++ cond b (k ∷ []) []) is)

pub none_more_named : (named : ℕ → Bool) (options : List ℕ) (k : ℕ) → named k ≡ false → options ≡ filter named (range_with_len 0 k) → options ≡ filter named (range_with_len 0 (k + 1))
none_more_named named options k is so =
    so ∙ sym (next_named named k ∙ ap (λ b. filter named (range_with_len 0 k) ++ cond b (k ∷ []) []) is ∙ append-nil (filter named (range_with_len 0 k)))

pub named_low : (p : Problem) (item k d : ℕ) → k < length (options_naming p item) → get_or (options_naming p item) k d < length p.options
named_low p item k d h =
    All-filter (λ o. names_item p o item) (λ o. o < length p.options) (option_numbers p)
    (λ j e h'.
    let within : j < length p.options = omega (arith, h', length-range_with_len 0 (length p.options)) in
    rw (get_or-range_with_len 0 (length p.options) j e within) (omega arith))
    k d h
