-- Lists that a loop lays down, element by element or option by option.
use Rattle.std.proofs.Common.{◌≡◌, ℕ, zero, suc, ◌+◌, ◌-◌, ◌<◌, ◌≤◌, List, [], ◌∷◌, ◌++◌, length, get_or, take, drop, replicate, arith, sym, ap, ◌∙◌, add-one, append_assoc, append-nil, drop-cons}
use Rattle.std.specs.List.{range_with_len, concat, sum_by}
use Rattle.std.proofs.lemmas.List.{replicate_more, drop_all, take_all}
use Rattle.std.proofs.lemmas.List.Sums.{sum_by-cons}
use Rattle.dancing_links.specs.Table.{starts, numbered}

range_more : (start n : ℕ) → range_with_len start n ++ (start + n) ∷ [] ≡ range_with_len start (suc n)
range_more start zero = ap (λ k. k ∷ []) (omega arith)
range_more start (suc n) = ap (λ ks. start ∷ ks) (ap (λ k. range_with_len (start + 1) n ++ k ∷ []) (omega arith) ∙ range_more (start + 1) n)

pub range_push : (xs : List ℕ) (n : ℕ) → (xs ++ range_with_len 0 n) ++ n ∷ [] ≡ xs ++ range_with_len 0 (n + 1)
range_push xs n =
    let e : 0 + n ≡ n = omega arith in
    append_assoc xs (range_with_len 0 n) (n ∷ []) ∙ ap (λ ks. xs ++ ks) (ap (λ k. range_with_len 0 n ++ k ∷ []) (sym e) ∙ range_more 0 n ∙ ap (range_with_len 0) (sym (add-one n)))

pub copies_push : (xs : List ℕ) (n y : ℕ) → (xs ++ replicate n y) ++ y ∷ [] ≡ xs ++ replicate (n + 1) y
copies_push xs n y = append_assoc xs (replicate n y) (y ∷ []) ∙ ap (λ ks. xs ++ ks) (replicate_more n y)

pub nothing_past : (options : List (List ℕ)) (o : ℕ) → length options ≤ o → drop o options ≡ []
nothing_past options o h = drop_all o options h

pub next_option : (options : List (List ℕ)) (o : ℕ) → o < length options → drop o options ≡ get_or options o [] ∷ drop (o + 1) options
next_option options o h = drop-cons options o [] h ∙ ap (λ k. get_or options o [] ∷ drop k options) (sym (add-one o))

pub items_push : (xs : List ℕ) (options : List (List ℕ)) (o : ℕ) → o < length options → (xs ++ get_or options o []) ++ concat (drop (o + 1) options) ≡ xs ++ concat (drop o options)
items_push xs options o h = append_assoc xs (get_or options o []) (concat (drop (o + 1) options)) ∙ ap (λ os. xs ++ concat os) (sym (next_option options o h))

pub items_all_pushed : (xs : List ℕ) (options : List (List ℕ)) (o : ℕ) → length options ≤ o → xs ++ concat (drop o options) ≡ xs
items_all_pushed xs options o h = ap (λ os. xs ++ concat os) (nothing_past options o h) ∙ append-nil xs

pub options_push : (xs : List ℕ) (options : List (List ℕ)) (o : ℕ) → o < length options → (xs ++ replicate (length (get_or options o [])) o) ++ numbered (o + 1) (drop (o + 1) options) ≡ xs ++ numbered o (drop o options)
options_push xs options o h = append_assoc xs (replicate (length (get_or options o [])) o) (numbered (o + 1) (drop (o + 1) options)) ∙ ap (λ os. xs ++ numbered o os) (sym (next_option options o h))

pub options_all_pushed : (xs : List ℕ) (options : List (List ℕ)) (o : ℕ) → length options ≤ o → xs ++ numbered o (drop o options) ≡ xs
options_all_pushed xs options o h = ap (λ os. xs ++ numbered o os) (nothing_past options o h) ∙ append-nil xs

pub first_push : (xs : List ℕ) (options : List (List ℕ)) (o node : ℕ) → o < length options → (xs ++ node ∷ []) ++ starts (node + length (get_or options o [])) (drop (o + 1) options) ≡ xs ++ starts node (drop o options)
first_push xs options o node h = append_assoc xs (node ∷ []) (starts (node + length (get_or options o [])) (drop (o + 1) options)) ∙ ap (λ os. xs ++ starts node os) (sym (next_option options o h))

pub first_all_pushed : (xs : List ℕ) (options : List (List ℕ)) (o node : ℕ) → length options ≤ o → xs ++ starts node (drop o options) ≡ xs ++ node ∷ []
first_all_pushed xs options o node h = ap (λ os. xs ++ starts node os) (nothing_past options o h)

pub left_next : (options : List (List ℕ)) (o : ℕ) → o < length options → sum_by length (drop o options) ≡ length (get_or options o []) + sum_by length (drop (o + 1) options)
left_next options o h = ap (sum_by length) (next_option options o h) ∙ sum_by-cons length (get_or options o []) (drop (o + 1) options)

pub left_none : (options : List (List ℕ)) (o : ℕ) → length options ≤ o → sum_by length (drop o options) ≡ 0
left_none options o h = ap (sum_by length) (nothing_past options o h)

pub range_next : (n : ℕ) → range_with_len 0 n ++ n ∷ [] ≡ range_with_len 0 (n + 1)
range_next n =
    let e : 0 + n ≡ n = omega arith in
    ap (λ k. range_with_len 0 n ++ k ∷ []) (sym e) ∙ range_more 0 n ∙ ap (range_with_len 0) (sym (add-one n))

-- an empty list that is resized
pub resized : {X : Type 0} (xs : List X) (n k m : ℕ) (x : X) → xs ≡ [] → k ≡ 0 → n ≡ m → take n xs ++ replicate (n - k) x ≡ replicate m x
resized xs n k m x e f g =
    let count : n - k ≡ m = omega (arith, f, g) in
    ap (λ ys. take n ys ++ replicate (n - k) x) e ∙ ap (λ ys. ys ++ replicate (n - k) x) (take_all n [] (omega arith)) ∙ ap (λ j. replicate j x) count
