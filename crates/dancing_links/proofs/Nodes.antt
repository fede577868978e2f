-- The nodes of a problem: which option each belongs to, and at which place of it.
use Rattle.std.proofs.Common.{◌≡◌, ℕ, zero, suc, ◌+◌, ◌-◌, ◌<◌, ◌≤◌, List, [], ◌∷◌, ◌++◌, length, get_or, map, replicate, refl, arith, ap, sym, ◌∙◌, inl, inr, add-one}
use Rattle.std.specs.List.{range_with_len, concat, sum_by}
use Rattle.std.proofs.lemmas.Bool.{cases_lt}
use Rattle.std.proofs.lemmas.List.{get_or-append_right, get_or_append_left, length-replicate, get_or-replicate, length-append, length-map}
use Rattle.std.proofs.lemmas.List.Sums.{sum_by-cons}
use Rattle.std.proofs.lemmas.List.FromFn.{length-range_with_len, get_or-range_with_len}
use Rattle.cover_problem.specs.Problem.{Problem, IsProblem}
use Rattle.dancing_links.specs.Table.{starts, numbered, heads_of, base_of, tails_of, column_list, colour_list, option_list, first_list}

pub length-starts : (start : ℕ) (options : List (List ℕ)) → length (starts start options) ≡ length options + 1
length-starts start [] = refl
length-starts start (x ∷ xs) = let h = length-starts (start + length x) xs in omega (arith, h)

pub starts_first : (start : ℕ) (options : List (List ℕ)) → get_or (starts start options) 0 0 ≡ start
starts_first start [] = refl
starts_first start (x ∷ xs) = refl

starts_suc : (start : ℕ) (options : List (List ℕ)) (o : ℕ) → o < length options → get_or (starts start options) (suc o) 0 ≡ get_or (starts start options) o 0 + length (get_or options o [])
starts_suc start [] o h = absurd (omega (arith, h))
starts_suc start (x ∷ xs) zero h = starts_first (start + length x) xs
starts_suc start (x ∷ xs) (suc o) h = starts_suc (start + length x) xs o (omega (arith, h))

pub starts_next : (start : ℕ) (options : List (List ℕ)) (o : ℕ) → o < length options → get_or (starts start options) (o + 1) 0 ≡ get_or (starts start options) o 0 + length (get_or options o [])
starts_next start options o h = rw (add-one o) (starts_suc start options o h)

pub starts_low : (start : ℕ) (options : List (List ℕ)) (o : ℕ) → o ≤ length options → start ≤ get_or (starts start options) o 0
starts_low start [] zero h = omega arith
starts_low start [] (suc o) h = absurd (omega (arith, h))
starts_low start (x ∷ xs) zero h = omega arith
starts_low start (x ∷ xs) (suc o) h = omega (arith, starts_low (start + length x) xs o (omega (arith, h)))

pub starts_high : (start : ℕ) (options : List (List ℕ)) (o : ℕ) → o ≤ length options → get_or (starts start options) o 0 ≤ start + sum_by length options
starts_high start [] zero h = omega arith
starts_high start [] (suc o) h = absurd (omega (arith, h))
starts_high start (x ∷ xs) zero h = omega arith
starts_high start (x ∷ xs) (suc o) h = omega (arith, sum_by-cons length x xs, starts_high (start + length x) xs o (omega (arith, h)))

pub starts_end : (start : ℕ) (options : List (List ℕ)) → get_or (starts start options) (length options) 0 ≡ start + sum_by length options
starts_end start [] = omega arith
starts_end start (x ∷ xs) = omega (arith, sum_by-cons length x xs, starts_end (start + length x) xs)

-- a node of an option: the number of the option, and the place in it
pub record IsNodeOf (options : List (List ℕ)) (start k : ℕ) : Type 0 where
  pub option : ℕ
  pub place : ℕ
  pub option_in : option < length options
  pub place_in : place < length (get_or options option [])
  pub node : k ≡ get_or (starts start options) option 0 + place

pub find_node : (start : ℕ) (options : List (List ℕ)) (k : ℕ) → start ≤ k → k < start + sum_by length options → IsNodeOf options start k
find_node start [] k low high = absurd (omega (arith, low, high))
find_node start (x ∷ xs) k low high = elim (cases_lt k (start + length x)) [
  | inl here ↦ record { option = 0; place = k - start; option_in = omega arith; place_in = omega (arith, low, here); node = omega (arith, low) }
  | inr later ↦
      let rest = find_node (start + length x) xs k later (omega (arith, high, sum_by-cons length x xs)) in
      record { option = suc rest.option; place = rest.place; option_in = omega (arith, rest.option_in); place_in = rest.place_in; node = rest.node }
]

pub length-concat : (options : List (List ℕ)) → length (concat options) ≡ sum_by length options
length-concat [] = refl
length-concat (x ∷ xs) = omega (arith, sum_by-cons length x xs, length-append x (concat xs), length-concat xs)

pub length-numbered : (option : ℕ) (options : List (List ℕ)) → length (numbered option options) ≡ sum_by length options
length-numbered option [] = refl
length-numbered option (x ∷ xs) = omega (arith, sum_by-cons length x xs, length-append (replicate (length x) option) (numbered (option + 1) xs), length-replicate (length x) option, length-numbered (option + 1) xs)

pub item_at_place : (start : ℕ) (options : List (List ℕ)) (o j : ℕ) → o < length options → j < length (get_or options o []) → get_or (concat options) (get_or (starts start options) o 0 + j - start) 0 ≡ get_or (get_or options o []) j 0
item_at_place start [] o j ho hj = absurd (omega (arith, ho))
item_at_place start (x ∷ xs) zero j ho hj =
    let e : start + j - start ≡ j = omega arith in
    ap (λ k. get_or (x ++ concat xs) k 0) e ∙ get_or_append_left x (concat xs) 0 j hj
item_at_place start (x ∷ xs) (suc o) j ho hj =
    let at : ℕ = get_or (starts (start + length x) xs) o 0 in
    let low = starts_low (start + length x) xs o (omega (arith, ho)) in
    let e : at + j - start - length x ≡ at + j - (start + length x) = omega (arith, low) in
    get_or-append_right x (concat xs) (length x) (at + j - start) 0 refl (omega (arith, low))
    ∙ ap (λ k. get_or (concat xs) k 0) e ∙ item_at_place (start + length x) xs o j (omega (arith, ho)) hj

pub option_at_place : (option start : ℕ) (options : List (List ℕ)) (o j : ℕ) → o < length options → j < length (get_or options o []) → get_or (numbered option options) (get_or (starts start options) o 0 + j - start) 0 ≡ option + o
option_at_place option start [] o j ho hj = absurd (omega (arith, ho))
option_at_place option start (x ∷ xs) zero j ho hj =
    let e : start + j - start ≡ j = omega arith in
    ap (λ k. get_or (replicate (length x) option ++ numbered (option + 1) xs) k 0) e
    ∙ get_or_append_left (replicate (length x) option) (numbered (option + 1) xs) 0 j (omega (arith, hj, length-replicate (length x) option))
    ∙ get_or-replicate (length x) j option 0 hj ∙ omega arith
option_at_place option start (x ∷ xs) (suc o) j ho hj =
    let at : ℕ = get_or (starts (start + length x) xs) o 0 in
    let low = starts_low (start + length x) xs o (omega (arith, ho)) in
    let e : at + j - start - length x ≡ at + j - (start + length x) = omega (arith, low) in
    get_or-append_right (replicate (length x) option) (numbered (option + 1) xs) (length x) (at + j - start) 0 (length-replicate (length x) option) (omega (arith, low))
    ∙ ap (λ k. get_or (numbered (option + 1) xs) k 0) e ∙ option_at_place (option + 1) (start + length x) xs o j (omega (arith, ho)) hj ∙ omega arith

-- the places of nodes are those of lists that are as long
starts_same : (start : ℕ) (xs ys : List (List ℕ)) → map length xs ≡ map length ys → starts start xs ≡ starts start ys
starts_same start [] [] e = refl
starts_same start [] (y ∷ ys) e = absurd (omega (arith, ap length e))
starts_same start (x ∷ xs) [] e = absurd (omega (arith, ap length e))
starts_same start (x ∷ xs) (y ∷ ys) e =
    let first : length x ≡ length y = cc in
    let rest : map length xs ≡ map length ys = cc in
    ap (λ n. start ∷ starts (start + n) xs) first ∙ ap (λ ks. start ∷ ks) (starts_same (start + length y) xs ys rest)

pub colour_at_place : (start : ℕ) (options colours : List (List ℕ)) (o j : ℕ) → map length colours ≡ map length options → o < length colours → j < length (get_or colours o []) → get_or (concat colours) (get_or (starts start options) o 0 + j - start) 0 ≡ get_or (get_or colours o []) j 0
colour_at_place start options colours o j e ho hj =
    ap (λ (ks : List ℕ). get_or (concat colours) (get_or ks o 0 + j - start) 0) (sym (starts_same start colours options e)) ∙ item_at_place start colours o j ho hj

-- ---- the lists of a problem's table

pub length-column_list : (p : Problem) → length (column_list p) ≡ tails_of p + heads_of p
unfolding column_list
length-column_list p =
    let n : ℕ = length p.names in
    let h : ℕ = heads_of p in
    omega (
      arith,
      length-append (range_with_len 0 h) (replicate n n ++ (concat p.options ++ range_with_len 0 h)),
      length-append (replicate n n) (concat p.options ++ range_with_len 0 h),
      length-append (concat p.options) (range_with_len 0 h),
      length-range_with_len 0 h,
      length-replicate n n,
      length-concat p.options,
    )

pub length-option_list : (p : Problem) → length (option_list p) ≡ tails_of p + heads_of p
unfolding option_list
length-option_list p =
    let m : ℕ = length p.options in
    omega (
      arith,
      length-append (replicate (base_of p) m) (numbered 0 p.options ++ replicate (heads_of p) m),
      length-append (numbered 0 p.options) (replicate (heads_of p) m),
      length-replicate (base_of p) m,
      length-replicate (heads_of p) m,
      length-numbered 0 p.options,
    )

pub length-first_list : (p : Problem) → length (first_list p) ≡ length p.options + 2
unfolding first_list
length-first_list p = omega (arith, length-append (starts (base_of p) p.options) (tails_of p ∷ []), length-starts (base_of p) p.options)

pub first_at : (p : Problem) (o : ℕ) → o ≤ length p.options → get_or (first_list p) o 0 ≡ get_or (starts (base_of p) p.options) o 0
unfolding first_list
first_at p o h = get_or_append_left (starts (base_of p) p.options) (tails_of p ∷ []) 0 o (omega (arith, h, length-starts (base_of p) p.options))

pub first_past : (p : Problem) → get_or (first_list p) (length p.options + 1) 0 ≡ tails_of p
unfolding first_list
first_past p =
    let n : ℕ = length p.options + 1 in
    let e : n - n ≡ 0 = omega arith in
    get_or-append_right (starts (base_of p) p.options) (tails_of p ∷ []) n n 0 (length-starts (base_of p) p.options) (omega arith) ∙ ap (λ k. get_or (tails_of p ∷ []) k 0) e

pub column_head : (p : Problem) (k : ℕ) → k < heads_of p → get_or (column_list p) k 0 ≡ k
unfolding column_list
column_head p k h =
    let n : ℕ = length p.names in
    get_or_append_left (range_with_len 0 (heads_of p)) (replicate n n ++ (concat p.options ++ range_with_len 0 (heads_of p))) 0 k (omega (arith, h, length-range_with_len 0 (heads_of p)))
    ∙ get_or-range_with_len 0 (heads_of p) k 0 h ∙ omega arith

column_rest : (p : Problem) (k : ℕ) → heads_of p ≤ k → get_or (column_list p) k 0 ≡ get_or (replicate (length p.names) (length p.names) ++ (concat p.options ++ range_with_len 0 (heads_of p))) (k - heads_of p) 0
unfolding column_list
column_rest p k h = get_or-append_right (range_with_len 0 (heads_of p)) (replicate (length p.names) (length p.names) ++ (concat p.options ++ range_with_len 0 (heads_of p))) (heads_of p) k 0 (length-range_with_len 0 (heads_of p)) h

pub column_item : (p : Problem) (k : ℕ) → heads_of p ≤ k → k < base_of p → get_or (column_list p) k 0 ≡ length p.names
column_item p k low high =
    let n : ℕ = length p.names in
    let at : k - heads_of p < n = omega (arith, low, high) in
    column_rest p k low
    ∙ get_or_append_left (replicate n n) (concat p.options ++ range_with_len 0 (heads_of p)) 0 (k - heads_of p) (omega (arith, at, length-replicate n n))
    ∙ get_or-replicate n (k - heads_of p) n 0 at

column_later : (p : Problem) (k : ℕ) → base_of p ≤ k → get_or (column_list p) k 0 ≡ get_or (concat p.options ++ range_with_len 0 (heads_of p)) (k - base_of p) 0
column_later p k low =
    let n : ℕ = length p.names in
    let e : k - heads_of p - n ≡ k - base_of p = omega (arith, low) in
    column_rest p k (omega (arith, low))
    ∙ get_or-append_right (replicate n n) (concat p.options ++ range_with_len 0 (heads_of p)) n (k - heads_of p) 0 (length-replicate n n) (omega (arith, low))
    ∙ ap (λ j. get_or (concat p.options ++ range_with_len 0 (heads_of p)) j 0) e

pub column_node : (p : Problem) (k : ℕ) → base_of p ≤ k → k < tails_of p → get_or (column_list p) k 0 ≡ get_or (concat p.options) (k - base_of p) 0
column_node p k low high =
    column_later p k low
    ∙ get_or_append_left (concat p.options) (range_with_len 0 (heads_of p)) 0 (k - base_of p) (omega (arith, low, high, length-concat p.options))

pub column_tail : (p : Problem) (k : ℕ) → tails_of p ≤ k → k < tails_of p + heads_of p → get_or (column_list p) k 0 ≡ k - tails_of p
column_tail p k low high =
    let e : k - base_of p - sum_by length p.options ≡ k - tails_of p = omega (arith, low) in
    column_later p k (omega (arith, low))
    ∙ get_or-append_right (concat p.options) (range_with_len 0 (heads_of p)) (sum_by length p.options) (k - base_of p) 0 (length-concat p.options) (omega (arith, low))
    ∙ ap (λ j. get_or (range_with_len 0 (heads_of p)) j 0) e
    ∙ get_or-range_with_len 0 (heads_of p) (k - tails_of p) 0 (omega (arith, low, high)) ∙ omega arith

pub option_before : (p : Problem) (k : ℕ) → k < base_of p → get_or (option_list p) k 0 ≡ length p.options
unfolding option_list
option_before p k h =
    let m : ℕ = length p.options in
    get_or_append_left (replicate (base_of p) m) (numbered 0 p.options ++ replicate (heads_of p) m) 0 k (omega (arith, h, length-replicate (base_of p) m))
    ∙ get_or-replicate (base_of p) k m 0 h

option_rest : (p : Problem) (k : ℕ) → base_of p ≤ k → get_or (option_list p) k 0 ≡ get_or (numbered 0 p.options ++ replicate (heads_of p) (length p.options)) (k - base_of p) 0
unfolding option_list
option_rest p k low = get_or-append_right (replicate (base_of p) (length p.options)) (numbered 0 p.options ++ replicate (heads_of p) (length p.options)) (base_of p) k 0 (length-replicate (base_of p) (length p.options)) low

pub option_node_list : (p : Problem) (k : ℕ) → base_of p ≤ k → k < tails_of p → get_or (option_list p) k 0 ≡ get_or (numbered 0 p.options) (k - base_of p) 0
option_node_list p k low high =
    option_rest p k low
    ∙ get_or_append_left (numbered 0 p.options) (replicate (heads_of p) (length p.options)) 0 (k - base_of p) (omega (arith, low, high, length-numbered 0 p.options))

pub option_after_list : (p : Problem) (k : ℕ) → tails_of p ≤ k → k < tails_of p + heads_of p → get_or (option_list p) k 0 ≡ length p.options
option_after_list p k low high =
    option_rest p k (omega (arith, low))
    ∙ get_or-append_right (numbered 0 p.options) (replicate (heads_of p) (length p.options)) (sum_by length p.options) (k - base_of p) 0 (length-numbered 0 p.options) (omega (arith, low))
    ∙ get_or-replicate (heads_of p) (k - base_of p - sum_by length p.options) (length p.options) 0 (omega (arith, low, high))

-- ---- colours

-- lists that are as long, list by list, have as many elements
same_size : (xs ys : List (List ℕ)) → map length xs ≡ map length ys → sum_by length xs ≡ sum_by length ys
same_size xs ys e =
    let same = ap (λ (ks : List ℕ). get_or ks (length xs) 0) (starts_same 0 xs ys e) ∙ ap (λ n. get_or (starts 0 ys) n 0) (sym (length-map xs length) ∙ ap length e ∙ length-map ys length) in
    omega (arith, starts_end 0 xs, same, starts_end 0 ys)

colours_size : (p : Problem) → IsProblem p → length (concat p.colours) ≡ sum_by length p.options
colours_size p is = length-concat p.colours ∙ same_size p.colours p.options is.each_coloured

pub length-colour_list : (p : Problem) → IsProblem p → length (colour_list p) ≡ tails_of p + heads_of p
unfolding colour_list
length-colour_list p is =
    omega (
      arith,
      length-append (replicate (base_of p) 0) (concat p.colours ++ replicate (heads_of p) 0),
      length-append (concat p.colours) (replicate (heads_of p) 0),
      length-replicate {A = ℕ} (base_of p) 0,
      length-replicate {A = ℕ} (heads_of p) 0,
      colours_size p is,
    )

-- the colour of a node of an option
pub colour_node : (p : Problem) (k : ℕ) → IsProblem p → base_of p ≤ k → k < tails_of p → get_or (colour_list p) k 0 ≡ get_or (concat p.colours) (k - base_of p) 0
unfolding colour_list
colour_node p k is low high =
    get_or-append_right (replicate (base_of p) 0) (concat p.colours ++ replicate (heads_of p) 0) (base_of p) k 0 (length-replicate (base_of p) 0) low
    ∙ get_or_append_left (concat p.colours) (replicate (heads_of p) 0) 0 (k - base_of p) (omega (arith, low, high, colours_size p is))
