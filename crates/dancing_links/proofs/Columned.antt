-- The column of an uncovered item holds a node of each live option that names it, in file order.
use Rattle.std.proofs.Common.{◌≡◌, ℕ, zero, suc, get_or, drop, sym, ◌+◌, ◌-◌, ◌<◌, ◌≤◌, List, [], ◌∷◌, length, false, not, ◌==◌, ◌&&◌, filter, map, refl, arith, ap, ◌∙◌}
use Rattle.std.specs.List.{range_with_len, sum_by}
use Rattle.std.proofs.lemmas.List.{get_or-drop, length-drop}
use Rattle.cover_problem.specs.Branching.{live_options}
use Rattle.cover_problem.specs.Numbers.{is_in, is_distinct}
use Rattle.cover_problem.specs.Onward.{live_options_from}
use Rattle.cover_problem.specs.Prefix.{is_covered, is_live}
use Rattle.cover_problem.specs.Problem.{Problem, items_of, names_item}
use Rattle.dancing_links.specs.Columns.{Columns, among, option_of, column_of, column_from}
use Rattle.dancing_links.specs.Table.{starts, heads_of, base_of, tails_of, table}
use Rattle.dancing_links.proofs.Walk.{column_skip_to}
use Rattle.dancing_links.proofs.Nodes.{column_item, starts_first, starts_end}
use Rattle.dancing_links.proofs.Parts.{options_part}
use Rattle.dancing_links.proofs.Present.{IsOut, covers, is_dead}
use Rattle.cover_problem.proofs.Basics.{same_truth}
use Rattle.dancing_links.proofs.Tables.{start_of, IsNodeAt, node_by, option_distinct}
use Rattle.dancing_links.proofs.Cast.{IsCast, cast_names, node_live}

-- ---- the column of an item

-- the options of the nodes of an uncovered item's column are the live ones that name it
pub column_options : (p : Problem) (os seen nodes commits out : List ℕ) (i : ℕ) → IsCast p (table p) os seen nodes commits → IsOut (table p) nodes out → i < length p.names → is_covered p os i ≡ false → map (option_of (table p)) (column_from (table p) out i (heads_of p)) ≡ live_options p os i
unfolding column_from live_options
column_options p os seen nodes commits out i cast gone h free =
    let c : Columns = table p in
    let skip : column_from c out i (heads_of p) ≡ column_from c out i (base_of p) =
    column_skip_to c out i (length p.names) (heads_of p) (base_of p) refl (λ y low high own. absurd (omega (arith, column_item p y low high, own, h))) in
    let count : tails_of p - base_of p ≡ sum_by length p.options = omega arith in
    ap (map (option_of c)) (skip ∙ ap (λ n. filter (λ k. (column_of c k == i) && not (among out k)) (range_with_len (base_of p) n)) count)
    ∙ options_part (column_of c) (option_of c) (λ k. not (among out k)) (is_live p os) (λ o. names_item p o i) i 0 p.options (base_of p)
    (λ o j ho hj. (node_by p (start_of p o + j) o j ho hj refl).item)
    (λ o j ho hj. (node_by p (start_of p o + j) o j ho hj refl).own ∙ omega arith)
    (λ o j ho hj own.
    let k : ℕ = start_of p o + j in
    let at = node_by p k o j ho hj refl in
    let low : c.heads + c.heads ≤ k + 1 = omega (arith, at.low) in
    let high : k < c.tails = omega (arith, at.high, hj) in
    let new : covers c nodes (column_of c k) ≡ false = ap (covers c nodes) own ∙ cast_names p os seen nodes commits i cast ∙ free in
    let e : o ≡ 0 + o = omega arith in
    ap not (same_truth (among out k) (is_dead c nodes k) (gone.out_dead k low high) (gone.dead_out k low high new))
    ∙ node_live p os seen nodes commits k o j cast at ∙ ap (is_live p os) e)
    (λ o ho. let e : 0 + o ≡ o = omega arith in ap (λ n. names_item p n i) e)
    (λ o ho. option_distinct p o cast.is_problem ho)

-- ---- the column of an item from an option on

starts_drop : (s : ℕ) (options : List (List ℕ)) (start o : ℕ) → start + o ≤ length options → get_or (starts (get_or (starts s options) start 0) (drop start options)) o 0 ≡ get_or (starts s options) (start + o) 0
starts_drop s options zero o h =
    let e : o ≡ 0 + o = omega arith in
    ap (λ k. get_or (starts k options) o 0) (starts_first s options) ∙ ap (λ k. get_or (starts s options) k 0) e
starts_drop s [] (suc start) o h = absurd (omega (arith, h))
starts_drop s (x ∷ xs) (suc start) o h =
    let e : suc (start + o) ≡ suc start + o = omega arith in
    starts_drop (s + length x) xs start o (omega (arith, h)) ∙ ap (λ k. get_or (starts s (x ∷ xs)) k 0) e

-- the options of the nodes of an uncovered item's column, from where an option begins, are the live ones from that one on
pub column_options_from : (p : Problem) (os seen nodes commits out : List ℕ) (i start : ℕ) → IsCast p (table p) os seen nodes commits → IsOut (table p) nodes out → i < length p.names → is_covered p os i ≡ false → start ≤ length p.options → map (option_of (table p)) (column_from (table p) out i (start_of p start)) ≡ live_options_from p os i start
unfolding column_from live_options_from
column_options_from p os seen nodes commits out i start cast gone h free within =
    let c : Columns = table p in
    let options : List (List ℕ) = drop start p.options in
    let size : length options ≡ length p.options - start = length-drop start p.options in
    let begin : (o : ℕ) → o ≤ length options → get_or (starts (start_of p start) options) o 0 ≡ start_of p (start + o) = (λ o le. starts_drop (base_of p) p.options start o (omega (arith, size, within, le))) in
    let items : (o : ℕ) → get_or options o [] ≡ items_of p (start + o) = (λ o. get_or-drop start p.options o []) in
    let inside : (o : ℕ) → o < length options → start + o < length p.options = (λ o lt. omega (arith, size, lt)) in
    let last : start + length options ≡ length p.options = omega (arith, size, within) in
    let total : start_of p start + sum_by length options ≡ tails_of p = sym (starts_end (start_of p start) options) ∙ begin (length options) (omega arith) ∙ ap (start_of p) last ∙ starts_end (base_of p) p.options in
    let count : tails_of p - start_of p start ≡ sum_by length options = omega (arith, total) in
    let node : (o j : ℕ) → (lt : o < length options) → j < length (get_or options o []) → IsNodeAt p (get_or (starts (start_of p start) options) o 0 + j) (start + o) j =
    (λ o j lt in_j. node_by p (get_or (starts (start_of p start) options) o 0 + j) (start + o) j (inside o lt) (omega (arith, in_j, ap length (items o))) (ap (λ k. k + j) (begin o (omega (arith, lt))))) in
    ap (λ n. map (option_of c) (filter (λ k. (column_of c k == i) && not (among out k)) (range_with_len (start_of p start) n))) count
    ∙ options_part (column_of c) (option_of c) (λ k. not (among out k)) (is_live p os) (λ o. names_item p o i) i start options (start_of p start)
    (λ o j lt in_j. (node o j lt in_j).item ∙ ap (λ (xs : List ℕ). get_or xs j 0) (sym (items o)))
    (λ o j lt in_j. (node o j lt in_j).own)
    (λ o j lt in_j own.
    let k : ℕ = get_or (starts (start_of p start) options) o 0 + j in
    let at = node o j lt in_j in
    let low : c.heads + c.heads ≤ k + 1 = omega (arith, at.low, at.node) in
    let high : k < c.tails = omega (arith, at.high, at.place_in, at.node) in
    let new : covers c nodes (column_of c k) ≡ false = ap (covers c nodes) own ∙ cast_names p os seen nodes commits i cast ∙ free in
    ap not (same_truth (among out k) (is_dead c nodes k) (gone.out_dead k low high) (gone.dead_out k low high new)) ∙ node_live p os seen nodes commits k (start + o) j cast at)
    (λ o lt. ap (λ (xs : List ℕ). is_in xs i) (sym (items o)))
    (λ o lt. ap is_distinct (items o) ∙ option_distinct p (start + o) cast.is_problem (inside o lt))
    ∙ ap (λ n. filter (λ o. is_live p os o && names_item p o i) (range_with_len start n)) size
