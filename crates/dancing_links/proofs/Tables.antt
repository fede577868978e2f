-- The columns of a problem are a table.
use Rattle.std.proofs.Common.{◌≡◌, ℕ, zero, suc, ◌+◌, ◌-◌, ◌<◌, ◌≤◌, List, [], ◌∷◌, length, Bool, true, false, not, ◌==◌, ◌&&◌, get_or, map, filter, refl, arith, sym, ap, ◌∙◌, inl, inr}
use Rattle.std.specs.Prelude.{nat_lt}
use Rattle.std.specs.List.{sum_by, list_all, concat, range_with_len, All}
use Rattle.std.proofs.lemmas.Bool.{cases_lt, both_ways, or_cases, eqb-true, eq-eqb, and_parts, not-true, ltb-true, ne_eqb}
use Rattle.std.proofs.lemmas.List.{length-map}
use Rattle.std.proofs.lemmas.List.FromFn.{length-range_with_len, length-map-range_with_len, get_or-map-range_with_len}
use Rattle.std.proofs.lemmas.List.Sums.{length-filter, count_by-le-length}
use Rattle.std.proofs.lemmas.List.Elements.{All-get_or, All-from_get_or}
use Rattle.cover_problem.specs.Numbers.{is_distinct, is_in, are_below}
use Rattle.cover_problem.specs.Problem.{Problem, IsProblem, items_of, names_item, colours_of, colour_of}
use Rattle.cover_problem.proofs.Colours.{colour_at as colour_at_option, colours_long, colours_many, get_in}
use Rattle.dancing_links.specs.declared.place.Place.{Place}
use Rattle.dancing_links.specs.Columns.{Columns, among, option_of, column_of, colour_at, column_from, begin_of, end_of, place_at, IsTable}
use Rattle.dancing_links.specs.Table.{starts, numbered, heads_of, base_of, tails_of, column_list, colour_list, option_list, first_list, right_in, place_by, place_list, table}
use Rattle.dancing_links.proofs.Walk.{column_skip_to}
use Rattle.dancing_links.proofs.Parts.{options_part}
use Rattle.dancing_links.proofs.Nodes.{starts_next, starts_low, starts_high, starts_end, find_node, item_at_place, option_at_place, colour_at_place, colour_node, length-column_list, length-colour_list, length-option_list, length-first_list, first_at, first_past, column_head, column_item, column_node, column_tail, option_before, option_node_list, option_after_list}

-- where an option begins
abbrev pub start_of : Problem → ℕ → ℕ
start_of p o = get_or (starts (base_of p) p.options) o 0

-- a node of an option of a problem
pub record IsNodeAt (p : Problem) (k o j : ℕ) : Type 0 where
  pub option_in : o < length p.options
  pub place_in : j < length (items_of p o)
  pub node : k ≡ start_of p o + j
  pub own : get_or (option_list p) k 0 ≡ o
  pub begin : begin_of (table p) k ≡ start_of p o
  pub end : end_of (table p) k ≡ start_of p o + length (items_of p o)
  pub low : base_of p ≤ start_of p o
  pub high : start_of p o + length (items_of p o) ≤ tails_of p
  pub item : column_of (table p) k ≡ get_or (items_of p o) j 0

pub node_by : (p : Problem) (k o j : ℕ) → o < length p.options → j < length (items_of p o) → k ≡ start_of p o + j → IsNodeAt p k o j
node_by p k o j ho hj e =
    let low = starts_low (base_of p) p.options o (omega (arith, ho)) in
    let next = starts_next (base_of p) p.options o ho in
    let last = starts_high (base_of p) p.options (o + 1) (omega (arith, ho)) in
    let k_low : base_of p ≤ k = omega (arith, low, e) in
    let k_high : k < tails_of p = omega (arith, next, last, e, hj) in
    let own : get_or (option_list p) k 0 ≡ o =
    option_node_list p k k_low k_high
    ∙ ap (λ n. get_or (numbered 0 p.options) (n - base_of p) 0) e
    ∙ option_at_place 0 (base_of p) p.options o j ho hj ∙ omega arith in
    record {
      option_in = ho;
      place_in = hj;
      node = e;
      own = own;
      begin = ap (λ n. get_or (first_list p) n 0) own ∙ first_at p o (omega (arith, ho));
      end = ap (λ n. get_or (first_list p) (n + 1) 0) own ∙ first_at p (o + 1) (omega (arith, ho)) ∙ next;
      low = low;
      high = omega (arith, next, last);
      item = column_node p k k_low k_high ∙ ap (λ n. get_or (concat p.options) (n - base_of p) 0) e ∙ item_at_place (base_of p) p.options o j ho hj;
    }

pub record IsSomeNode (p : Problem) (k : ℕ) : Type 0 where
  pub option : ℕ
  pub place : ℕ
  pub at : IsNodeAt p k option place

pub node_at : (p : Problem) (k : ℕ) → base_of p ≤ k → k < tails_of p → IsSomeNode p k
node_at p k low high =
    let n = find_node (base_of p) p.options k low high in
    record { option = n.option; place = n.place; at = node_by p k n.option n.place n.option_in n.place_in n.node }

-- ---- what an option names

list_all_at_place : (p : ℕ → Bool) (xs : List ℕ) (j : ℕ) → list_all p xs ≡ true → j < length xs → p (get_or xs j 0) ≡ true
list_all_at_place p [] j h lt = absurd (omega (arith, lt))
list_all_at_place p (x ∷ xs) zero h lt = (and_parts (p x) (list_all p xs) h).0
list_all_at_place p (x ∷ xs) (suc j) h lt = list_all_at_place p xs j (and_parts (p x) (list_all p xs) h).1 (omega (arith, lt))

pub item_below : (p : Problem) (o j : ℕ) → IsProblem p → o < length p.options → j < length (items_of p o) → get_or (items_of p o) j 0 < length p.names
item_below p o j is ho hj =
    let P : List ℕ → Type 0 = λ items. are_below (length p.names) items ≡ true in
    let below : are_below (length p.names) (items_of p o) ≡ true = All-get_or P p.options o [] ho is.each_named in
    ltb-true (get_or (items_of p o) j 0) (length p.names) (list_all_at_place (λ i. nat_lt i (length p.names)) (items_of p o) j below hj)

pub one_place : (xs : List ℕ) (i j : ℕ) → is_distinct xs ≡ true → i < length xs → j < length xs → get_or xs i 0 ≡ get_or xs j 0 → i ≡ j
one_place [] i j d hi hj e = absurd (omega (arith, hi))
one_place (x ∷ xs) zero zero d hi hj e = refl
one_place (x ∷ xs) zero (suc j) d hi hj e =
    let new = not-true (is_in xs x) (and_parts (not (is_in xs x)) (is_distinct xs) d).0 in
    absurd (both_ways (is_in xs x) new (ap (is_in xs) e ∙ get_in xs j (omega (arith, hj))))
one_place (x ∷ xs) (suc i) zero d hi hj e =
    let new = not-true (is_in xs x) (and_parts (not (is_in xs x)) (is_distinct xs) d).0 in
    absurd (both_ways (is_in xs x) new (ap (is_in xs) (sym e) ∙ get_in xs i (omega (arith, hi))))
one_place (x ∷ xs) (suc i) (suc j) d hi hj e = ap suc (one_place xs i j (and_parts (not (is_in xs x)) (is_distinct xs) d).1 (omega (arith, hi)) (omega (arith, hj)) e)

pub option_distinct : (p : Problem) (o : ℕ) → IsProblem p → o < length p.options → is_distinct (items_of p o) ≡ true
option_distinct p o is ho =
    let P : List ℕ → Type 0 = λ items. is_distinct items ≡ true in
    All-get_or P p.options o [] ho is.each_distinct

-- where a number stands in a list
pub place_of : (xs : List ℕ) (x : ℕ) → is_in xs x ≡ true → (j : ℕ) × (j < length xs) × (get_or xs j 0 ≡ x)
place_of [] x h = absurd (both_ways false refl h)
place_of (y ∷ ys) x h = elim (or_cases (y == x) (is_in ys x) h) [
  | inl e ↦ (0, omega arith, eqb-true y x e)
  | inr r ↦ let rest = place_of ys x r in (suc rest.0, omega (arith, rest.1), rest.2)
]

-- ---- the table

column_below : (p : Problem) (k : ℕ) → IsProblem p → k < tails_of p + heads_of p → get_or (column_list p) k 0 < heads_of p
column_below p k is h = elim (cases_lt k (heads_of p)) [
  | inl head ↦ omega (arith, column_head p k head, head)
  | inr later ↦ elim (cases_lt k (base_of p)) [
    | inl item ↦ omega (arith, column_item p k later item)
    | inr more ↦ elim (cases_lt k (tails_of p)) [
      | inl node ↦
          let at = node_at p k more node in
          omega (arith, at.at.item, item_below p at.option at.place is at.at.option_in at.at.place_in)
      | inr tail ↦ omega (arith, column_tail p k tail h, tail, h)
    ]
  ]
]

option_below : (p : Problem) (k : ℕ) → k < tails_of p + heads_of p → get_or (option_list p) k 0 ≤ length p.options
option_below p k h = elim (cases_lt k (base_of p)) [
  | inl before ↦ omega (arith, option_before p k before)
  | inr more ↦ elim (cases_lt k (tails_of p)) [
    | inl node ↦ let at = node_at p k more node in omega (arith, at.at.own, at.at.option_in)
    | inr tail ↦ omega (arith, option_after_list p k tail h)
  ]
]

-- a node of no option belongs to an empty range
no_option : (p : Problem) (k : ℕ) → get_or (option_list p) k 0 ≡ length p.options → begin_of (table p) k ≡ end_of (table p) k
no_option p k own =
    let begin = ap (λ n. get_or (first_list p) n 0) own ∙ first_at p (length p.options) (omega arith) ∙ starts_end (base_of p) p.options in
    let end = ap (λ n. get_or (first_list p) (n + 1) 0) own ∙ first_past p in
    omega (arith, begin, end)

-- no column has more nodes than there are options
few_nodes : (p : Problem) (i : ℕ) → IsProblem p → i < length p.names → length (column_from (table p) [] i (heads_of p)) < 32768
unfolding column_from
few_nodes p i is h =
    let c : Columns = table p in
    let skip : column_from c [] i (heads_of p) ≡ column_from c [] i (base_of p) =
    column_skip_to c [] i (length p.names) (heads_of p) (base_of p) refl (λ y low high own. absurd (omega (arith, column_item p y low high, own, h))) in
    let count : tails_of p - base_of p ≡ sum_by length p.options = omega arith in
    let all : map (option_of c) (column_from c [] i (heads_of p)) ≡ filter (λ o. true && names_item p o i) (range_with_len 0 (length p.options)) =
    ap (map (option_of c)) (skip ∙ ap (λ n. filter (λ k. (column_of c k == i) && not (among [] k)) (range_with_len (base_of p) n)) count)
    ∙ options_part (column_of c) (option_of c) (λ k. not (among [] k)) (λ o. true) (λ o. names_item p o i) i 0 p.options (base_of p)
    (λ o j ho hj. (node_by p (start_of p o + j) o j ho hj refl).item)
    (λ o j ho hj. (node_by p (start_of p o + j) o j ho hj refl).own ∙ omega arith)
    (λ o j ho hj own. refl)
    (λ o ho. let e : 0 + o ≡ o = omega arith in ap (λ n. names_item p n i) e)
    (λ o ho. option_distinct p o is ho) in
    let length_all : length (map (option_of c) (column_from c [] i (heads_of p))) ≡ length (filter (λ o. true && names_item p o i) (range_with_len 0 (length p.options))) = ap length all in
    omega (arith, length_all, length-map (column_from c [] i (heads_of p)) (option_of c), length-filter (λ o. true && names_item p o i) (range_with_len 0 (length p.options)), count_by-le-length (λ o. true && names_item p o i) (range_with_len 0 (length p.options)), length-range_with_len 0 (length p.options), is.options)

-- the options of the nodes have a row
pub options_in : (p : Problem) → All (λ o. o + 1 < length (first_list p)) (option_list p)
options_in p = All-from_get_or (λ o. o + 1 < length (first_list p)) (option_list p) 0 (λ k h. omega (arith, length-first_list p, option_below p k (omega (arith, h, length-option_list p))))

-- what stands at a node of a problem
place_here : (p : Problem) (k : ℕ) → k < length (column_list p) → place_at (table p) k ≡ place_by (column_list p) (colour_list p) (option_list p) (first_list p) k
unfolding place_list
place_here p k h = get_or-map-range_with_len (place_by (column_list p) (colour_list p) (option_list p) (first_list p)) 0 (length (column_list p)) k k (record { right = 0; item = 0; colour = 0 }) h (omega arith)

right_here : (p : Problem) (k : ℕ) → k < length (column_list p) → (place_at (table p) k).right ≡ right_in (begin_of (table p) k) (end_of (table p) k) k
right_here p k h = ap (λ (place : Place). place.right) (place_here p k h)

length_places : (p : Problem) → length (place_list p) ≡ length (column_list p)
unfolding place_list
length_places p = length-map-range_with_len (place_by (column_list p) (colour_list p) (option_list p) (first_list p)) 0 (length (column_list p))

pub table_is : (p : Problem) → IsProblem p → IsTable (table p)
table_is p is =
    let size = length-column_list p in
    record {
      small = omega (arith, size, is.names, is.occurrences);
      ends = omega (arith, size);
      some = omega arith;
      order = omega (arith, is.some_primary, is.primary);
      option = length-option_list p ∙ sym size;
      each_column = All-from_get_or (λ i. i < heads_of p) (column_list p) 0 (λ k h. column_below p k is (omega (arith, h, size)));
      place = length_places p;
      item = λ k h. ap (λ (place : Place). place.item) (place_here p k h);
      colour = λ k h. ap (λ (place : Place). place.colour) (place_here p k h);
      right = λ k low high.
          let at = (node_at p k (omega (arith, low)) high).at in
          right_here p k (omega (arith, high, size)) ∙ rw (ne_eqb (begin_of (table p) k) (end_of (table p) k) (λ e. omega (arith, e, at.begin, at.end, at.place_in))) refl;
      alone = λ k low high.
          let none = no_option p k (option_before p k (omega (arith, high))) in
          right_here p k (omega (arith, high, size)) ∙ rw (eq-eqb (begin_of (table p) k) (end_of (table p) k) none) refl;
      no_row = λ k low high. no_option p k (option_before p k (omega (arith, high)));
      numbered = λ k low high.
          let at = (node_at p k (omega (arith, low)) high) in
          omega (arith, at.at.own, at.at.option_in, length-first_list p);
      tail_columns = λ k low high. omega (arith, column_tail p k low (omega (arith, high, size)), low);
      option_columns = λ k low high.
          let at = node_at p k (omega (arith, low)) high in
          omega (arith, at.at.item, item_below p at.option at.place is at.at.option_in at.at.place_in);
      head_columns = λ k h. column_head p k h;
      item_columns = λ i h. omega (arith, column_item p (heads_of p + i) (omega arith) (omega (arith, h)));
      within = λ k low high.
          let at = (node_at p k (omega (arith, low)) high).at in
          (omega (arith, at.begin, at.node), omega (arith, at.end, at.node, at.place_in), omega (arith, at.begin, at.low), omega (arith, at.end, at.high));
      same = λ k j low high above below.
          let at = (node_at p k (omega (arith, low)) high) in
          let by = node_by p j at.option (j - start_of p at.option) at.at.option_in (omega (arith, at.at.end, at.at.begin, above, below)) (omega (arith, at.at.begin, above)) in
          (by.begin ∙ sym at.at.begin, by.end ∙ sym at.at.end);
      few_heads = omega (arith, is.names);
      each_few = λ i h. few_nodes p i is (omega (arith, h));
      apart = λ k j low high above below own.
          let at = (node_at p k (omega (arith, low)) high) in
          let place : ℕ = j - start_of p at.option in
          let place_in : place < length (items_of p at.option) = omega (arith, at.at.end, at.at.begin, above, below) in
          let by = node_by p j at.option place at.at.option_in place_in (omega (arith, at.at.begin, above)) in
          let e = one_place (items_of p at.option) place at.place (option_distinct p at.option is at.at.option_in) place_in at.at.place_in (sym by.item ∙ own ∙ at.at.item) in
          omega (arith, by.node, at.at.node, e, at.at.begin);
    }

-- a node has the colour that its option gives its item
pub node_colour : (p : Problem) (k o j : ℕ) → IsProblem p → IsNodeAt p k o j → colour_at (table p) k ≡ colour_of p o (column_of (table p) k)
node_colour p k o j is at =
    let long = colours_long p o is in
    let place : j < length (colours_of p o) = omega (arith, long, at.place_in) in
    let inside : o < length p.colours = omega (arith, colours_many p is, at.option_in) in
    colour_node p k is (omega (arith, at.low, at.node)) (omega (arith, at.high, at.node, at.place_in))
    ∙ ap (λ n. get_or (concat p.colours) (n - base_of p) 0) at.node
    ∙ colour_at_place (base_of p) p.options p.colours o j is.each_coloured inside place
    ∙ sym (colour_at_option p o j is at.option_in place)
    ∙ ap (colour_of p o) (sym at.item)

-- ---- the columns of a layout

-- a part of what stands at each node is the list that it was made from
listed : (f : Place → ℕ) (g : ℕ → Place) (xs : List ℕ) (start : ℕ) → ((k : ℕ) → f (g (start + k)) ≡ get_or xs k 0) → map f (map g (range_with_len start (length xs))) ≡ xs
listed f g [] start here = refl
listed f g (x ∷ xs) start here =
    let first : f (g start) ≡ x = ap (λ k. f (g k)) (omega arith) ∙ here 0 in
    rw first (ap (λ ys. x ∷ ys) (listed f g xs (start + 1) (λ k. ap (λ n. f (g n)) (omega arith) ∙ here (suc k))))

-- columns by what stands at each node
abbrev pub columns_by : ℕ → ℕ → List ℕ → List ℕ → List Place → Columns
columns_by heads tails option first places = record { heads = heads; tails = tails; column = map (λ p. p.item) places; colour = map (λ p. p.colour) places; option = option; first = first; places = places }

pub same_table : (p : Problem) (heads tails : ℕ) (items colours option first : List ℕ) (places : List Place) → IsProblem p → heads ≡ heads_of p → tails ≡ tails_of p → items ≡ column_list p → colours ≡ colour_list p → option ≡ option_list p → first ≡ first_list p → places ≡ map (place_by items colours option first) (range_with_len 0 (length items)) → columns_by heads tails option first places ≡ table p
unfolding place_list
same_table p heads tails items colours option first places is a b c d e f g =
    let by : ℕ → Place = place_by (column_list p) (colour_list p) (option_list p) (first_list p) in
    let all : places ≡ place_list p =
    g ∙ ap (λ xs. map (place_by xs colours option first) (range_with_len 0 (length xs))) c
    ∙ ap (λ xs. map (place_by (column_list p) xs option first) (range_with_len 0 (length (column_list p)))) d
    ∙ ap (λ xs. map (place_by (column_list p) (colour_list p) xs first) (range_with_len 0 (length (column_list p)))) e
    ∙ ap (λ xs. map (place_by (column_list p) (colour_list p) (option_list p) xs) (range_with_len 0 (length (column_list p)))) f in
    let size : length (column_list p) ≡ length (colour_list p) = length-column_list p ∙ sym (length-colour_list p is) in
    let item : map (λ (place : Place). place.item) (place_list p) ≡ column_list p = listed (λ (place : Place). place.item) by (column_list p) 0 (λ k. ap (λ n. get_or (column_list p) n 0) (omega arith)) in
    let colour : map (λ (place : Place). place.colour) (place_list p) ≡ colour_list p =
    ap (λ n. map (λ (place : Place). place.colour) (map by (range_with_len 0 n))) size
    ∙ listed (λ (place : Place). place.colour) by (colour_list p) 0 (λ k. ap (λ n. get_or (colour_list p) n 0) (omega arith)) in
    let C : List ℕ → List ℕ → Columns = λ column colour. record { heads = heads_of p; tails = tails_of p; column = column; colour = colour; option = option_list p; first = first_list p; places = place_list p } in
    ap (λ n. columns_by n tails option first places) a
    ∙ ap (λ n. columns_by (heads_of p) n option first places) b
    ∙ ap (λ xs. columns_by (heads_of p) (tails_of p) xs first places) e
    ∙ ap (λ xs. columns_by (heads_of p) (tails_of p) (option_list p) xs places) f
    ∙ ap (columns_by (heads_of p) (tails_of p) (option_list p) (first_list p)) all
    ∙ ap (λ xs. C xs (map (λ (place : Place). place.colour) (place_list p))) item
    ∙ ap (C (column_list p)) colour
