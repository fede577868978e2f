-- Columns of linked nodes: what the links are once some nodes are out, and what is true of a table of columns (TAOCP 7.2.2.1).
use Rattle.std.specs.Prelude.{◌≡◌, ℕ, ◌<◌, ◌≤◌, ◌+◌, ◌-◌, List, [], length, map, slice_index_or, Bool, true, false, not, ◌==◌, ◌&&◌, filter, if◌then◌else◌}
use Rattle.std.specs.List.{list_any, range_with_len, All}
use Rattle.dancing_links.specs.declared.link.Link.{Link}
use Rattle.dancing_links.specs.declared.place.Place.{Place}
use Rattle.dancing_links.specs.Linking.{up_of, down_of}

-- whether a number is among those of a list
abbrev pub among : List ℕ → ℕ → Bool
among xs x = list_any (λ y. y == x) xs

-- How many heads there are, the first tail, the column, the colour (0 for none) and the option of each node, the first node of each option, and what stands at each
-- node. The heads come first and the tails last: a column holds its head, then nodes by rising numbers, then its tail. The last column is that of the items, with a
-- node for each.
pub record Columns : Type 0 where
  pub heads : ℕ
  pub tails : ℕ
  pub column : List ℕ
  pub colour : List ℕ
  pub option : List ℕ
  pub first : List ℕ
  pub places : List Place

-- the columns of so many heads, of the nodes up to the first tail, what stands at each node, their options, and the first node of each option
abbrev pub columns_by : ℕ → ℕ → List Place → List ℕ → List ℕ → Columns
columns_by heads tails places options first = record {
  heads = heads;
  tails = tails;
  column = map (λ p. p.item) places;
  colour = map (λ p. p.colour) places;
  option = options;
  first = first;
  places = places;
}

-- the column of a node
abbrev pub column_of : Columns → ℕ → ℕ
column_of c k = slice_index_or c.column k 0

-- the colour of a node, 0 for none
abbrev pub colour_at : Columns → ℕ → ℕ
colour_at c k = slice_index_or c.colour k 0

-- Two nodes of one column that are in, with none between them that is in.
pub record IsNext (c : Columns) (out : List ℕ) (x d : ℕ) : Type 0 where
  pub below : x < d
  pub low : c.heads ≤ d
  pub high : x < c.tails
  pub inside : d < length c.column
  pub column : column_of c d ≡ column_of c x
  pub in_up : among out x ≡ false
  pub in_down : among out d ≡ false
  pub nearest : (y : ℕ) → x < y → y < d → column_of c y ≡ column_of c x → among out y ≡ true

-- The links of each node that is in, in the column of an item, lead to its neighbours that are in, where the nodes of a list are out; the heads and tails are always in.
-- The list has the nodes of covered items, too: these are marks, and no link changes by them.
pub record IsSpelled (c : Columns) (out : List ℕ) (m : List Link) : Type 0 where
  pub count : length m ≡ length c.column
  pub order : c.heads ≤ c.tails
  pub ends : c.tails ≤ length c.column
  pub heads_in : (x : ℕ) → x < c.heads → among out x ≡ false
  pub tails_in : (x : ℕ) → c.tails ≤ x → among out x ≡ false
  pub down : (x : ℕ) → x < c.tails → column_of c x + 1 < c.heads → among out x ≡ false → IsNext c out x (down_of m x)
  pub up : (x : ℕ) → c.heads ≤ x → x < length c.column → column_of c x + 1 < c.heads → among out x ≡ false → IsNext c out (up_of m x) x

-- the option of a node
abbrev pub option_of : Columns → ℕ → ℕ
option_of c k = slice_index_or c.option k 0

-- where the option of a node begins
abbrev pub begin_of : Columns → ℕ → ℕ
begin_of c k = slice_index_or c.first (option_of c k) 0

-- the number after its last node
abbrev pub end_of : Columns → ℕ → ℕ
end_of c k = slice_index_or c.first (option_of c k + 1) 0

-- the node after one in a row; behind the last comes the first
abbrev pub node_after : ℕ → ℕ → ℕ → ℕ
node_after begin end node = if node + 1 == end then begin else node + 1

-- what stands at a node
abbrev pub place_at : Columns → ℕ → Place
place_at c k = slice_index_or c.places k (record { right = 0; item = 0; colour = 0 })

-- the nodes of a column that are in, from one on
unfoldable pub column_from : Columns → List ℕ → ℕ → ℕ → List ℕ
column_from c out i start = filter (λ k. (column_of c k == i) && not (among out k)) (range_with_len start (c.tails - start))

-- no link leads out of the table, and each leads the right way, also those of nodes that are out
pub record IsLinkedAt (heads tails count k up down : ℕ) : Type 0 where
  pub up_in : up < count
  pub down_in : down < count
  pub rises : k < tails → (k < down) × (heads ≤ down)
  pub falls : heads ≤ k → (up < k) × (up < tails)

-- each link does so
abbrev pub IsLinked : Columns → List Link → Type 0
IsLinked c m = (length m ≡ length c.column) × ((k : ℕ) → k < length m → IsLinkedAt c.heads c.tails (length m) k (up_of m k) (down_of m k))

-- What is true of a table: each node belongs to a column, and those of an option stand in a row, in columns of different items.
pub record IsTable (c : Columns) : Type 0 where
  pub small : length c.column < 4294967296
  pub ends : c.tails + c.heads ≤ length c.column
  pub some : 0 < c.heads
  pub order : c.heads + c.heads ≤ c.tails + 1
  pub option : length c.option ≡ length c.column
  pub each_column : All (λ i. i < c.heads) c.column
  pub place : length c.places ≡ length c.column
  pub item : (k : ℕ) → k < length c.column → (place_at c k).item ≡ column_of c k
  pub colour : (k : ℕ) → k < length c.column → (place_at c k).colour ≡ colour_at c k
  pub right : (k : ℕ) → c.heads + c.heads ≤ k + 1 → k < c.tails → (place_at c k).right ≡ node_after (begin_of c k) (end_of c k) k
  pub alone : (k : ℕ) → c.heads ≤ k → k + 1 < c.heads + c.heads → (place_at c k).right ≡ k
  pub no_row : (k : ℕ) → c.heads ≤ k → k + 1 < c.heads + c.heads → begin_of c k ≡ end_of c k
  pub numbered : (k : ℕ) → c.heads + c.heads ≤ k + 1 → k < c.tails → option_of c k + 1 < length c.first
  pub tail_columns : (k : ℕ) → c.tails ≤ k → k < length c.column → column_of c k + c.tails ≡ k
  pub option_columns : (k : ℕ) → c.heads + c.heads ≤ k + 1 → k < c.tails → column_of c k + 1 < c.heads
  pub head_columns : (k : ℕ) → k < c.heads → column_of c k ≡ k
  pub item_columns : (i : ℕ) → i + 1 < c.heads → column_of c (c.heads + i) + 1 ≡ c.heads
  pub within : (k : ℕ) → c.heads + c.heads ≤ k + 1 → k < c.tails → (begin_of c k ≤ k) × (k < end_of c k) × (c.heads + c.heads ≤ begin_of c k + 1) × (end_of c k ≤ c.tails)
  pub same : (k j : ℕ) → c.heads + c.heads ≤ k + 1 → k < c.tails → begin_of c k ≤ j → j < end_of c k → (begin_of c j ≡ begin_of c k) × (end_of c j ≡ end_of c k)
  pub few_heads : c.heads < 65536
  pub each_few : (i : ℕ) → i + 1 < c.heads → length (column_from c [] i c.heads) < 32768
  pub apart : (k j : ℕ) → c.heads + c.heads ≤ k + 1 → k < c.tails → begin_of c k ≤ j → j < end_of c k → column_of c j ≡ column_of c k → j ≡ k

-- a node of an option
abbrev pub IsOptionNode : Columns → ℕ → Type 0
IsOptionNode c k = (c.heads + c.heads ≤ k + 1) × (k < c.tails)
