-- Columns that are built node by node.
use Rattle.std.specs.Prelude.{◌≡◌, ℕ, ◌<◌, ◌≤◌, ◌+◌, List, [], length, slice_index_or}
use Rattle.dancing_links.specs.declared.link.Link.{Link}
use Rattle.dancing_links.specs.Linking.{up_of, down_of}
use Rattle.dancing_links.specs.Columns.{Columns, column_of, IsNext, IsSpelled}

-- the links of columns from which nothing is out; those that lead nowhere are 0
pub record IsBuilt (c : Columns) (m : List Link) : Type 0 where
  pub spelled : IsSpelled c [] m
  pub items_down : (x : ℕ) → x < c.tails → column_of c x + 1 ≡ c.heads → IsNext c [] x (down_of m x)
  pub items_up : (x : ℕ) → c.heads ≤ x → x < length c.column → column_of c x + 1 ≡ c.heads → IsNext c [] (up_of m x) x
  pub heads_up : (k : ℕ) → k < c.heads → up_of m k ≡ 0
  pub tails_down : (k : ℕ) → c.tails ≤ k → down_of m k ≡ 0

-- the last node of a column among the nodes below a number
pub record IsLast (c : Columns) (below i last : ℕ) : Type 0 where
  pub below_is : last < below
  pub column : column_of c last ≡ i
  pub nearest : (y : ℕ) → last < y → y < below → column_of c y ≡ i → ⊥

-- the links while the columns are built: the nodes below a number are linked, the last of each column upwards alone
pub record IsBuilding (c : Columns) (below : ℕ) (lasts : List ℕ) (m : List Link) : Type 0 where
  pub count : length m ≡ length c.column
  pub columns : length lasts ≡ c.heads
  pub last : (i : ℕ) → i < c.heads → IsLast c below i (slice_index_or lasts i 0)
  pub up : (x : ℕ) → c.heads ≤ x → x < below → IsNext c [] (up_of m x) x
  pub down : (x : ℕ) → x < below → (x ≡ slice_index_or lasts (column_of c x) 0 → ⊥) → IsNext c [] x (down_of m x)
  pub heads_up : (k : ℕ) → k < c.heads → up_of m k ≡ 0
  pub tails_down : (k : ℕ) → c.tails ≤ k → down_of m k ≡ 0
