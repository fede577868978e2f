-- Keys, kept beside the links, one for each item: by the least one the branch item is found (TAOCP 7.2.2.1, branching on an item with fewest options).
use Rattle.std.specs.Prelude.{◌≡◌, ℕ, ◌<◌, ◌≤◌, Option, MatchOption, ◌+◌, ◌*◌, ◌%◌, List, [], ◌∷◌, length, slice_index_or, slice_set, Bool, true, false, nat_lt, if◌then◌else◌}
use Rattle.dancing_links.specs.declared.link.Link.{Link}
use Rattle.dancing_links.specs.Columns.{among, Columns, column_of, column_from, IsSpelled}
use Rattle.dancing_links.specs.Covering.{covered, outs, IsOpen, outs_all, AreOpen}

-- The keys once a node leaves its column, and once it is back. They go round at 2 ^ 32, as the machine's do, so that no step needs a test.
unfoldable pub with_less : Columns → List ℕ → ℕ → List ℕ
with_less c keys x = slice_set keys (column_of c x) ((slice_index_or keys (column_of c x) 0 + 4294901760) % 4294967296)

-- the keys with one node more at the item of a node
unfoldable pub with_more : Columns → List ℕ → ℕ → List ℕ
with_more c keys x = slice_set keys (column_of c x) ((slice_index_or keys (column_of c x) 0 + 65536) % 4294967296)

-- nodes that leave, one after the other
abbrev pub fewer : Columns → List ℕ → List ℕ → List ℕ
fewer c keys [] = keys
fewer c keys (x ∷ xs) = fewer c (with_less c keys x) xs

-- nodes that come back, the last one first
abbrev pub more : Columns → List ℕ → List ℕ → List ℕ
more c keys [] = keys
more c keys (x ∷ xs) = with_more c (more c keys xs) x

-- the keys once the mark of a covered item is put on one, or taken off
unfoldable pub with_mark : List ℕ → ℕ → List ℕ
with_mark keys i = slice_set keys i ((slice_index_or keys i 0 + 2147483648) % 4294967296)

-- the keys once the marks of the items of some nodes are turned, the last one first
abbrev pub turned : Columns → List ℕ → List ℕ → List ℕ
turned c keys [] = keys
turned c keys (k ∷ ks) = with_mark (turned c keys ks) (column_of c k)

-- the mark of a covered item
abbrev pub mark_of : Bool → ℕ
mark_of true = 2147483648
mark_of false = 0

-- the key of an item: from low to high the item, how many nodes of its column are in, and the mark of a covered one
abbrev pub key_of : Columns → List ℕ → ℕ → ℕ
key_of c out i = i + 65536 * length (column_from c out i c.heads) + mark_of (among out (c.heads + i))

-- the key of each item is that, where an item is covered whose node is out
pub record IsKeyed (c : Columns) (out keys : List ℕ) : Type 0 where
  pub columns : length keys + 1 ≡ c.heads
  pub key : (i : ℕ) → i + 1 < c.heads → slice_index_or keys i 0 ≡ key_of c out i

-- the least of a number and some keys
abbrev pub least_from : ℕ → List ℕ → ℕ
least_from least [] = least
least_from least (k ∷ ks) = least_from (if nat_lt k least then k else least) ks

-- covering keeps the keys true, whatever was out
abbrev pub KeysCovered : Columns → List Link → ℕ → ℕ → List ℕ → List ℕ → Type 0
KeysCovered c links i colour old new = (out : List ℕ) → IsSpelled c out links → IsOpen c out i → IsKeyed c out old → IsKeyed c (outs (covered c out i colour) out) new

-- the same for nodes that cover their items one after the other
abbrev pub KeysCoveredAll : Columns → List Link → List ℕ → List ℕ → List ℕ → Type 0
KeysCoveredAll c links ks old new = (out : List ℕ) → IsSpelled c out links → AreOpen c out ks → IsKeyed c out old → IsKeyed c (outs_all c out ks) new

-- the keys while they are made: the nodes from one on are not counted yet
pub record IsCounting (c : Columns) (node : ℕ) (keys : List ℕ) : Type 0 where
  pub columns : length keys + 1 ≡ c.heads
  pub key : (i : ℕ) → i + 1 < c.heads → slice_index_or keys i 0 + 65536 * length (column_from c [] i node) ≡ i + 65536 * length (column_from c [] i c.heads)

-- the items from one on, below another one, whose keys all have the mark
abbrev pub AreMarked : List ℕ → ℕ → ℕ → Type 0
AreMarked keys start end = (k : ℕ) → start ≤ k → k < end → 2147483648 ≤ slice_index_or keys k 0

-- the first item from one on, below a bound, whose key has no mark; none where each has it
abbrev pub IsFirstUnmarked : List ℕ → ℕ → ℕ → Option ℕ → Type 0
IsFirstUnmarked keys start bound item = MatchOption item (AreMarked keys start bound) (λ i. (start ≤ i) × (i < bound) × (slice_index_or keys i 0 < 2147483648) × AreMarked keys start i)
