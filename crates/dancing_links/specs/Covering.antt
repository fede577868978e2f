-- Covering and uncovering of items: which nodes leave their columns, and in which order (TAOCP 7.2.2.1, also where items get colours).
use Rattle.std.specs.Prelude.{map, ◌≡◌, ℕ, zero, suc, ◌<◌, ◌≤◌, ◌+◌, ◌-◌, List, [], ◌∷◌, Bool, false, not, ◌==◌, ◌&&◌, if◌then◌else◌}
use Rattle.std.specs.List.{range_with_len, flat_map}
use Rattle.dancing_links.specs.declared.link.Link.{Link}
use Rattle.dancing_links.specs.Linking.{unlinks}
use Rattle.dancing_links.specs.Columns.{among, Columns, column_of, colour_at, begin_of, end_of, node_after, column_from, IsSpelled}

-- so many nodes of a row in turn, from one on
abbrev pub in_turn : ℕ → ℕ → ℕ → ℕ → List ℕ
in_turn begin end node zero = []
in_turn begin end node (suc count) = node ∷ in_turn begin end (node_after begin end node) count

-- the other nodes of a node's option, from the next one on
unfoldable pub others : Columns → ℕ → List ℕ
others c node = in_turn (begin_of c node) (end_of c node) (node_after (begin_of c node) (end_of c node) node) (end_of c node - (begin_of c node + 1))

-- whether a node has the colour that its item gets; to get none is the colour 0, which no node agrees with
abbrev pub has_colour : Columns → ℕ → ℕ → Bool
has_colour c colour node = not (colour == 0) && (colour_at c node == colour)

-- what is hidden at a node whose item gets a colour: the other nodes of its option, unless it has that colour
unfoldable pub hidden_at : Columns → ℕ → ℕ → List ℕ
hidden_at c colour node = if has_colour c colour node then [] else others c node

-- what is hidden in a column whose item gets a colour, from a node on
unfoldable pub hidden_from : Columns → List ℕ → ℕ → ℕ → ℕ → List ℕ
hidden_from c out i colour start = flat_map (hidden_at c colour) (column_from c out i start)

-- what covering an item in a colour hides
abbrev pub hidden : Columns → List ℕ → ℕ → ℕ → List ℕ
hidden c out i colour = hidden_from c ((c.heads + i) ∷ out) i colour c.heads

-- what is out then: the item's own node, which marks it as covered, and all that is hidden
unfoldable pub covered : Columns → List ℕ → ℕ → ℕ → List ℕ
covered c out i colour = (c.heads + i) ∷ hidden c out i colour

-- what a node hides that covers its item: the item gets the node's colour
abbrev pub hides : Columns → List ℕ → ℕ → List ℕ
hides c out node = hidden c out (column_of c node) (colour_at c node)

-- what is out then
abbrev pub covered_by : Columns → List ℕ → ℕ → List ℕ
covered_by c out node = covered c out (column_of c node) (colour_at c node)

-- what is out once the nodes of a list are taken out as well
abbrev pub outs : List ℕ → List ℕ → List ℕ
outs [] out = out
outs (x ∷ xs) out = outs xs (x ∷ out)

-- the options of the nodes that are in a column are in as a whole
abbrev pub AreWhole : Columns → List ℕ → ℕ → Type 0
AreWhole c out i = (k j : ℕ) → c.heads + c.heads ≤ k + 1 → k < c.tails → column_of c k ≡ i → among out k ≡ false → begin_of c k ≤ j → j < end_of c k → among out j ≡ false

-- an item that can be covered
pub record IsOpen (c : Columns) (out : List ℕ) (i : ℕ) : Type 0 where
  pub item : i + 1 < c.heads
  pub here : among out (c.heads + i) ≡ false
  pub whole : AreWhole c out i

-- covering an item in a colour takes just what it hides out of the columns, whatever was out
abbrev pub Covers : Columns → List Link → ℕ → ℕ → List Link → Type 0
Covers c old i colour new = (out : List ℕ) → IsSpelled c out old → IsOpen c out i → new ≡ unlinks old (hidden c out i colour)

-- the items of a range of nodes
unfoldable pub items_from : Columns → ℕ → ℕ → List ℕ
items_from c begin end = map (column_of c) (range_with_len begin (end - begin))

-- the nodes of a node's option in turn, from that node on
abbrev pub nodes_by : Columns → ℕ → List ℕ
nodes_by c node = node ∷ others c node

-- what is out, once nodes cover their items one after the other
abbrev pub outs_all : Columns → List ℕ → List ℕ → List ℕ
outs_all c out [] = out
outs_all c out (k ∷ ks) = outs_all c (outs (covered_by c out k) out) ks

-- the links, once nodes cover their items one after the other
abbrev pub links_all : Columns → List ℕ → List Link → List ℕ → List Link
links_all c out m [] = m
links_all c out m (k ∷ ks) = links_all c (outs (covered_by c out k) out) (unlinks m (hides c out k)) ks

-- nodes that can cover their items one after the other
abbrev pub AreOpen : Columns → List ℕ → List ℕ → Type 0
AreOpen c out [] = Unit {0}
AreOpen c out (k ∷ ks) = IsOpen c out (column_of c k) × AreOpen c (outs (covered_by c out k) out) ks

-- to cover items by nodes one after the other takes out just what the history says, whatever was out
abbrev pub CoversAll : Columns → List Link → List ℕ → List Link → Type 0
CoversAll c old ks new = (out : List ℕ) → IsSpelled c out old → AreOpen c out ks → new ≡ links_all c out old ks
