-- The trail: the nodes that left their columns, in the order in which they did. So they are put back without a walk.
use Rattle.std.specs.Prelude.{◌≡◌, ℕ, ◌+◌, ◌-◌, ◌≤◌, List, [], ◌∷◌, ◌++◌, length, not, filter}
use Rattle.std.specs.List.{range_with_len}
use Rattle.dancing_links.specs.declared.link.Link.{Link}
use Rattle.dancing_links.specs.Columns.{among, Columns, IsSpelled}
use Rattle.dancing_links.specs.Covering.{hidden, hides, covered_by, outs, outs_all, links_all, IsOpen, AreOpen}
use Rattle.dancing_links.specs.Keys.{IsKeyed}

-- what nodes hide that cover their items one after the other
abbrev pub hidden_all : Columns → List ℕ → List ℕ → List ℕ
hidden_all c out [] = []
hidden_all c out (k ∷ ks) = hides c out k ++ hidden_all c (outs (covered_by c out k) out) ks

-- covering an item in a colour puts just what it hides on the trail, whatever was out
abbrev pub Trails : Columns → List Link → ℕ → ℕ → List ℕ → List ℕ → Type 0
Trails c links i colour old new = (out : List ℕ) → IsSpelled c out links → IsOpen c out i → new ≡ old ++ hidden c out i colour

-- the same for nodes that cover their items one after the other
abbrev pub TrailsAll : Columns → List Link → List ℕ → List ℕ → List ℕ → Type 0
TrailsAll c links ks old new = (out : List ℕ) → IsSpelled c out links → AreOpen c out ks → new ≡ old ++ hidden_all c out ks

-- how long the trail is then
abbrev pub IsMiddle : Columns → List Link → List ℕ → List ℕ → ℕ → Type 0
IsMiddle c links ks old middle = (out : List ℕ) → IsSpelled c out links → AreOpen c out ks → middle ≡ length (old ++ hidden_all c out ks)

-- how many nodes are in
unfoldable pub count_in : Columns → List ℕ → ℕ
count_in c out = length (filter (λ k. not (among out k)) (range_with_len c.heads (c.tails - c.heads)))

-- the trail has room for all nodes that are in, where an item can be covered
pub record HasRoom (c : Columns) (links : List Link) (i : ℕ) (trail : List ℕ) (room : ℕ) : Type 0 where
  pub out : List ℕ
  pub spelled : IsSpelled c out links
  pub can : IsOpen c out i
  pub enough : length trail + count_in c out ≤ room

-- the same where nodes can cover their items one after the other
pub record HasRoomAll (c : Columns) (links : List Link) (ks trail : List ℕ) (room : ℕ) : Type 0 where
  pub out : List ℕ
  pub spelled : IsSpelled c out links
  pub can : AreOpen c out ks
  pub enough : length trail + count_in c out ≤ room

-- where the trail has just what some nodes hid, all links are as they were before
abbrev pub UncoversAll : Columns → List Link → List ℕ → List ℕ → List Link → Type 0
UncoversAll c old ks trail new = (out : List ℕ) (before : List Link) → IsSpelled c out before → AreOpen c out ks → old ≡ links_all c out before ks → trail ≡ hidden_all c out ks → new ≡ before

-- and the keys
abbrev pub KeysUncoveredAll : Columns → List Link → List ℕ → List ℕ → List ℕ → List ℕ → Type 0
KeysUncoveredAll c links ks trail old new = (out : List ℕ) (before : List Link) → IsSpelled c out before → AreOpen c out ks → links ≡ links_all c out before ks → trail ≡ hidden_all c out ks
    → IsKeyed c (outs_all c out ks) old → IsKeyed c out new
