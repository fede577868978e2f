-- Which nodes of the chosen options cover their items: where an item has its colour already, a later node with a colour covers nothing (TAOCP 7.2.2.1).
use Rattle.std.specs.Prelude.{◌≡◌, ℕ, ◌<◌, ◌≤◌, ◌+◌, ◌%◌, List, [], ◌∷◌, ◌++◌, length, take, drop, slice_index_or, slice_set, Bool, not, ◌==◌, ◌&&◌, if◌then◌else◌}
use Rattle.std.specs.List.{All}
use Rattle.dancing_links.specs.declared.link.Link.{Link}
use Rattle.dancing_links.specs.Columns.{Columns, column_of, colour_at, IsSpelled}
use Rattle.dancing_links.specs.Keys.{IsKeyed}
use Rattle.dancing_links.specs.Covering.{hides, covered_by, outs, IsOpen}
use Rattle.dancing_links.specs.Linking.{unlinks}
use Rattle.dancing_links.specs.Trail.{count_in}

-- How many nodes gave each item a colour. The numbers go round at 2 ^ 32, as the machine's do, so that no step needs a test.
pub record IsCommits (c : Columns) (commits : List ℕ) : Type 0 where
  pub columns : length commits + 1 ≡ c.heads
  pub small : All (λ n. n < 4294967296) commits

-- those numbers with so much more for a node's item
unfoldable pub with_commits : Columns → List ℕ → ℕ → ℕ → List ℕ
with_commits c commits k more = slice_set commits (column_of c k) ((slice_index_or commits (column_of c k) 0 + more) % 4294967296)

-- those numbers once a node gave its item its colour, if it has one
unfoldable pub commit : Columns → List ℕ → ℕ → List ℕ
commit c commits k = if colour_at c k == 0 then commits else with_commits c commits k 1

-- and once that is taken back
unfoldable pub uncommit : Columns → List ℕ → ℕ → List ℕ
uncommit c commits k = if colour_at c k == 0 then commits else with_commits c commits k 4294967295

-- nodes that give their items their colours, one after the other
abbrev pub committed : Columns → List ℕ → List ℕ → List ℕ
committed c commits [] = commits
committed c commits (k ∷ ks) = committed c (commit c commits k) ks

-- whether a node has a colour, and its item got one before
abbrev pub is_repeated : Columns → List ℕ → ℕ → Bool
is_repeated c commits k = not (colour_at c k == 0) && not (slice_index_or commits (column_of c k) 0 == 0)

-- of some nodes in turn those that cover their items
abbrev pub covering : Columns → List ℕ → List ℕ → List ℕ
covering c commits [] = []
covering c commits (k ∷ ks) = if is_repeated c commits k then covering c (commit c commits k) ks else k ∷ covering c (commit c commits k) ks

-- a node was the first to give its item its colour, if it has one
pub record IsFirst (c : Columns) (front now : List ℕ) (k : ℕ) : Type 0 where
  pub kept : IsCommits c front
  pub none : slice_index_or front (column_of c k) 0 ≡ 0
  pub commits : now ≡ commit c front k

-- the links before a node covered its item, of which a piece of the trail says what that hid
abbrev pub IsBefore : Columns → List Link → List ℕ → ℕ → List ℕ → List Link → Type 0
IsBefore c old piece k out before = IsSpelled c out before × IsOpen c out (column_of c k) × (old ≡ unlinks before (hides c out k)) × (piece ≡ hides c out k)

-- another node of its column covers the item in its place
pub record Recovers (c : Columns) (front : List ℕ) (old : List Link) (was kept piece : List ℕ) (k next : ℕ) (new : List Link) (now trail held : List ℕ) : Type 0 where
  pub links : (out : List ℕ) (before : List Link) → IsBefore c old piece k out before → new ≡ unlinks before (hides c out next)
  pub keys : (out : List ℕ) (before : List Link) → IsBefore c old piece k out before → IsKeyed c (outs (covered_by c out k) out) was → IsKeyed c (outs (covered_by c out next) out) now
  pub trail_is : (out : List ℕ) (before : List Link) → IsBefore c old piece k out before → trail ≡ kept ++ hides c out next
  pub commits : held ≡ commit c front next

-- That is so where the node was the first to cover the item. The trail has what it hid from a place on.
abbrev pub Recommits : Columns → List ℕ → List Link → List ℕ → List ℕ → ℕ → ℕ → ℕ → List Link → List ℕ → List ℕ → List ℕ → Type 0
Recommits c commits old was trail start k next new now after held =
    (front : List ℕ) → IsFirst c front commits k → Recovers c front old was (take start trail) (drop start trail) k next new now after held

-- and the trail has room for it
pub record HasRoomNext (c : Columns) (old : List Link) (commits kept piece : List ℕ) (k room : ℕ) : Type 0 where
  pub out : List ℕ
  pub before : List Link
  pub front : List ℕ
  pub first : IsFirst c front commits k
  pub is_before : IsBefore c old piece k out before
  pub enough : length kept + count_in c out ≤ room
