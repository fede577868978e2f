-- What covering and uncovering change, as one: the links, the keys, how often each item got a colour, and the trail.
use Rattle.std.specs.Prelude.{◌≡◌, ℕ, ◌+◌, ◌%◌, List, drop, length, slice_index_or, slice_set, take}
use Rattle.dancing_links.specs.declared.link.Link.{Link}
use Rattle.dancing_links.specs.Columns.{Columns, IsLinked}
use Rattle.dancing_links.specs.Committing.{IsCommits, committed, covering}
use Rattle.dancing_links.specs.Covering.{Covers, CoversAll}
use Rattle.dancing_links.specs.Keys.{more, turned, KeysCovered, KeysCoveredAll}
use Rattle.dancing_links.specs.Linking.{relinks}
use Rattle.dancing_links.specs.Trail.{HasRoomAll, KeysUncoveredAll, Trails, TrailsAll, UncoversAll}

-- the four of them, and for how many nodes the trail has room
pub record Board : Type 0 where
  pub links : List Link
  pub keys : List ℕ
  pub commits : List ℕ
  pub trail : List ℕ
  pub room : ℕ

-- the board of these
abbrev pub board : List Link → List ℕ → List ℕ → List ℕ → ℕ → Board
board links keys commits trail room = record { links = links; keys = keys; commits = commits; trail = trail; room = room }

-- they fit the columns
pub record IsLawful (c : Columns) (b : Board) : Type 0 where
  pub linked : IsLinked c b.links
  pub keys : length b.keys + 1 ≡ c.heads
  pub commits : IsCommits c b.commits

-- the trail has room for all that is hidden while nodes cover their items one after the other
abbrev pub HasRoomFor : Columns → List ℕ → Board → Type 0
HasRoomFor c nodes b = HasRoomAll c b.links (covering c b.commits nodes) b.trail b.room

-- an item is covered in a colour
pub record CoversItem (c : Columns) (i colour : ℕ) (old new : Board) : Type 0 where
  pub links : Covers c old.links i colour new.links
  pub keys : KeysCovered c old.links i colour old.keys new.keys
  pub count : length new.keys ≡ length old.keys
  pub commits : new.commits ≡ old.commits
  pub trail : Trails c old.links i colour old.trail new.trail
  pub room : new.room ≡ old.room

-- nodes cover their items one after the other, but for those whose items have their colours already
pub record CoversNodes (c : Columns) (nodes : List ℕ) (old new : Board) : Type 0 where
  pub links : CoversAll c old.links (covering c old.commits nodes) new.links
  pub keys : KeysCoveredAll c old.links (covering c old.commits nodes) old.keys new.keys
  pub count : length new.keys ≡ length old.keys
  pub commits : new.commits ≡ committed c old.commits nodes
  pub trail : TrailsAll c old.links (covering c old.commits nodes) old.trail new.trail
  pub room : new.room ≡ old.room

-- what is on the trail from a place on is put back
pub record PutsBack (c : Columns) (start : ℕ) (old new : Board) : Type 0 where
  pub links : new.links ≡ relinks old.links (drop start old.trail)
  pub keys : new.keys ≡ more c old.keys (drop start old.trail)
  pub count : length new.keys ≡ length old.keys
  pub commits : new.commits ≡ old.commits
  pub trail : new.trail ≡ take start old.trail
  pub room : new.room ≡ old.room

-- the items that nodes covered lose their marks; no link changes
pub record Unmarks (c : Columns) (nodes : List ℕ) (old new : Board) : Type 0 where
  pub links : new.links ≡ old.links
  pub keys : new.keys ≡ turned c old.keys (covering c new.commits nodes)
  pub count : length new.keys ≡ length old.keys
  pub trail : new.trail ≡ old.trail
  pub room : new.room ≡ old.room

-- nodes that covered their items one after the other are taken back, where the trail has what that hid from a place on
pub record UncoversNodes (c : Columns) (nodes : List ℕ) (start : ℕ) (old new : Board) : Type 0 where
  pub links : UncoversAll c old.links (covering c new.commits nodes) (drop start old.trail) new.links
  pub keys : KeysUncoveredAll c old.links (covering c new.commits nodes) (drop start old.trail) old.keys new.keys
  pub count : length new.keys ≡ length old.keys
  pub trail : new.trail ≡ take start old.trail
  pub room : new.room ≡ old.room

-- once more an item got its colour
abbrev pub counted : Board → ℕ → Board
counted b i = board b.links b.keys (slice_set b.commits i ((slice_index_or b.commits i 0 + 1) % 4294967296)) b.trail b.room
