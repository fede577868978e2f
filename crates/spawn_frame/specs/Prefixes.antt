-- How prefixes are kept: a guest has all of its own, an own child the last option of it, and its parent.
use Rattle.std.specs.Prelude.{◌≡◌, ℕ, suc, ◌<◌, if◌then◌else◌, ◌&&◌, ◌==◌, List, [], ◌∷◌, ◌++◌, map, Option, Some, None, slice_get}
use Rattle.std.specs.List.{AllByRecursion}
use Rattle.spawn_frame.specs.Names.{same_name}
use Rattle.spawn_frame.specs.declared.child.Child.{Child}
use Rattle.spawn_frame.specs.declared.guest.Guest.{Guest}
use Rattle.spawn_frame.specs.declared.prefix_part.PrefixPart.{PrefixPart}
use Rattle.spawn_frame.specs.declared.prefix_part.PrefixPart.TheVariants.{Longer, Whole}
use Rattle.spawn_frame.specs.declared.site.ChildName.{ChildName}
use Rattle.spawn_frame.specs.declared.unit.Unit.{Unit as WorkUnit}
use Rattle.spawn_frame.specs.declared.unit.Unit.TheVariants.{Guest as OfGuest, Own}

-- what an own child holds of its prefix: its parent and its option, and the whole path for proofs alone
pub record Link : Type 0 where
  pub parent : Option WorkUnit
  pub option : ℕ
  pub path : List ℕ

-- what a guest holds of its prefix: all of it, and the path for proofs alone
pub record Origin : Type 0 where
  pub name : ChildName
  pub attempt : ℕ
  pub prefix : List ℕ
  pub path : List ℕ

-- an own child, as far as its prefix goes
abbrev pub link_of : Child → Link
link_of c = record { parent = c.parent; option = c.option; path = c.work.path.options }

-- a guest, as far as its prefix goes
abbrev pub origin_of : Guest → Origin
origin_of g = record { name = g.name; attempt = g.work.attempt; prefix = g.prefix; path = g.work.path.options }

-- the path of an own child, where it is there
abbrev pub link_path : Option Link → List ℕ
link_path None = []
link_path (Some link) = link.path

-- the path of the guest of this name and attempt
abbrev pub origin_path : List Origin → ChildName → ℕ → List ℕ
origin_path [] name attempt = []
origin_path (o ∷ os) name attempt = if same_name o.name name && o.attempt == attempt then o.path else origin_path os name attempt

-- the path of a unit, empty where it isn't there
abbrev pub path_among : List Link → List Origin → WorkUnit → List ℕ
path_among links origins (Own serial) = link_path (slice_get links serial)
path_among links origins (OfGuest name attempt) = origin_path origins name attempt

-- the same among own children and guests
abbrev pub path_of : List Child → List Guest → WorkUnit → List ℕ
path_of own guests unit = path_among (map link_of own) (map origin_of guests) unit

-- The path of a child is its parent's with its option behind it, and an own parent has a smaller serial; the root's is empty. A
-- guest has all of its path.
pub record AreGrown (links : List Link) (origins : List Origin) : Type 0 where
  pub root : (k : ℕ) (link : Link) → slice_get links k ≡ Some link → link.parent ≡ None → link.path ≡ []
  pub grown : (k : ℕ) (link : Link) (unit : WorkUnit) → slice_get links k ≡ Some link → link.parent ≡ Some unit → link.path ≡ path_among links origins unit ++ link.option ∷ []
  pub lower : (k j : ℕ) (link : Link) → slice_get links k ≡ Some link → link.parent ≡ Some (Own j) → j < k
  pub whole : AllByRecursion (λ o. o.prefix ≡ o.path) origins

-- how many units may stand above one: none above a guest, and above an own child those of smaller serials
abbrev pub height : WorkUnit → ℕ
height (Own serial) = suc serial
height (OfGuest name attempt) = 0

-- A unit's path is made of this: it is the whole, or the path of a unit further up, with an option behind it.
pub record IsLonger (links : List Link) (origins : List Origin) (unit parent : WorkUnit) (option : ℕ) : Type 0 where
  pub path : path_among links origins unit ≡ path_among links origins parent ++ option ∷ []
  pub above : height parent < height unit

-- the same of what is told
abbrev pub IsPart : List Link → List Origin → WorkUnit → PrefixPart → Type 0
IsPart links origins unit (Whole options) = path_among links origins unit ≡ options.now
IsPart links origins unit (Longer parent option) = IsLonger links origins unit parent option

-- what is told of an own child with this parent and this option
abbrev pub IsAbove : Option WorkUnit → ℕ → PrefixPart → Type 0
IsAbove parent option (Whole options) = (parent ≡ None) × (options.now ≡ [])
IsAbove parent option (Longer unit last) = (parent ≡ Some unit) × (last ≡ option)

-- the last of some numbers; 0 where there is none
abbrev pub last_of : List ℕ → ℕ
last_of [] = 0
last_of (x ∷ []) = x
last_of (x ∷ y ∷ ys) = last_of (y ∷ ys)
