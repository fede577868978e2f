-- Books merged into one list of what happened at all sites.
use Rattle.std.specs.Prelude.{◌≡◌, ℕ, ◌<◌, List, [], ◌∷◌, ◌++◌, Some, slice_get, slice_set, ⊤}
use Rattle.std.specs.List.{AllByRecursion}
use Rattle.node_core.specs.declared.event.Event.{Event}
use Rattle.node_core.specs.declared.event.Event.TheVariants.{Deliver}
use Rattle.packet_wire.specs.declared.packet.Packet.{Packet}
use Rattle.run_book.specs.Books.{Book}
use Rattle.run_book.specs.Entries.{Entry}
use Rattle.spawn_frame.specs.declared.site.Site.{Site}

-- an entry with the site at which it happened
pub record SiteEntry : Type 0 where
  pub site : Site
  pub entry : Entry

-- The packet stands among those of an entry of the list.
pub record WasPutOut (merged : List SiteEntry) (packet : Packet) : Type 0 where
  pub at : ℕ
  pub among : ℕ
  pub earlier : SiteEntry
  pub is : slice_get merged at ≡ Some earlier
  pub packet_is : slice_get earlier.entry.packets among ≡ Some packet

-- if it delivers a packet, that was put out
abbrev pub DeliversPutOut : List SiteEntry → Event → Type 0
DeliversPutOut merged (Deliver packet) = WasPutOut merged packet
DeliversPutOut merged _ = ⊤

-- a book of an earlier incarnation of the site's node has nothing left
abbrev pub IsUsedUp : Site → Book → Type 0
IsUsedUp site book = book.site.node ≡ site.node → book.site.incarnation < site.incarnation → book.entries ≡ []

-- The k-th book has an entry left, whose turn it may be: its packet was put out, and the books of earlier incarnations of
-- its node are used up.
pub record MayFollow (merged : List SiteEntry) (left : List Book) (k : ℕ) (next : SiteEntry) (later : List Entry) : Type 0 where
  pub is : slice_get left k ≡ Some (record { site = next.site; entries = next.entry ∷ later })
  pub delivers : DeliversPutOut merged next.entry.event
  pub earlier : AllByRecursion (IsUsedUp next.site) left

-- the entries that a merge of beginnings of books has taken from them in turn, and what is left of each book
pub data MergesTo (books : List Book) : List SiteEntry → List Book → Type 0 where
  none_yet : MergesTo books [] books
  follows : {merged : List SiteEntry} {left : List Book} → MergesTo books merged left
      → (k : ℕ) (next : SiteEntry) (later : List Entry) → MayFollow merged left k next later
      → MergesTo books (merged ++ next ∷ []) (slice_set left k (record { site = next.site; entries = later }))

-- A merge of beginnings of books.
abbrev pub IsMergeOfBeginnings : List Book → List SiteEntry → Type 0
IsMergeOfBeginnings books merged = (left : List Book) × MergesTo books merged left

-- A merge of books, which takes each whole.
pub record IsMerge (books : List Book) (merged : List SiteEntry) : Type 0 where
  pub left : List Book
  pub merges : MergesTo books merged left
  pub whole : AllByRecursion (λ book. book.entries ≡ []) left
