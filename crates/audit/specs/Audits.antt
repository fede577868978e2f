-- What an audit of books finds.
use Rattle.std.specs.Prelude.{◌≡◌, ◌⊎◌, ℕ, Bool, false, ◌&&◌, ◌||◌, nat_lt, ◌==◌, List, drop, Option, Some, None, slice_get}
use Rattle.node_core.specs.Requests.{registry}
use Rattle.node_core.specs.declared.event.Event.{Event}
use Rattle.node_core.specs.declared.event.Event.TheVariants.{Deliver}
use Rattle.packet_wire.specs.declared.packet.Packet.{Packet}
use Rattle.run_book.specs.Books.{Book, has_site}
use Rattle.run_book.specs.Entries.{Entry}
use Rattle.run_book.specs.Merges.{MayFollow, MergesTo, SiteEntry, WasPutOut}
use Rattle.audit.specs.declared.auditing.Unclean.{Unclean}
use Rattle.audit.specs.declared.auditing.Unclean.TheVariants.{Memory, MissingBook, NeverSent}
use Rattle.spawn_frame.specs.declared.site.Site.{Site}

-- the order of sites: by node, then by incarnation
abbrev pub site_before : Site → Site → Bool
site_before s t = nat_lt s.node t.node || (s.node == t.node && nat_lt s.incarnation t.incarnation)

-- ---- books that are missing

-- the sender of the packet that an event delivers
abbrev pub sender_in : Event → Option Site
sender_in (Deliver packet) = Some packet.from
sender_in _ = None

-- An entry of a book delivers a packet of the site.
pub record IsSender (books : List Book) (site : Site) : Type 0 where
  pub at : ℕ
  pub book : Book
  pub place : ℕ
  pub entry : Entry
  pub is : slice_get books at ≡ Some book
  pub entry_is : slice_get book.entries place ≡ Some entry
  pub sends : sender_in entry.event ≡ Some site

-- the site is the registry or a sender, and none of the books is its
abbrev pub LacksBook : List Book → Site → Type 0
LacksBook books site = ((site ≡ registry) ⊎ IsSender books site) × (has_site site books ≡ false)

-- the registry and each sender have a book
abbrev pub AllHaveBooks : List Book → Type 0
AllHaveBooks books = (site : Site) → LacksBook books site → ⊥

-- It is the least site that lacks a book.
pub record IsMissing (books : List Book) (site : Site) : Type 0 where
  pub lacks : LacksBook books site
  pub least : (other : Site) → LacksBook books other → site_before other site ≡ false

-- ---- packets that were never sent

-- The site's book is merged up to this place, and its next entry delivers a packet that no merged entry put out.
pub record Waits (books : List Book) (merged : List SiteEntry) (left : List Book) (site : Site) (place : ℕ) : Type 0 where
  pub at : ℕ
  pub book : Book
  pub entry : Entry
  pub packet : Packet
  pub is : slice_get books at ≡ Some book
  pub of_site : book.site ≡ site
  pub left_is : slice_get left at ≡ Some (record book { entries = drop place book.entries })
  pub next : slice_get book.entries place ≡ Some entry
  pub delivers : entry.event ≡ Deliver packet
  pub not_sent : WasPutOut merged packet → ⊥

-- A merge of beginnings of the books can't go on, and this is the least site that waits on a packet, at this place.
pub record WasNeverSent (books : List Book) (site : Site) (place : ℕ) : Type 0 where
  pub merged : List SiteEntry
  pub left : List Book
  pub merges : MergesTo books merged left
  pub stuck : (k : ℕ) (next : SiteEntry) (later : List Entry) → MayFollow merged left k next later → ⊥
  pub waits : Waits books merged left site place
  pub least : (other : Site) (at : ℕ) → Waits books merged left other at → site_before other site ≡ false

-- why books are not found to be a run
abbrev pub IsCause : List Book → Unclean → Type 0
IsCause books (MissingBook site) = IsMissing books site
IsCause books (NeverSent site place) = AllHaveBooks books × WasNeverSent books site place
IsCause books Memory = AllHaveBooks books
