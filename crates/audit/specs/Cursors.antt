-- How far a merge of beginnings has come, by one cursor for each book.
use Rattle.std.specs.Prelude.{◌≡◌, ℕ, ◌<◌, ◌≤◌, false, List, [], ◌∷◌, drop, length, Option, None, Some, slice_get, ⊤}
use Rattle.node_core.specs.declared.event.Event.{Event}
use Rattle.node_core.specs.declared.event.Event.TheVariants.{Deliver}
use Rattle.packet_wire.specs.declared.packet.Packet.{Packet}
use Rattle.audit.specs.Audits.{site_before}
use Rattle.run_book.specs.Books.{Book}
use Rattle.run_book.specs.Entries.{Entry}
use Rattle.run_book.specs.Merges.{MergesTo, SiteEntry, WasPutOut}
use Rattle.spawn_frame.specs.declared.site.Site.{Site}

-- the packet is one of these
abbrev pub IsAmong : Packet → List Packet → Type 0
IsAmong packet packets = (i : ℕ) × (slice_get packets i ≡ Some packet)

-- one of the first so many entries put the packet out
abbrev pub IsPutOutBefore : List Entry → ℕ → Packet → Type 0
IsPutOutBefore entries end packet =
    (place : ℕ) × (entry : Entry) × (place < end) × (slice_get entries place ≡ Some entry) × IsAmong packet entry.packets

-- An entry before the cursor of its book put the packet out.
pub record PutOut (books : List Book) (cursors : List ℕ) (packet : Packet) : Type 0 where
  pub at : ℕ
  pub book : Book
  pub cursor : ℕ
  pub place : ℕ
  pub entry : Entry
  pub among : ℕ
  pub is : slice_get books at ≡ Some book
  pub cursor_is : slice_get cursors at ≡ Some cursor
  pub before : place < cursor
  pub entry_is : slice_get book.entries place ≡ Some entry
  pub packet_is : slice_get entry.packets among ≡ Some packet

-- if it delivers a packet, that was put out
abbrev pub IsSent : List Book → List ℕ → Event → Type 0
IsSent books cursors (Deliver packet) = PutOut books cursors packet
IsSent books cursors _ = ⊤

-- the book is of an earlier incarnation of the site's node, and has an entry left
abbrev pub HoldsUp : Site → Book → ℕ → Type 0
HoldsUp site book cursor = (book.site.node ≡ site.node) × (book.site.incarnation < site.incarnation) × (cursor < length book.entries)

-- no book of an earlier incarnation of the site's node has an entry left
abbrev pub IsTurn : List Book → List ℕ → Site → Type 0
IsTurn books cursors site =
    (k : ℕ) (book : Book) (cursor : ℕ) → slice_get books k ≡ Some book → slice_get cursors k ≡ Some cursor → HoldsUp site book cursor → ⊥

-- where an entry of a book is merged, no book of an earlier incarnation of its node has an entry left
abbrev pub HaveBegun : List Book → List ℕ → Type 0
HaveBegun books cursors =
    (k : ℕ) (book : Book) (cursor : ℕ) → slice_get books k ≡ Some book → slice_get cursors k ≡ Some cursor → 0 < cursor
    → IsTurn books cursors book.site

-- an entry of the site with this event may be the next one of the merge
abbrev pub IsNext : List Book → List ℕ → Site → Event → Type 0
IsNext books cursors site event = IsTurn books cursors site × IsSent books cursors event

-- The book has an entry at its cursor.
pub record HasNext (books : List Book) (cursors : List ℕ) (k : ℕ) : Type 0 where
  pub book : Book
  pub cursor : ℕ
  pub entry : Entry
  pub is : slice_get books k ≡ Some book
  pub cursor_is : slice_get cursors k ≡ Some cursor
  pub entry_is : slice_get book.entries cursor ≡ Some entry

-- The book's next entry may be taken.
pub record Takes (books : List Book) (cursors : List ℕ) (k : ℕ) : Type 0 where
  pub next : HasNext books cursors k
  pub open next use *
  pub is_next : IsNext books cursors book.site entry.event

-- no book's next entry may be taken
abbrev pub IsStuck : List Book → List ℕ → Type 0
IsStuck books cursors = (k : ℕ) → Takes books cursors k → ⊥

-- what the cursors leave of the books
abbrev pub left_at : List ℕ → List Book → List Book
left_at [] books = []
left_at (cursor ∷ cursors) [] = []
left_at (cursor ∷ cursors) (book ∷ books) = record book { entries = drop cursor book.entries } ∷ left_at cursors books

-- The cursors are those of a merge of beginnings, what the entries before them put out is what was put out in it, and each book
-- that has begun had its turn.
pub record AreOfMerge (books : List Book) (cursors : List ℕ) : Type 0 where
  pub merged : List SiteEntry
  pub merges : MergesTo books merged (left_at cursors books)
  pub put_out : (packet : Packet) → PutOut books cursors packet → WasPutOut merged packet
  pub from_books : (packet : Packet) → WasPutOut merged packet → PutOut books cursors packet
  pub begun : HaveBegun books cursors

-- no book has an entry left
abbrev pub AreUsedUp : List Book → List ℕ → Type 0
AreUsedUp books cursors =
    (k : ℕ) (book : Book) (cursor : ℕ) → slice_get books k ≡ Some book → slice_get cursors k ≡ Some cursor → length book.entries ≤ cursor

-- It is the least site whose book has an entry left.
pub record LeastLeft (books : List Book) (cursors : List ℕ) (k : ℕ) : Type 0 where
  pub next : HasNext books cursors k
  pub open next use *
  pub least : (j : ℕ) (other : Book) (c : ℕ) → slice_get books j ≡ Some other → slice_get cursors j ≡ Some c → c < length other.entries
      → site_before other.site book.site ≡ false

-- it is the least site of the books below this number that have an entry left, or none of them has
abbrev pub IsLeastBelow : List Book → List ℕ → ℕ → Option ℕ → Type 0
IsLeastBelow books cursors end None =
    (k : ℕ) (book : Book) (c : ℕ) → k < end → slice_get books k ≡ Some book → slice_get cursors k ≡ Some c → length book.entries ≤ c
IsLeastBelow books cursors end (Some least) =
    (least < end) × (book : Book) × (cursor : ℕ) × (slice_get books least ≡ Some book) × (slice_get cursors least ≡ Some cursor)
    × (cursor < length book.entries)
    × ((k : ℕ) (other : Book) (c : ℕ) → k < end → slice_get books k ≡ Some other → slice_get cursors k ≡ Some c → c < length other.entries
    → site_before other.site book.site ≡ false)
