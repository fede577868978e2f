-- What ties receipts to the log of a cell: one keeper knows the log, and each receipt has a place in it.
use Rattle.std.specs.Prelude.{◌≡◌, ◌≢◌, ℕ, ◌<◌, ◌≤◌, List, [], ◌∷◌, ◌++◌, length, ⊤}
use lib.ListN.{get_elem?}
use mathlib.Core.Option.{some}
use Rattle.atomic_table.specs.Seated.{TableId}
use Rattle.node_core.specs.declared.event.Event.TheVariants.{Take}
use Rattle.node_core.specs.declared.reply.Reply.TheVariants.{Idle}
use Rattle.run_book.specs.Entries.{Entry, Placed}
use Rattle.run_book.specs.Places.{AllStand, StandsIn, places, times}

-- what a holder knows: the keeper the log and the receipts that are back, a receipt its entry and place
pub data Knows : Type 0 where
  Keeps : (log : List Entry) (back : List Placed) → Knows
  Stands : Placed → Knows
  Nothing : Knows

-- the log that the keeper knows
abbrev pub log_of : Knows → List Entry
log_of (Keeps log back) = log
log_of _ = []

-- the receipts of which the keeper knows that they are back
abbrev pub back_of : Knows → List Placed
back_of (Keeps log back) = back
back_of _ = []

-- the keeper, once the entry stands in the log
abbrev pub entered : Knows → Entry → Knows
entered known entry = Keeps (log_of known ++ entry ∷ []) (back_of known)

-- the receipt of an entry that is next in the log
abbrev pub receipt_of : Knows → Entry → Knows
receipt_of known entry = Stands (record { place = length (log_of known); entry = entry })

-- the keeper, once this receipt is back
abbrev pub taken_back : Knows → Placed → Knows
taken_back known placed = Keeps (log_of known) (back_of known ++ placed ∷ [])

-- the same by what the receipt's holder knows
abbrev pub with_back : Knows → Knows → Knows
with_back known (Stands placed) = taken_back known placed
with_back known _ = known

-- what a holder knows is so: there is one keeper, and one receipt of each place
abbrev pub Fits : ℕ → List Entry → List Placed → (ℕ → ℕ) → ℕ → Knows → Type 0
Fits keeper log back holder by (Keeps mine came) = (by ≡ keeper) × (mine ≡ log) × (came ≡ back)
Fits keeper log back holder by (Stands placed) = StandsIn log placed × (holder placed.place ≡ by) × (by ≢ keeper)
Fits keeper log back holder by Nothing = ⊤

-- The receipts that are back stand at their places, and no two at one.
pub record AreApart (log : List Entry) (back : List Placed) : Type 0 where
  pub once : (k : ℕ) → times k (places back) ≤ 1
  pub stand : AllStand log back

-- What all holders know is so, and a place whose receipt is back is the keeper's.
pub record AreTickets (items : List ℕ) (holders : List Knows) : Type 0 where
  pub keeper : ℕ
  pub log : List Entry
  pub back : List Placed
  pub holder : ℕ → ℕ
  pub fits : (by : ℕ) (known : Knows) → get_elem? holders by ≡ some known → Fits keeper log back holder by known
  pub apart : AreApart log back
  pub kept : (k : ℕ) → 0 < times k (places back) → holder k ≡ keeper

-- of what the keeper knows
abbrev pub KeepsApart : Knows → List ℕ → Type 0
KeepsApart (Keeps log back) items = AreApart log back
KeepsApart _ items = ⊤

-- the keeper of an empty log
abbrev pub keeper_of_none : Knows
keeper_of_none = Keeps [] []

-- one whose receipt is back
abbrev pub spent : Knows
spent = Nothing

-- the log that is kept, and the receipts that are back
pub record Register : Type 0 where
  pub log : List Entry
  pub back : List Placed

-- what the keeper knows, as a register
abbrev pub register_view : Knows → Register
register_view known = record { log = log_of known; back = back_of known }

-- the holder is the keeper
abbrev pub IsKeeper : Knows → Type 0
IsKeeper known = known ≡ Keeps (log_of known) (back_of known)

-- the holder has the receipt
abbrev pub HasReceipt : Knows → Placed → Type 0
HasReceipt known placed = known ≡ Stands placed

-- some entry, of no meaning
abbrev pub no_entry : Entry
no_entry = record { event = Take; reply = Idle; packets = [] }

-- the receipt that the holder has
abbrev pub placed_in : Knows → Placed
placed_in (Stands placed) = placed
placed_in _ = record { place = 0; entry = no_entry }

-- the name of no table
abbrev pub no_table : TableId
no_table = record { words = 0; slots = 0; views_name = 0; atom = 0; block = 0; offset = 0; slot_names = [] }
