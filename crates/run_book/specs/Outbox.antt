-- What is put into an outbox and what is taken out of it, each in the order of the steps.
use Rattle.std.specs.Prelude.{◌≡◌, ℕ, ◌<◌, List, [], ◌∷◌, ◌++◌, length, Option}
use lib.ListN.{get_elem?}
use mathlib.Core.Option.{some}
use Rattle.atomic_table.specs.Seated.{TableId}
use Rattle.crossbeam_queue.specs.Passes.{Pass as Holder, view}
use Rattle.crossbeam_queue.specs.declared.array_queue.Doing.{Doing}
use Rattle.crossbeam_queue.specs.declared.array_queue.Slotted.{Slotted}
use Rattle.run_book.specs.Beginnings.{BeginsWith}
use Rattle.run_book.specs.declared.outbox.TheConstants.{CAPACITY}
use Rattle.run_book.specs.declared.parcel.Parcel.{Parcel}

-- A moment of an outbox: what had been put in is what had been taken out, and then what it held.
pub record Moment : Type 0 where
  pub put : List Parcel
  pub taken : List Parcel
  pub held : List Parcel
  pub order : put ≡ taken ++ held

-- At some moment the outbox held as many parcels as fit, and these had been put in first.
abbrev pub FoundFull : List Parcel → Type 0
FoundFull seen = (moment : Moment) × (length moment.held ≡ CAPACITY) × BeginsWith moment.put seen

-- At some moment the outbox held nothing, and these had been taken out.
abbrev pub FoundEmpty : List Parcel → Type 0
FoundEmpty taken = (moment : Moment) × (moment.held ≡ []) × (moment.taken ≡ taken)

-- a pass: the outbox that it is of, what it has seen put in, and what it has put in itself
pub record Pass : Type 0 where
  pub outbox : TableId
  pub seen : List Parcel
  pub own : List Parcel

-- the drain: the outbox that it is of, and what it has taken out
pub record Drain : Type 0 where
  pub outbox : TableId
  pub taken : List Parcel

-- The pass has put in the parcel and nothing else, and has seen more put in, at its end the parcel.
pub record HasPut (old : Pass) (parcel : Parcel) (new : Pass) : Type 0 where
  pub outbox : new.outbox ≡ old.outbox
  pub between : List Parcel
  pub seen : new.seen ≡ (old.seen ++ between) ++ parcel ∷ []
  pub own : new.own ≡ old.own ++ parcel ∷ []

-- the drain with the parcel added to what it has taken out
abbrev pub has_taken : Drain → Parcel → Drain
has_taken drain parcel = record drain { taken = drain.taken ++ parcel ∷ [] }

-- ---- the rule of the queue

-- what a holder of the queue knows: what it has seen put in, what it has put in itself, and if it is the drain, what was taken out
pub record Known : Type 0 where
  pub seen : List Parcel
  pub own : List Parcel
  pub taken : List Parcel

-- one who has seen nothing
abbrev pub newcomer : Known
newcomer = record { seen = []; own = []; taken = [] }

-- Of what the queue holds there is a moment at which the drain, the first of the holders, knows what
-- was taken out, and each has seen a beginning of what was put in.
pub record IsInOrder (held : List Parcel) (holders : List Known) : Type 0 where
  pub moment : Moment
  pub holds : moment.held ≡ held
  pub there : 0 < length holders
  pub drain : (known : Known) → get_elem? holders 0 ≡ some known → known.taken ≡ moment.taken
  pub seen : (by : ℕ) (known : Known) → get_elem? holders by ≡ some known → BeginsWith moment.put known.seen

-- A holder has put in the parcel, and has seen more put in, at its end the parcel.
pub record HasSeenPut (old : Known) (parcel : Parcel) (new : Known) : Type 0 where
  pub between : List Parcel
  pub seen : new.seen ≡ (old.seen ++ between) ++ parcel ∷ []
  pub own : new.own ≡ old.own ++ parcel ∷ []
  pub taken : new.taken ≡ old.taken

-- the drain has taken out the parcel
abbrev pub HasSeenTaken : Known → Parcel → Known → Type 0
HasSeenTaken old parcel new = new ≡ record old { taken = old.taken ++ parcel ∷ [] }

-- at a moment at which the queue holds these, what the holder has seen had been put in first
abbrev pub Finds : Known → List Parcel → Type 0
Finds known held = (moment : Moment) × (moment.held ≡ held) × BeginsWith moment.put known.seen

-- at a moment at which the queue holds these, what the drain knows had been taken out
abbrev pub FindsAsDrain : Known → List Parcel → Type 0
FindsAsDrain known held = (moment : Moment) × (moment.held ≡ held) × (moment.taken ≡ known.taken)

-- ---- the queue and its holders as passes, drain and outbox

-- the name of a queue
abbrev pub name_of : {Q A : Type 0} → Slotted (Option Parcel) (Doing Parcel Known) Q A → TableId
name_of queue = queue.table.shared.table_id

-- a holder as a pass
abbrev pub pass_view : Holder Parcel Known → Pass
pass_view holder = record { outbox = holder.table_id; seen = (view holder).seen; own = (view holder).own }

-- the holder has put nothing in itself
abbrev pub PutsNothing : Holder Parcel Known → Type 0
PutsNothing holder = (view holder).own ≡ []

-- a holder as the drain
abbrev pub drain_view : Holder Parcel Known → Drain
drain_view holder = record { outbox = holder.table_id; taken = (view holder).taken }
