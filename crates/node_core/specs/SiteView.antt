-- All that a site knows.
use Rattle.std.specs.Prelude.{Bool, false, List, map, Option}
use Rattle.packet_wire.specs.declared.packet.Body.TheVariants.{Abort}
use Rattle.packet_wire.specs.declared.packet.Packet.{Packet}
use Rattle.spawn_frame.specs.Aborts.{Reached}
use Rattle.spawn_frame.specs.Units.{Entry, GuestEntry, Table, table_gets, table_guests, table_own, unit_of}
use Rattle.spawn_frame.specs.declared.site.Site.{Site}
use Rattle.spawn_frame.specs.declared.status.Status.{Status}
use Rattle.spawn_frame.specs.declared.unit.Unit.{Unit as WorkUnit}
use Rattle.steal_return.specs.Ledger.{Ledger, ledger_table}

-- all that a site knows
pub record View : Type 0 where
  pub ledger : Ledger
  pub open ledger use *
  pub over : Bool

-- all that a site knows when it begins with this ledger
abbrev pub opening_view : Ledger → View
opening_view ledger = record { ledger = ledger; over = false }

-- what a site has of a unit
abbrev pub unit_in : View → WorkUnit → Option Entry
unit_in view unit = unit_of view.table unit

-- the view with another ledger
abbrev pub with_ledger : View → Ledger → View
with_ledger view ledger = record view { ledger = ledger }

-- the view with another table
abbrev pub with_table : View → Table → View
with_table view table = with_ledger view (ledger_table view.ledger table)

-- the view with other own children
abbrev pub with_own : View → List Entry → View
with_own view own = with_table view (table_own view.table own)

-- the view with other guests
abbrev pub with_guests : View → List GuestEntry → View
with_guests view guests = with_table view (table_guests view.table guests)

-- the view in which the unit has this status
abbrev pub unit_gets : View → WorkUnit → Status → View
unit_gets view unit status = with_table view (table_gets view.table unit status)

-- the packet to the thief of a child that is wanted no more
abbrev pub abort_packet : Site → Reached → Packet
abort_packet from r = record { from = from; to = r.thief; body = Abort r.serial r.attempt }

-- a packet to the thief of each of these children, in order
abbrev pub abort_packets : Site → List Reached → List Packet
abort_packets from outs = map (λ r. abort_packet from r) outs
