-- A site's units of work, with what it knows of the other sites.
use Rattle.std.specs.Prelude.{ℕ, suc, List, replicate}
use Rattle.spawn_frame.specs.Splits.{split_into}
use Rattle.spawn_frame.specs.Tables.{empty_table, longer_prefixes, prefix_in, root_table}
use Rattle.spawn_frame.specs.Units.{Entry, GuestEntry, Table, table_gets, table_guests, table_own, unit_of}
use Rattle.spawn_frame.specs.declared.site.Site.{Site}
use Rattle.spawn_frame.specs.declared.status.Status.{Status}
use Rattle.spawn_frame.specs.declared.unit.Unit.{Unit as WorkUnit}

-- a site's units of work, and the incarnation of each node that it knows of
pub record Ledger : Type 0 where
  pub table : Table
  pub open table use *
  pub nodes : ℕ  -- how many there are beside the registry
  pub known : List ℕ  -- the known incarnation of each node, the registry first

-- the ledger with another table
abbrev pub ledger_table : Ledger → Table → Ledger
ledger_table ledger table = record ledger { table = table }

-- the ledger with other own children
abbrev pub ledger_own : Ledger → List Entry → Ledger
ledger_own ledger own = ledger_table ledger (table_own ledger.table own)

-- the ledger with other guests
abbrev pub ledger_guests : Ledger → List GuestEntry → Ledger
ledger_guests ledger guests = ledger_table ledger (table_guests ledger.table guests)

-- the ledger in which the unit has this status
abbrev pub ledger_gets : Ledger → WorkUnit → Status → Ledger
ledger_gets ledger unit status = ledger_table ledger (table_gets ledger.table unit status)

-- the ledger in which the unit is split: for each option a child whose prefix is the unit's with that option
abbrev pub ledger_split : Ledger → WorkUnit → List ℕ → Ledger
ledger_split ledger unit options =
    ledger_table ledger (split_into ledger.table unit (longer_prefixes (prefix_in (unit_of ledger.table unit)) options))

-- a site that begins: nothing in its table, and the first incarnation known of every node
abbrev pub opening_ledger : Site → ℕ → ℕ → Ledger
opening_ledger site nodes limit = record { table = empty_table site limit; nodes = nodes; known = replicate (suc nodes) 1 }

-- the registry that begins, with the root alone
abbrev pub root_ledger : ℕ → Ledger
root_ledger nodes = record { table = root_table; nodes = nodes; known = replicate (suc nodes) 1 }
