-- Guests that are dropped one after another.
use Rattle.std.proofs.Common.{◌≡◌, List}
use Rattle.spawn_frame.specs.Units.{Table, table_guests}
use Rattle.spawn_frame.specs.declared.unit.Unit.{Unit as WorkUnit}
use Rattle.steal_return.specs.Members.{MayDrop, dropped}

-- Those that are left may be dropped, and make of the table now what all make of the table at first.
pub record DropsOn (old now : Table) (units left : List WorkUnit) : Type 0 where
  pub rest : now ≡ table_guests old now.guests
  pub may : MayDrop left now.guests
  pub all : dropped left now.guests ≡ dropped units old.guests
