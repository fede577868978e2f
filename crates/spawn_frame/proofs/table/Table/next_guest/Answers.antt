use Rattle.std.proofs.Common.{List, map, sym, subst}
use Rattle.spawn_frame.specs.Tables.{IsAscending}
use Rattle.spawn_frame.specs.Works.{guest_entry}
use Rattle.spawn_frame.specs.declared.guest.Guest.{Guest}
use Rattle.spawn_frame.proofs.table.Table.next_guest.Goals as goal

pub first_after-requires : goal.first_after-requires
first_after-requires c =
    subst (λ (gs : List Guest). IsAscending (map guest_entry gs)) (sym c.as_slice.ensures) c.self.invariant.ascending
