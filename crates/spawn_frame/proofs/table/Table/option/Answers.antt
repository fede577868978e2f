use Rattle.std.proofs.Common.{◌≡◌, ◌++◌, ◌∷◌, [], Some, slice_get, subst}
use Rattle.spawn_frame.specs.Tables.{parent_in, prefix_in}
use Rattle.spawn_frame.specs.Units.{unit_of}
use Rattle.spawn_frame.specs.declared.unit.Unit.{Unit as WorkUnit}
use Rattle.spawn_frame.proofs.Found.{option_behind}
use Rattle.spawn_frame.proofs.table.Table.option.Goals as goal

pub returns : goal.returns
returns c =
    let t = c.self.inside in
    subst (λ v. (parent : WorkUnit) → parent_in (slice_get v.own c.args.serial) ≡ Some parent → prefix_in (slice_get v.own c.args.serial) ≡ prefix_in (unit_of v parent) ++ c.in-Some.child.now.option ∷ []) c.self.view_is
    (option_behind t.site t.names_limit t.own t.guests c.self.invariant c.args.serial c.in-Some.child.now c.in-Some.ensures)
