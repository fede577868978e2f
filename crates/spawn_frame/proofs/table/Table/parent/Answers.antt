use Rattle.std.proofs.Common.{IfSome, IsSome, subst}
use Rattle.spawn_frame.specs.Units.{unit_of}
use Rattle.spawn_frame.proofs.Found.{made_before, parent_there}
use Rattle.spawn_frame.proofs.table.Table.parent.Goals as goal

pub returns-clause-lower : goal.returns-clause-lower
returns-clause-lower c =
    let t = c.self.inside in
    made_before t.site t.names_limit t.own t.guests c.self.invariant c.args.serial c.in_ok-get.field-0.now c.in_ok-get.ensures

pub returns-clause-there : goal.returns-clause-there
returns-clause-there c =
    let t = c.self.inside in
    subst (λ v. IfSome c.in_ok-get.field-0.now.parent (λ u. IsSome (unit_of v u))) c.self.view_is
    (parent_there t.site t.names_limit t.own t.guests c.self.invariant c.args.serial c.in_ok-get.field-0.now c.in_ok-get.ensures)
