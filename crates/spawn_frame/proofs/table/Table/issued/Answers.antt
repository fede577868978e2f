use Rattle.std.proofs.Common.{subst}
use Rattle.spawn_frame.specs.Tables.{AllLawful}
use Rattle.spawn_frame.proofs.Found.{each_lawful}
use Rattle.spawn_frame.proofs.table.Table.issued.Goals as goal

pub returns-clause-lawful : goal.returns-clause-lawful
returns-clause-lawful c =
    let t = c.self.inside in
    subst AllLawful c.self.view_is (each_lawful t.site t.names_limit t.own t.guests c.self.invariant)
