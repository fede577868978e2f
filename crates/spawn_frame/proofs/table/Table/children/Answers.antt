use Rattle.spawn_frame.proofs.Admitted.{none_there}
use Rattle.spawn_frame.proofs.Parents.{no_children}
use Rattle.spawn_frame.proofs.table.Table.children.Goals as goal

pub returns-in-Some : goal.returns-in-Some
returns-in-Some c = c.in-Some.ensures.in_step.children

pub returns-in-None : goal.returns-in-None
returns-in-None c = no_children c.args.unit c.args.self.now.own c.issued-issued.result (none_there c.args.self.now c.args.unit c.issued-issued.ensures.parents c.in-None.ensures)
