use Rattle.spawn_frame.proofs.Picked.{ready_may_begin, ready_seen}
use Rattle.spawn_frame.proofs.table.Table.take_up.Goals as goal

pub set_status-requires : goal.set_status-requires
set_status-requires c = ready_may_begin c.args.unit _ c.requires

pub returns-clause-ready : goal.returns-clause-ready
returns-clause-ready c = ready_seen c.args.self.now c.args.unit c.in-Some.work.now c.in-Some.ensures c.requires
