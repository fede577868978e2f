use Rattle.option_sets.proofs.Barring.{row_is}
use Rattle.option_sets.proofs.clash_tables.ClashTables.row.Goals as goal

pub returns : goal.returns
returns c = row_is c.self.inside.problem.now c.args.self.now c.self.inside.rows.items c.self.inside.tints.items c.self.inside.lists.items c.args.item c.index.result.now c.as_slice.result.now c.self.view_is c.self.invariant c.requires c.index.ensures c.as_slice.ensures
