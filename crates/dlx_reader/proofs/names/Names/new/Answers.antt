use Rattle.std.proofs.Common.{rules}
use Rattle.dlx_reader.specs.Names.{item_named}
use Rattle.dlx_reader.proofs.names.Names.new.Goals as goal

pub invariant_of-result : goal.invariant_of-result
unfolding item_named
invariant_of-result c = search rules
