use Rattle.std.proofs.Common.{◌∙◌}
use Rattle.dlx_reader.proofs.Naming.{named_within}
use Rattle.dlx_reader.proofs.names.Names.item_named.Goals as goal

pub returns-clause-within : goal.returns-clause-within
returns-clause-within c = rw (c.copied.ensures ∙ c.get.ensures.value ∙ c.self.invariant.1 c.args.word.now, c.self.view_is) (named_within c.args.self.now c.args.word.now)
