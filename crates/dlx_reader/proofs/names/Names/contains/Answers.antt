use Rattle.std.proofs.Common.{◌∙◌, ap, is_some}
use Rattle.dlx_reader.proofs.Naming.{is_some-named}
use Rattle.dlx_reader.proofs.names.Names.contains.Goals as goal

pub returns-clause-among : goal.returns-clause-among
returns-clause-among c = c.is_some.ensures ∙ ap is_some c.item_named.ensures.item ∙ is_some-named c.args.self.now c.args.word.now
