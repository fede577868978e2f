use Rattle.std.proofs.Common.{sym, ap, ◌∙◌, is_some}
use Rattle.dlx_reader.proofs.Naming.{is_some-named}
use Rattle.dlx_reader.proofs.options.number_colour.Goals as goal

pub push-requires-clause-fresh : goal.push-requires-clause-fresh
push-requires-clause-fresh c = sym (is_some-named c.args.names.now c.args.colour.now) ∙ ap is_some (sym c.item_named.ensures.item ∙ c.in_default.is)
