use Rattle.std.proofs.Common.{ap, ◌∙◌}
use Rattle.spawn_frame.specs.Tables.{outs_of}
use Rattle.spawn_frame.proofs.Paged.{outs_seen}
use Rattle.spawn_frame.proofs.table.Table.outs.Goals as goal

pub returns : goal.returns
returns c = c.count.ensures ∙ outs_seen c.self.inside.own ∙ ap (λ t. outs_of t.own) c.self.view_is
