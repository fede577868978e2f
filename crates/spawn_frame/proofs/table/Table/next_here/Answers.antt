use Rattle.std.proofs.Common.{refl, ap, ◌∙◌, arith}
use Rattle.spawn_frame.specs.Tables.{is_here}
use Rattle.spawn_frame.specs.declared.wanted.Wanted.TheVariants.{Here}
use Rattle.spawn_frame.proofs.Ahead.{next_entry}
use Rattle.spawn_frame.proofs.table.Table.next_here.Goals as goal

pub next-requires : goal.next-requires
next-requires c = omega (arith, c.self.invariant.small, c.self.invariant.names)

pub returns : goal.returns
returns c = c.next.ensures ∙ next_entry Here is_here (λ w. refl) c.self.inside.own c.args.self.now c.args.from (ap (λ t. t.own) c.self.view_is)
