use Rattle.std.proofs.Common.{sym, ap, subst, ◌∙◌}
use Rattle.spawn_frame.specs.Gifts.{admit_each}
use Rattle.spawn_frame.specs.Units.{table_guests}
use Rattle.spawn_frame.specs.Works.{IsTable, table_of}
use Rattle.spawn_frame.proofs.Several.{gifts_kept, gifts_view}
use Rattle.spawn_frame.proofs.table.Table.admit_each.Goals as goal

pub invariant_of-self-2 : goal.invariant_of-self-2
invariant_of-self-2 c =
    let t = c.self.inside in
    subst (λ guests. IsTable (table_of t.site t.names_limit t.own guests) t.own guests) (sym c.in_ok-admit_each.ensures.ok)
    (gifts_kept t.site t.names_limit t.own c.args.from c.args.gifts.items t.guests c.requires c.self.invariant)

pub returns-clause-ok : goal.returns-clause-ok
returns-clause-ok c =
    let t = c.self.inside in
    ap (λ guests. table_of t.site t.names_limit t.own guests) c.in_ok-admit_each.ensures.ok
    ∙ ap (table_guests (table_of t.site t.names_limit t.own t.guests)) (gifts_view c.args.from c.args.gifts.items t.guests)
    ∙ ap (λ v. table_guests v (admit_each c.args.from c.args.gifts.items v.guests)) c.self.view_is
