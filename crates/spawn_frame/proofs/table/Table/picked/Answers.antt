use Rattle.std.proofs.Common.{sym, ap, ◌∙◌, arith}
use Rattle.spawn_frame.specs.Picks.{either_unit}
use Rattle.spawn_frame.specs.Works.{first_wanted, table_of, wanted_unit}
use Rattle.spawn_frame.proofs.Found.{wanted_is}
use Rattle.spawn_frame.proofs.Picked.{each_wanted_there}
use Rattle.spawn_frame.proofs.table.Table.picked.Goals as goal

pub last-requires : goal.last-requires
last-requires c = omega (arith, c.self.invariant.small, c.self.invariant.names)

pub returns-in-Some : goal.returns-in-Some
returns-in-Some c =
    let t = c.self.inside in
    let last = sym c.last.ensures ∙ c.in-Some.is in
    let is =
    sym (ap (λ o. either_unit o (first_wanted c.args.wanted t.guests)) last)
    ∙ wanted_is t.site t.names_limit t.own t.guests c.self.invariant c.args.wanted in
    record {
      unit = is ∙ ap (wanted_unit c.args.wanted) c.self.view_is;
      status = each_wanted_there c.args.wanted (table_of t.site t.names_limit t.own t.guests) c.args.self.now c.self.invariant.ascending c.self.view_is _ is;
    }

pub returns-in-None : goal.returns-in-None
returns-in-None c =
    let t = c.self.inside in
    let last = sym c.last.ensures ∙ c.in-None.is in
    let is =
    c.first.ensures
    ∙ sym (ap (λ o. either_unit o (first_wanted c.args.wanted t.guests)) last)
    ∙ wanted_is t.site t.names_limit t.own t.guests c.self.invariant c.args.wanted in
    record {
      unit = is ∙ ap (wanted_unit c.args.wanted) c.self.view_is;
      status = each_wanted_there c.args.wanted (table_of t.site t.names_limit t.own t.guests) c.args.self.now c.self.invariant.ascending c.self.view_is _ is;
    }
