use Rattle.std.proofs.Common.{refl, arith}
use Rattle.node_core.specs.SiteView.{View}
use Rattle.run_book.proofs.Sites.{formed_at_first}
use Rattle.run_book.specs.Sites.{opening_of}
use Rattle.run_book.proofs.recorded_core.RecordedCore.new.Goals as goal

pub invariant_of-result : goal.invariant_of-result
invariant_of-result g c =
    let made = c.open-register.ensures in
    let view : View = opening_of g.J.Run.run g.N.CellName.site g.N.CellName.limit in
    rw (c.new.ensures.items, made.register, made.seats, c.requires.view) (record {
      same = c.requires.problem;
      steps = c.requires.steps;
      formed = formed_at_first g.N.CellName.site.node g.J.Run.run g.N.CellName.site g.N.CellName.limit c.requires.run c.requires.begins;
      book = record { lawful = c.requires.run; begins = c.requires.begins; leads = refl };
      log = refl;
      none_back = refl;
      counted = refl;
      within = omega arith;
    })
