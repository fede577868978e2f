use Rattle.std.proofs.Common.{length, sym, true≢false}
use Rattle.spawn_frame.proofs.Filled.{pages_enough}
use Rattle.spawn_frame.proofs.children.Children.append.Goals as goal

pub returns-in_err-add_pages-clause-within : goal.returns-in_err-add_pages-clause-within
returns-in_err-add_pages-clause-within c = λ same.
    let s = c.self.inside in
    let enough = pages_enough s.pages.items c.args.self.now s.count (length c.args.options.now) c.div_ceil-end.result c.self.invariant.filled c.self.view_is c.self.invariant.count same c.div_ceil-end.ensures in
    absurd (true≢false (sym (c.in_err-add_pages.ensures.within enough)))
