use Rattle.std.proofs.Common.{length, ap, arith}
use Rattle.spawn_frame.specs.Pages.{in_pages}
use Rattle.spawn_frame.proofs.children.Children.count.Goals as goal

pub count_in_pages-requires : goal.count_in_pages-requires
count_in_pages-requires c =
    let same = ap (λ pages. length (in_pages pages)) c.deref.ensures.value in
    omega (arith, c.self.invariant.count, c.self.invariant.small, same)
