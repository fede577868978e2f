use Rattle.std.proofs.Common.{◌<◌, ap, length, arith}
use Rattle.cover_problem.specs.Problem.{Problem, items_of}
use Rattle.option_sets.specs.Sets.{has}
use Rattle.option_sets.specs.ClashTables.{clash_at}
use Rattle.option_sets.proofs.Barring.{barred_more}
use Rattle.option_sets.proofs.clash_tables.ClashTables.bar.Goals as goal

pub loop-place-preserved : goal.loop-place-preserved
loop-place-preserved c x =
    let q = c.args.self.now in
    let inside : c.loop-place.place < length (items_of c.args.self.now c.args.option) =
    omega (arith, c.loop-place-test.true, ap length c.option-place-end.ensures.items, ap (λ (p : Problem). length (items_of p c.args.option)) c.self.view_is) in
    barred_more (λ item. clash_at q c.args.option item x) (items_of q c.args.option) c.loop-place.place (has c.args.set.now x) (has c.loop-place.set x) (has c.bar_item.new.set x) inside (c.loop-place.invariant x) (c.bar_item.ensures x)
