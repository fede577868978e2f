use Rattle.std.proofs.Common.{refl, sym, ◌<◌, arith}
use Rattle.cover_problem.proofs.Repeats.{seen_none, seen_more, seen_again}
use Rattle.cover_problem.proofs.check.is_distinct.Goals as goal

pub loop-number-init : goal.loop-number-init
loop-number-init c = seen_none _ c.args.numbers.now 65536 refl refl

pub returns-then-seen-place : goal.returns-then-seen-place
returns-then-seen-place c =
    let small : c.from-place.result < 65536 = omega (arith, c.type_inv.numbers c.loop-number.number-index, c.from-place.ensures) in
    sym (seen_again c.loop-number.seen c.args.numbers.now c.loop-number.number-index c.from-place.result c.loop-number.invariant c.loop-number-test.true (sym c.from-place.ensures) small c.if-seen-place.true)

pub loop-number-preserved : goal.loop-number-preserved
loop-number-preserved c =
    let small : c.from-place.result < 65536 = omega (arith, c.type_inv.numbers c.loop-number.number-index, c.from-place.ensures) in
    seen_more c.loop-number.seen c.args.numbers.now c.loop-number.number-index c.from-place.result c.loop-number.invariant c.loop-number-test.true (sym c.from-place.ensures) small c.if-seen-place.false
