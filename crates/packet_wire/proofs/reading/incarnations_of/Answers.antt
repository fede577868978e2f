use Rattle.std.proofs.lemmas.Result.{err_from_is_err_and}
use Rattle.packet_wire.specs.Reading.{fields_at}
use Rattle.packet_wire.specs.WellFormed.{is_counted}
use Rattle.packet_wire.proofs.Loop.{goes_on, ends, is_done}
use Rattle.packet_wire.proofs.reading.incarnations_of.Goals as goal

pub returns-in_err-incarnation : goal.returns-in_err-incarnation
returns-in_err-incarnation c =
    let p = err_from_is_err_and c.from_residual-in_err-incarnation.result c.from_residual-in_err-incarnation.ensures.1 in
    rw (p.1, p.2) (ends 4 is_counted c.in_err-incarnation.field-0.0 c.loop.incarnations.items c.args.count c.loop.counter c.loop.rest.now (fields_at 4 is_counted c.args.count c.args.bytes.now) c.loop-test.true c.in_err-incarnation.ensures c.loop.invariant)

pub loop-preserved : goal.loop-preserved
loop-preserved c =
    rw c.in_ok-push.ensures.items (goes_on 4 is_counted c.loop.incarnations.items c.args.count c.loop.counter c.loop.rest.now c.in_ok-incarnation.incarnation c.in_ok-incarnation.after.now (fields_at 4 is_counted c.args.count c.args.bytes.now) c.loop-test.true c.in_ok-incarnation.ensures c.loop.invariant)

pub returns : goal.returns
returns c = is_done 4 is_counted c.loop.incarnations.items c.args.count c.loop.counter c.loop.rest.now (fields_at 4 is_counted c.args.count c.args.bytes.now) c.loop-test.false c.loop.invariant
