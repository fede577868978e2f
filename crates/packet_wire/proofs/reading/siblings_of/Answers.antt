use Rattle.std.proofs.Common.{None}
use Rattle.std.proofs.lemmas.Result.{err_from_is_err_and}
use Rattle.packet_wire.specs.Reading.{siblings_at}
use Rattle.packet_wire.proofs.Rising.{goes_on, ends, is_done}
use Rattle.packet_wire.proofs.reading.siblings_of.Goals as goal

pub returns-in_err-sibling : goal.returns-in_err-sibling
returns-in_err-sibling c =
    let p = err_from_is_err_and c.from_residual-in_err-sibling.result c.from_residual-in_err-sibling.ensures.1 in
    rw (p.1, p.2) (ends c.loop.last c.in_err-sibling.field-0.0 c.loop.siblings.items c.args.count c.loop.counter c.loop.rest.now (siblings_at None c.args.count c.args.bytes.now) c.loop-test.true c.in_err-sibling.ensures c.loop.invariant)

pub loop-preserved : goal.loop-preserved
loop-preserved c =
    rw c.in_ok-push.ensures.items (goes_on c.loop.last c.loop.siblings.items c.args.count c.loop.counter c.loop.rest.now c.in_ok-sibling.sibling c.in_ok-sibling.after.now (siblings_at None c.args.count c.args.bytes.now) c.loop-test.true c.in_ok-sibling.ensures c.loop.invariant)

pub returns : goal.returns
returns c = is_done c.loop.last c.loop.siblings.items c.args.count c.loop.counter c.loop.rest.now (siblings_at None c.args.count c.args.bytes.now) c.loop-test.false c.loop.invariant
