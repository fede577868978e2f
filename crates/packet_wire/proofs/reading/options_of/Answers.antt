use Rattle.std.proofs.lemmas.Result.{err_from_is_err_and}
use Rattle.packet_wire.specs.Reading.{fields_at}
use Rattle.packet_wire.specs.WellFormed.{is_option}
use Rattle.packet_wire.proofs.Loop.{goes_on, ends, is_done}
use Rattle.packet_wire.proofs.reading.options_of.Goals as goal

pub returns-in_err-option : goal.returns-in_err-option
returns-in_err-option c =
    let p = err_from_is_err_and c.from_residual-in_err-option.result c.from_residual-in_err-option.ensures.1 in
    rw (p.1, p.2) (ends 2 is_option c.in_err-option.field-0.0 c.loop.options.items c.args.count c.loop.counter c.loop.rest.now (fields_at 2 is_option c.args.count c.args.bytes.now) c.loop-test.true c.in_err-option.ensures c.loop.invariant)

pub loop-preserved : goal.loop-preserved
loop-preserved c =
    rw c.in_ok-push.ensures.items (goes_on 2 is_option c.loop.options.items c.args.count c.loop.counter c.loop.rest.now c.in_ok-option.option c.in_ok-option.after.now (fields_at 2 is_option c.args.count c.args.bytes.now) c.loop-test.true c.in_ok-option.ensures c.loop.invariant)

pub returns : goal.returns
returns c = is_done 2 is_option c.loop.options.items c.args.count c.loop.counter c.loop.rest.now (fields_at 2 is_option c.args.count c.args.bytes.now) c.loop-test.false c.loop.invariant
