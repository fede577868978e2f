use Rattle.std.proofs.Common.{arith}
use Rattle.dlx_reader.proofs.AnswerCounts.{digit_in_range, value_more, value_small}
use Rattle.dlx_reader.proofs.answer_head.value_of.Goals as goal

pub overflow_mul-value : goal.overflow_mul-value
overflow_mul-value c = omega (arith, value_small c.args.digits.now c.loop-digit.digit-index c.requires.decimal c.requires.few, c.loop-digit.invariant)

pub overflow_sub-digit : goal.overflow_sub-digit
overflow_sub-digit c = (digit_in_range c.args.digits.now c.loop-digit.digit-index c.requires.decimal c.loop-digit-test.true).0

pub overflow_add-value : goal.overflow_add-value
overflow_add-value c =
    omega (arith, value_small c.args.digits.now c.loop-digit.digit-index c.requires.decimal c.requires.few, c.loop-digit.invariant, digit_in_range c.args.digits.now c.loop-digit.digit-index c.requires.decimal c.loop-digit-test.true, c.from.ensures)

pub loop-digit-preserved : goal.loop-digit-preserved
loop-digit-preserved c =
    let more = value_more c.args.digits.now c.loop-digit.digit-index c.requires.decimal c.loop-digit-test.true in
    omega (arith, more, c.loop-digit.invariant, c.from.ensures)
