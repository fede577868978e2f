use Rattle.std.proofs.Common.{◌<◌, ◌^◌, ◌∙◌, get_or, length, arith, rules}
use Rattle.option_sets.specs.declared.word.Word.{Word}
use Rattle.option_sets.proofs.Bits.{row_cleared, row_done}
use Rattle.option_sets.proofs.clear.clear_row.Goals as goal

pub loop-word-preserved : goal.loop-word-preserved
loop-word-preserved c x =
    let none : Word = record { place = 0; bits = 0 } in
    let i = c.loop-word.word-index in
    let inside : (get_or c.args.row.now i none).place < length c.loop-word.set = omega (arith, c.requires i none c.loop-word-test.true, c.loop-word.auto.set) in
    let small : (get_or c.args.row.now i none).bits < 2 ^ 64 = search rules in
    row_cleared c.loop-word.set c.args.row.now i none x c.loop-word-test.true inside small ∙ c.loop-word.invariant x

pub returns : goal.returns
returns c x = row_done c.loop-word.set c.args.row.now c.loop-word.word-index x c.loop-word-test.false ∙ c.loop-word.invariant x
