use Rattle.std.proofs.Common.{ℕ, ◌<◌, ◌^◌, get_or, arith, rules}
use Rattle.std.proofs.lemmas.Nat.{and_le_l}
use Rattle.option_sets.specs.declared.word.Word.{Word}
use Rattle.live_sets.proofs.Counted.{count_on, count_end, count_few}
use Rattle.live_sets.proofs.keys.count_row.Goals as goal

pub overflow_add-count : goal.overflow_add-count
overflow_add-count c =
    let w : Word = get_or c.args.row.now c.loop-word.word-index (record { place = 0; bits = 0 }) in
    let word : ℕ = get_or c.args.live.now w.place 0 in
    let fits : get_or c.args.live.now w.place 0 < 2 ^ 64 = search rules in
    let all = count_on c.args.live.now c.args.row.now c.loop-word.word-index (record { place = 0; bits = 0 }) c.loop-word.count c.requires.words (omega arith) (omega (arith, fits, and_le_l word w.bits)) c.loop-word.invariant in
    omega (arith, all, count_few c.args.row.now c.args.live.now, c.requires.small)

pub loop-word-preserved : goal.loop-word-preserved
loop-word-preserved c =
    let w : Word = get_or c.args.row.now c.loop-word.word-index (record { place = 0; bits = 0 }) in
    let word : ℕ = get_or c.args.live.now w.place 0 in
    let fits : get_or c.args.live.now w.place 0 < 2 ^ 64 = search rules in
    count_on c.args.live.now c.args.row.now c.loop-word.word-index (record { place = 0; bits = 0 }) c.loop-word.count c.requires.words (omega arith) (omega (arith, fits, and_le_l word w.bits)) c.loop-word.invariant

pub returns : goal.returns
returns c = count_end c.args.live.now c.args.row.now c.loop-word.word-index c.loop-word.count (omega arith) c.loop-word.invariant
