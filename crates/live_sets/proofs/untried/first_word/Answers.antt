use Rattle.std.proofs.Common.{refl, arith, rules}
use Rattle.live_sets.proofs.Words.{first_word_at, word_passed}
use Rattle.live_sets.proofs.untried.first_word.Goals as goal

pub returns-then-bits-ne0 : goal.returns-then-bits-ne0
returns-then-bits-ne0 c =
    first_word_at c.args.row.now c.args.live.now c.loop-index.index (record { place = 0; bits = 0 }) _ c.requires (omega arith) refl refl refl (search rules) (omega arith) c.loop-index.invariant

pub loop-index-preserved : goal.loop-index-preserved
loop-index-preserved c =
    word_passed c.args.row.now c.args.live.now c.loop-index.index (record { place = 0; bits = 0 }) (omega arith) c.if-bits-ne0.false c.loop-index.invariant
