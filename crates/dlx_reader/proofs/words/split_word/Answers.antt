use Rattle.std.proofs.Common.{sym}
use Rattle.dlx_reader.proofs.Cuts.{to_end, words_none, words_last, words_on}
use Rattle.dlx_reader.proofs.words.split_word.Goals as goal

pub returns-in_err-word-clause-none : goal.returns-in_err-word-clause-none
returns-in_err-word-clause-none c = rw c.from_residual.ensures (words_none c.args.line.now (sym c.in_err-word.ensures.place))

pub returns-in-None-clause-some : goal.returns-in-None-clause-some
returns-in-None-clause-some c =
    let word = to_end c.args.line.now c.in_ok-word.field-0 in
    rw word (words_last c.args.line.now c.in_ok-word.field-0 (sym c.in_ok-word.ensures.place) (rw word at (sym c.in-None.ensures.place)))

pub returns-in-Some-clause-some : goal.returns-in-Some-clause-some
returns-in-Some-clause-some c =
    let word = to_end c.args.line.now c.in_ok-word.field-0 in
    rw (c.split_at.ensures.front, c.split_at.ensures.back, word) (words_on c.args.line.now c.in_ok-word.field-0 c.in-Some.end (sym c.in_ok-word.ensures.place) (rw word at (sym c.in-Some.ensures.place))).0

pub returns-in-Some-clause-shorter : goal.returns-in-Some-clause-shorter
returns-in-Some-clause-shorter c =
    let word = to_end c.args.line.now c.in_ok-word.field-0 in
    rw (c.split_at.ensures.back, word) (words_on c.args.line.now c.in_ok-word.field-0 c.in-Some.end (sym c.in_ok-word.ensures.place) (rw word at (sym c.in-Some.ensures.place))).1
