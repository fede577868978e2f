use Rattle.std.proofs.Common.{length, ap, sym, ◌∙◌}
use Rattle.std.proofs.lemmas.Result.{err_from_is_err_and}
use Rattle.dlx_reader.specs.Left.{worded_left}
use Rattle.dlx_reader.specs.Lines.{words_of}
use Rattle.dlx_reader.proofs.AnswerNames.{head_is, further_are}
use Rattle.dlx_reader.proofs.AnswerReads.{head_fault}
use Rattle.dlx_reader.proofs.answer.answer_of.Goals as goal

pub returns-in_err-head_before-clause-fault : goal.returns-in_err-head_before-clause-fault
returns-in_err-head_before-clause-fault c =
    let text = c.args.text.now in
    let first = c.in-Some.first in
    let others = worded_left c.take_worded.new.self in
    let lines = rw c.of-lines.ensures at c.in-Some.ensures.some.lines in
    let long = ap length (further_are text first.number (words_of first.text.now) others lines) ∙ sym c.count_worded.ensures in
    let returned = err_from_is_err_and c.from_residual.result c.from_residual.ensures.1 in
    rw (returned.1, returned.2)
    (λ some. head_fault text c.args.problem.now (words_of first.text.now) c.count_worded.result c.in_err-head_before.field-0.0 (head_is text first.number (words_of first.text.now) others lines) long c.in_err-head_before.ensures.fault)
