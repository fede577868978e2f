use Rattle.std.proofs.Common.{◌∙◌}
use Rattle.dlx_reader.specs.Lines.{words_of}
use Rattle.dlx_reader.proofs.AnswerReads.{count_fault}
use Rattle.dlx_reader.proofs.answer_head.head_before.Goals as goal

pub returns-in-Some-clause-fault : goal.returns-in-Some-clause-fault
returns-in-Some-clause-fault c = count_fault (words_of c.args.line.now) c.in-Some.head c.args.further c.in-Some.ensures.head (λ same. c.if-lines-further.true (c.lines.ensures ∙ same))
