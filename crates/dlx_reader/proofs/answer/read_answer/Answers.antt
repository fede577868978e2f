use Rattle.dlx_reader.proofs.AnswerReads.{only_read}
use Rattle.dlx_reader.proofs.answer.read_answer.Goals as goal

pub returns-clause-only : goal.returns-clause-only
returns-clause-only c read is some = only_read c.args.text.now c.args.problem.now c.answer_of.result read c.answer_of.ensures.answer c.answer_of.ensures.fault some is
