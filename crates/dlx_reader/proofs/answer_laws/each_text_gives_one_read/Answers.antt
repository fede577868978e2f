use Rattle.dlx_reader.proofs.AnswerGiven.{read_given}
use Rattle.dlx_reader.proofs.AnswerReads.{read_same}
use Rattle.dlx_reader.proofs.answer_laws.each_text_gives_one_read.Goals as goal

pub returns : goal.returns
returns c = record { some = read_given; one = read_same }
