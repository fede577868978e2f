use Rattle.dlx_reader.proofs.AnswersAgain.{covers_again, none_again}
use Rattle.dlx_reader.proofs.answer_laws.written_answers_are_read.Goals as goal

pub returns : goal.returns
returns c = record { cover = covers_again; none = none_again }
