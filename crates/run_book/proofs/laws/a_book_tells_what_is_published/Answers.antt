use Rattle.run_book.proofs.Answering.{book_tells}
use Rattle.run_book.proofs.laws.a_book_tells_what_is_published.Goals as goal

pub returns : goal.returns
returns c = λ run book limit last at ends. book_tells run book limit last at ends
