use Rattle.run_book.proofs.Counted.{answer_right}
use Rattle.run_book.proofs.laws.what_is_published_counts_right.Goals as goal

pub returns : goal.returns
returns c = λ run book at is. answer_right run book at is
