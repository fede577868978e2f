use Rattle.std.proofs.Common.{rules, ◌≡◌, Option, Some, IfSome, subst}
use Rattle.cover_problem.specs.declared.answer.Answer.{Answer}
use Rattle.run_book.specs.Answers.{book_answer}
use Rattle.run_book.specs.Books.{IsBook}
use Rattle.run_book.specs.Runs.{CountsRight}
use Rattle.run_book.proofs.book.Book.answer.Goals as goal

pub returns-in_ok-answer-in-Some-clause-counts_right : goal.returns-in_ok-answer-in-Some-clause-counts_right
returns-in_ok-answer-in-Some-clause-counts_right g c =
    let is : IsBook g.J.Run.run c.args.self.now = search rules in
    let told : book_answer g.J.Run.run.problem c.args.self.now.entries ≡ Some c.in_ok-answer-in-Some.answer = search rules in
    subst (λ (answer : Option Answer). IfSome answer (CountsRight g.J.Run.run.problem)) told
    (c.what_is_published_counts_right.ensures g.J.Run.run c.args.self.now c.requires.registry is)
