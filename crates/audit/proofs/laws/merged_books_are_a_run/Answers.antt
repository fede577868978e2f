use Rattle.audit.proofs.Safe.{merged_are_safe}
use Rattle.audit.proofs.laws.merged_books_are_a_run.Goals as goal

pub returns : goal.returns
returns c = λ run books merged all distinct w.
    merged_are_safe c.safe_over_every_run.ensures.safe (record { site = c.steps_keep_the_site.ensures.site; nodes = c.steps_keep_the_site.ensures.nodes })
    c.a_book_tells_what_is_published.ensures run books merged all distinct w
