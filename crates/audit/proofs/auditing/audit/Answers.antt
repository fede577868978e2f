use Rattle.std.proofs.Common.{length, refl}
use Rattle.std.proofs.lemmas.Option.{slice_get_read}
use Rattle.audit.proofs.Staging.{all_merged, never_waits}
use Rattle.audit.proofs.auditing.audit.Goals as goal

pub returns-in-Some-least_left-clause-cause : goal.returns-in-Some-least_left-clause-cause
returns-in-Some-least_left-clause-cause g c =
    let books = c.args.books.now in
    let k = c.in-Some-least_left.k in
    let found = c.in-Some-least_left.ensures.some in
    let is = slice_get_read books (length books) k c.index-books-k.result refl found.0 c.index-books-k.is in (
      c.in_default.ensures.none,
      never_waits books c.merge.new.cursors.items c.deref.result.now k c.index-books-k.result c.site.result c.index.result.now c.deref.ensures.value
          c.merge.ensures.merge c.merge.ensures.stuck found.1 is c.site.ensures.site c.index.ensures,
    )

pub returns-clause-clean : goal.returns-clause-clean
returns-clause-clean g c =
    let books = c.args.books.now in
    let s = c.merge.ensures.merge in
    c.merged_books_are_a_run.ensures g.J.Run.run books s.merged c.are_of_run.ensures c.requires
    (all_merged books c.merge.new.cursors.items c.deref.result.now c.deref.ensures.value s c.in-None.ensures.none)
