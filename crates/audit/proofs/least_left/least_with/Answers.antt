use Rattle.std.proofs.Common.{◌≡◌, ◌<◌, length, get_or, refl, sym, ap, ◌∙◌, subst, arith}
use Rattle.std.proofs.lemmas.Option.{same_Some, slice_get_read}
use Rattle.audit.proofs.Walking.{at_by, least_better, least_worse}
use Rattle.audit.specs.Audits.{site_before}
use Rattle.run_book.specs.Books.{Book}
use Rattle.audit.specs.Cursors.{IsLeastBelow}
use Rattle.audit.proofs.least_left.least_with.Goals as goal

pub returns-then-precedes : goal.returns-then-precedes
returns-then-precedes g c =
    let books = c.args.books.now in
    let least = subst (λ o. IsLeastBelow books c.args.cursors.now c.args.k o) c.in-Some.is c.requires.least in
    let h = at_by books c.args.cursors.now c.args.k c.index-books-k.result c.requires.each c.requires.within c.index-books-k.is in
    let other : least.1 ≡ c.index-books-other.result =
    same_Some _ _ (sym least.3 ∙ slice_get_read books (length books) c.in-Some.other c.index-books-other.result refl (omega (arith, least.0, c.requires.within)) c.index-books-other.is) in
    let more : get_or c.args.cursors.now c.args.k 0 < length c.index-books-k.result.entries = omega (arith, c.if-cursors-k.false, ap length c.entries.ensures) in
    least_better books c.args.cursors.now c.args.k c.index-books-k.result _ h.is h.at c.in-Some.other least more
    (ap (λ (x : Book). site_before c.index-books-k.result.site x.site) other ∙ sym c.precedes.ensures ∙ c.if-precedes.true)

pub returns-else-precedes : goal.returns-else-precedes
returns-else-precedes g c =
    let books = c.args.books.now in
    let least = subst (λ o. IsLeastBelow books c.args.cursors.now c.args.k o) c.in-Some.is c.requires.least in
    let h = at_by books c.args.cursors.now c.args.k c.index-books-k.result c.requires.each c.requires.within c.index-books-k.is in
    let other : least.1 ≡ c.index-books-other.result =
    same_Some _ _ (sym least.3 ∙ slice_get_read books (length books) c.in-Some.other c.index-books-other.result refl (omega (arith, least.0, c.requires.within)) c.index-books-other.is) in
    least_worse books c.args.cursors.now c.args.k c.index-books-k.result _ h.is h.at c.in-Some.other least
    (ap (λ (x : Book). site_before c.index-books-k.result.site x.site) other ∙ sym c.precedes.ensures ∙ c.if-precedes.false)
