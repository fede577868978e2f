use Rattle.std.proofs.Common.{rules, length, subst, refl, arith}
use Rattle.std.proofs.lemmas.Option.{slice_get_read}
use Rattle.audit.proofs.Staging.{falls, kept_first, kept_next, next_fits}
use Rattle.audit.specs.Cursors.{IsStuck, Takes}
use Rattle.audit.proofs.merge.merge.Goals as goal

pub loop-k-init : goal.loop-k-init
loop-k-init g c = kept_first c.args.books.now c.args.cursors.now.items c.requires

pub overflow_add-index_mut : goal.overflow_add-index_mut
overflow_add-index_mut g c =
    let t = subst (λ cs. Takes c.args.books.now cs c.in-Some.k) c.deref.ensures.value c.in-Some.ensures.some.1 in
    let is = slice_get_read c.args.books.now (length c.args.books.now) c.in-Some.k c.index-books-k.result refl c.in-Some.ensures.some.0 c.index-books-k.is in
    let fits = next_fits c.args.books.now c.loop-k.cursors.items c.in-Some.k c.index_mut.result.now c.index-books-k.result t c.index_mut.ensures.value is in
    let less = fits (omega (arith, c.count-many.type_inv, c.count-many.ensures)) in
    search (rules, less)

pub loop-k-smaller : goal.loop-k-smaller
loop-k-smaller g c =
    falls c.args.books.now c.loop-k.cursors.items c.in-Some.k c.index_mut.result.now
    (subst (λ cs. Takes c.args.books.now cs c.in-Some.k) c.deref.ensures.value c.in-Some.ensures.some.1) c.index_mut.ensures.value

pub loop-k-preserved : goal.loop-k-preserved
loop-k-preserved g c =
    kept_next c.args.books.now c.loop-k.cursors.items c.in-Some.k c.index_mut.result.now c.loop-k.invariant
    (subst (λ cs. Takes c.args.books.now cs c.in-Some.k) c.deref.ensures.value c.in-Some.ensures.some.1) c.index_mut.ensures.value

pub returns-clause-stuck : goal.returns-clause-stuck
returns-clause-stuck g c = subst (λ cs. IsStuck c.args.books.now cs) c.deref.ensures.value c.in_default.ensures.none
