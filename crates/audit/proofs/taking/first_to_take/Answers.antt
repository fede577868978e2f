use Rattle.std.proofs.Common.{arith, sym, ◌∙◌, true≢false}
use Rattle.std.proofs.lemmas.Option.{slice_get_within}
use Rattle.audit.proofs.Walking.{up_to}
use Rattle.audit.specs.Cursors.{Takes}
use Rattle.audit.proofs.taking.first_to_take.Goals as goal

pub returns-then-takes-clause-some : goal.returns-then-takes-clause-some
returns-then-takes-clause-some g c = (c.loop-k-test.true, c.takes.ensures.sound c.if-takes.true)

pub loop-k-preserved : goal.loop-k-preserved
loop-k-preserved g c = λ all i l t.
    up_to (λ i. Takes c.args.books.now c.args.cursors.now i → ⊥) c.loop-k.k (λ i l. c.loop-k.invariant all i l)
    (λ t. true≢false (sym (c.takes.ensures.complete all t) ∙ c.if-takes.false)) i l t

pub returns-clause-none : goal.returns-clause-none
returns-clause-none g c = λ all k t. c.loop-k.invariant all k (omega (arith, slice_get_within c.args.books.now k t.book t.is, c.loop-k-test.false)) t
