use Rattle.std.proofs.Common.{◌≡◌, ◌+◌, length, sym, ap, subst, ◌∙◌, arith}
use Rattle.std.proofs.lemmas.List.{with_items_is}
use Rattle.implied_clauses.proofs.Adding.{AreBelow, go_on, all_below}
use Rattle.implied_clauses.proofs.items.item_clauses.Goals as goal

pub loop-option-preserved : goal.loop-option-preserved
loop-option-preserved c =
    let p = c.args.problem.now in
    let option = c.loop-option.option in
    let clauses = c.loop-option.clauses in
    let added = c.add_option.new.clauses in
    let same : c.deref_mut.result.now ≡ clauses.items = c.deref_mut.ensures.value in
    subst (AreBelow p (option + 1)) (sym (with_items_is clauses added (c.add_option.ensures.long ∙ ap length same ∙ sym clauses.ok.0)))
    (go_on p option c.deref_mut.result.now added (subst (AreBelow p option) (sym same) c.loop-option.invariant) c.add_option.ensures.long c.in_ok-add_option.ensures.each)

pub returns : goal.returns
returns c =
    let p = c.args.problem.now in
    let clauses = c.loop-option.clauses.items in
    let last : c.loop-option.option ≡ length p.options = omega (arith, c.loop-option-test.false, c.loop-option.auto.option-end, c.options-option-end.ensures.count) in
    all_below p clauses (subst (λ n. AreBelow p n clauses) last c.loop-option.invariant)
