use Rattle.std.proofs.Common.{◌≡◌, take, get_or, true, false, sym, ap, ◌∙◌, subst, ◌+◌}
use Rattle.std.proofs.lemmas.Bool.{both_ways, false_from_ne_true}
use Rattle.cover_problem.specs.Numbers.{is_in, is_distinct}
use Rattle.cover_problem.proofs.Repeats.{repeated}
use Rattle.implied_clauses.proofs.Adding.{AreAdded, add_more}
use Rattle.implied_clauses.proofs.items.add_option.Goals as goal

pub loop-item-preserved : goal.loop-item-preserved
loop-item-preserved c =
    let items = c.option-item-items.result.now in
    let place = c.loop-item.item-index in
    let distinct : is_distinct items ≡ true = ap is_distinct c.option-item-items.ensures.items ∙ c.requires.problem.each_distinct c.args.option _ c.requires.option in
    let fresh : is_in (take place items) (get_or items place 0) ≡ false = false_from_ne_true _ (λ twice. both_ways (is_distinct items) (repeated items place c.loop-item-test.true twice) distinct) in
    record {
      long = c.add_to_item.ensures.long ∙ c.loop-item.invariant.long;
      each = subst (AreAdded c.args.option (take (place + 1) items) c.args.clauses.now) (sym c.in_ok-add_to_item.ensures.added)
          (add_more c.args.option c.args.clauses.now c.loop-item.clauses items place c.loop-item-test.true c.loop-item.invariant.long fresh c.loop-item.invariant.each);
    }
