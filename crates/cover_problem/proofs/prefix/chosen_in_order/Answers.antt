use Rattle.std.proofs.Common.{sym, ap, ◌∙◌}
use Rattle.cover_problem.proofs.Ordered.{none_more_chosen, one_more_chosen}
use Rattle.cover_problem.proofs.prefix.chosen_in_order.Goals as goal
use Rattle.cover_problem.proofs.prefix.chosen_in_order.Goals.{then-contains+in_ok-push, else-contains}

pub loop-option-preserved : goal.loop-option-preserved
loop-option-preserved c =
    let chosen = c.args.chosen.now in
    let option = c.loop-option.option-counter in
    elim c.if-contains.branch [
      | then-contains+in_ok-push w ↦
          ap (λ v. v.items) w.options-is ∙ w.in_ok-push.ensures.items
          ∙ one_more_chosen chosen c.loop-option.options.items option (sym c.contains.ensures.value ∙ w.if-contains.true) c.loop-option.invariant
      | else-contains w ↦
          ap (λ v. v.items) w.options-is
          ∙ none_more_chosen chosen c.loop-option.options.items option (sym c.contains.ensures.value ∙ w.if-contains.false) c.loop-option.invariant
    ]
