use Rattle.std.proofs.Common.{ℕ, Bool, sym, ap, ◌∙◌}
use Rattle.cover_problem.specs.Problem.{names_item}
use Rattle.cover_certificates.proofs.Named.{one_more_named, none_more_named}
use Rattle.cover_certificates.proofs.tables.options_naming.Goals as goal
use Rattle.cover_certificates.proofs.tables.options_naming.Goals.{then-names_item+in_ok-push, else-names_item}

pub loop-option-preserved : goal.loop-option-preserved
loop-option-preserved c =
    let named : ℕ → Bool = λ option. names_item c.args.problem.now option c.args.item in
    let option = c.loop-option.option in
    elim c.if-names_item.branch [
      | then-names_item+in_ok-push w ↦
          ap (λ v. v.items) w.options-is ∙ w.in_ok-push.ensures.items
          ∙ one_more_named named c.loop-option.options.items option (sym c.names_item.ensures ∙ w.if-names_item.true) c.loop-option.invariant
      | else-names_item w ↦
          ap (λ v. v.items) w.options-is
          ∙ none_more_named named c.loop-option.options.items option (sym c.names_item.ensures ∙ w.if-names_item.false) c.loop-option.invariant
    ]
