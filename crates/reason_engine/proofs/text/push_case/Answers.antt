use Rattle.std.proofs.Common.{◌∷◌, ◌++◌, ◌∙◌, ap}
use Rattle.std.proofs.lemmas.Result.{on_ok_weaker}
use Rattle.std.specs.Fmt.{decimal}
use Rattle.std.specs.Prelude.{codes}
use Rattle.reason_engine.specs.ReasonText.{kind_text}
use Rattle.reason_engine.proofs.Lines.{four_pieces}
use Rattle.reason_engine.proofs.text.push_case.Goals as goal

pub returns : goal.returns
returns c =
    on_ok_weaker c.push_reason.result
    (λ e. four_pieces c.args.text.now.items (codes "option") (32 ∷ decimal c.args.case.now.option) (codes "\n") (kind_text c.args.problem.now c.args.case.now.reason)
    c.extend_from_slice.new.self.items c.push_number.new.text.items c.extend_from_slice-2.new.self.items c.push_reason.new.text.items
    c.in_ok-extend_from_slice.ensures.items (c.in_ok-push_number.ensures ∙ ap (λ n. c.extend_from_slice.new.self.items ++ (32 ∷ decimal n)) c.from.ensures) c.in_ok-extend_from_slice-2.ensures.items e)
    c.push_reason.ensures
