use Rattle.std.proofs.Common.{◌∷◌, ◌++◌, ◌∙◌, ap}
use Rattle.std.proofs.lemmas.Result.{on_ok_weaker}
use Rattle.std.specs.Fmt.{decimal}
use Rattle.std.specs.Prelude.{codes}
use Rattle.reason_engine.specs.ReasonText.{lines_text}
use Rattle.reason_engine.proofs.Lines.{four_pieces}
use Rattle.reason_engine.proofs.text.push_weights.Goals as goal

pub returns : goal.returns
returns c =
    on_ok_weaker c.push_lines.result
    (λ e. four_pieces c.args.text.now.items (codes "weights modulo") (32 ∷ decimal c.args.weights.now.modulus) (codes "\n") (lines_text c.args.problem.now (codes "weigh") c.args.weights.now.list)
    c.extend_from_slice.new.self.items c.push_number.new.text.items c.extend_from_slice-2.new.self.items c.push_lines.new.text.items
    c.in_ok-extend_from_slice.ensures.items
    (c.in_ok-push_number.ensures ∙ ap (λ m. c.extend_from_slice.new.self.items ++ (32 ∷ decimal m)) c.modulus.ensures.modulus)
    c.in_ok-extend_from_slice-2.ensures.items
    (e ∙ ap (λ xs. c.extend_from_slice-2.new.self.items ++ lines_text c.args.problem.now (codes "weigh") xs) c.as_slice.ensures))
    c.push_lines.ensures
