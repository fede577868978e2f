use Rattle.std.proofs.Common.{List, ℕ, subst, ◌∙◌}
use Rattle.cover_engines.proofs.Outputs.{output_both}
use Rattle.search_engines.specs.Output.{IsOutput, answer_said, said}
use Rattle.answer_engine.specs.Bases.{basis_text}
use Rattle.answer_engine.proofs.telling.write_with_basis.Goals as goal

pub returns-clause-output : goal.returns-clause-output
returns-clause-output g c =
    let now = g.W.Write.contents c.write_published.new.sink in
    let new = g.W.Write.contents c.write_line.new.sink in
    let won = c.args.won.now in
    let lines = basis_text c.args.problem.now won.basis in
    let Writes : List ℕ → Type 0 = λ text. IsOutput (said text c.in_ok-status.status) now new c.write_line.result in
    let behind = subst Writes (c.deref.ensures.value ∙ c.in-Ok.ensures) c.write_line.ensures.output in
    output_both (answer_said c.args.problem.now won.answer) lines (λ status. status) (g.W.Write.contents c.args.sink.now) now new c.in_ok-status.status c.write_line.result c.in_ok-status.ensures.output behind c.write_line.ensures.fault
