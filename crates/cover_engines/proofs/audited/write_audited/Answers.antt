use Rattle.std.proofs.Common.{subst, List, ℕ, option_map, ◌∙◌}
use Rattle.std.proofs.lemmas.Result.{err_from_is_err_and}
use Rattle.cover_engines.specs.Audit.{finding_line, finding_status}
use Rattle.search_engines.specs.Output.{IsOutput, published_said, said}
use Rattle.cover_engines.proofs.Outputs.{output_both, stopped_before}
use Rattle.cover_engines.proofs.audited.write_audited.Goals as goal

pub returns-clause-output : goal.returns-clause-output
returns-clause-output g c =
    let found = c.args.found in
    let now = g.W.Write.contents c.write_published.new.sink in
    let new = g.W.Write.contents c.write_line.new.sink in
    let Writes : List ℕ → ℕ → Type 0 = λ text status. IsOutput (said text status) now new c.write_line.result in
    let text = c.as_bytes.ensures.value ∙ c.in-Ok.ensures.line in
    let line = subst (Writes (finding_line found)) c.status_of.ensures (subst (λ (t : List ℕ). Writes t c.status_of.result) text c.write_line.ensures.output) in
    output_both (published_said c.args.problem.now (option_map (λ answer. answer.now) c.args.published)) (finding_line found) (finding_status found)
    (g.W.Write.contents c.args.sink.now) now new c.in_ok-status.status c.write_line.result c.in_ok-status.ensures.output line c.write_line.ensures.fault

pub returns-in_err-status-clause-output : goal.returns-in_err-status-clause-output
returns-in_err-status-clause-output g c =
    let published = published_said c.args.problem.now (option_map (λ answer. answer.now) c.args.published) in
    let returned = err_from_is_err_and c.from_residual.result c.from_residual.ensures.1 in
    rw (returned.1, returned.2) (stopped_before published (finding_line c.args.found) (finding_status c.args.found published.status)
    (g.W.Write.contents c.args.sink.now) (g.W.Write.contents c.write_published.new.sink) c.in_err-status.field-0.0 c.in_err-status.ensures.output)
