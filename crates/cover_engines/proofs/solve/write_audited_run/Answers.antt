use Rattle.std.proofs.Common.{◌≡◌, ap, subst, sym, Option, option_map}
use Rattle.cover_problem.specs.Problem.{Problem}
use Rattle.cover_problem.specs.declared.answer.Answer.{Answer}
use Rattle.run_book.specs.Runs.{IsRunEnd}
use Rattle.run_book.specs.Sites.{RunName}
use Rattle.cover_engines.specs.Audit.{audited_said}
use Rattle.search_engines.specs.Output.{IsOutput}
use Rattle.cover_engines.proofs.Checked.{found_of}
use Rattle.cover_engines.proofs.Findings.{audited_output}
use Rattle.cover_engines.proofs.solve.write_audited_run.Goals as goal

pub returns-clause-output : goal.returns-clause-output
returns-clause-output g c =
    let run = g.J.Run.run in
    let answer = c.in_ok-end.end.answer in
    let books = c.deref.result.now in
    let found = c.audit-found.result in
    let old = g.W.Write.contents c.args.sink.now in
    let new = g.W.Write.contents c.write_audited.new.sink in
    let problem : c.args.task.problem.now ≡ run.problem = sym (ap (λ (r : RunName). r.problem) c.requires.run) in
    let shown : option_map (λ answer. answer.now) c.as_ref.result ≡ answer = c.as_ref.ensures.value in
    let end : IsRunEnd run answer books = subst (IsRunEnd run answer) (sym c.deref.ensures.value) c.in_ok-end.ensures.run_end in
    let Writes : Problem → Option Answer → Type 0 = λ problem answer. IsOutput (audited_said problem answer found) old new c.write_audited.result in
    let written = subst (λ (p : Problem). Writes p answer) problem (subst (Writes c.args.task.problem.now) shown c.write_audited.ensures.output) in
    audited_output run answer books found old new c.write_audited.result end
    (found_of c.a_book_tells_what_is_published.ensures run answer books found end c.audit-found.ensures.clean c.audit-found.ensures.complete c.audit-found.ensures.cause)
    c.write_audited.ensures.starved written
