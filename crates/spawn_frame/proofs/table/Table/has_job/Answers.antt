use Rattle.std.proofs.Common.{bytes_eq, ap, ◌∙◌}
use Rattle.spawn_frame.specs.Prefixes.{path_of}
use Rattle.spawn_frame.specs.Tables.{prefix_in}
use Rattle.spawn_frame.specs.Units.{unit_of}
use Rattle.spawn_frame.proofs.Grown.{path_seen}
use Rattle.spawn_frame.proofs.Working.{at_work, job_tested}
use Rattle.spawn_frame.proofs.table.Table.has_job.Goals as goal

pub returns-then-is_here_at-clause-tested : goal.returns-then-is_here_at-clause-tested
returns-then-is_here_at-clause-tested c =
    let t = c.self.inside in
    let u = c.args.job.unit in
    let path = ap (λ gs. path_of t.own gs u) c.as_slice.ensures ∙ path_seen t.site t.names_limit t.own t.guests u ∙ ap (λ v. prefix_in (unit_of v u)) c.self.view_is in
    job_tested c.args.self.now u c.in-Some.work.now c.args.job.attempt c.args.prefix.now c.is_here_at.result c.has_prefix.result c.in-Some.ensures c.is_here_at.ensures c.if-is_here_at.true
    (c.has_prefix.ensures ∙ ap (λ l. bytes_eq l c.args.prefix.now) path)

pub returns-then-is_here_at-clause-at_work : goal.returns-then-is_here_at-clause-at_work
returns-then-is_here_at-clause-at_work c =
    at_work c.args.job.attempt c.args.prefix.now (unit_of c.args.self.now c.args.job.unit) c.has_prefix.result (returns-then-is_here_at-clause-tested c)
