use Rattle.std.proofs.Common.{slice_get, sym, ap, subst, ◌∙◌}
use Rattle.spawn_frame.specs.Tables.{has_status, is_out}
use Rattle.spawn_frame.specs.Units.{change_at, redone, table_own}
use Rattle.spawn_frame.specs.Works.{IsTable, table_of}
use Rattle.spawn_frame.proofs.Redone.{redone_kept, redone_view}
use Rattle.spawn_frame.proofs.Statuses.{child_with}
use Rattle.spawn_frame.proofs.table.Table.redo.Goals as goal

pub invariant_of-self : goal.invariant_of-self
invariant_of-self c =
    let t = c.self.inside in
    let there = child_with is_out t.own c.args.serial (ap (λ v. has_status is_out (slice_get v.own c.args.serial)) c.self.view_is ∙ c.requires.out) in
    let set = c.redo.ensures in
    subst (λ own. IsTable (table_of t.site t.names_limit own t.guests) own t.guests) (sym set)
    (redone_kept t.site t.names_limit t.own t.guests c.self.invariant c.args.serial there)

pub returns : goal.returns
returns c =
    let t = c.self.inside in
    let there = child_with is_out t.own c.args.serial (ap (λ v. has_status is_out (slice_get v.own c.args.serial)) c.self.view_is ∙ c.requires.out) in
    let set = c.redo.ensures in
    ap (λ own. table_of t.site t.names_limit own t.guests) set
    ∙ redone_view t.site t.names_limit t.own t.guests c.args.serial
    ∙ ap (λ v. table_own v (change_at redone v.own c.args.serial)) c.self.view_is
