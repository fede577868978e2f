use Rattle.std.proofs.Common.{◌<◌, ◌≤◌, length, sym, ◌∙◌, arith}
use Rattle.spawn_frame.specs.Tables.{is_out}
use Rattle.steal_return.proofs.Redoing.{redoable, unspent_onward, unspent_rest}
use Rattle.steal_return.proofs.Scans.{next_is, none_next}
use Rattle.steal_return.proofs.children.is_redoable.Goals as goal

pub returns-in_default : goal.returns-in_default
returns-in_default c =
    let own = c.args.table.now.own in
    let none = none_next is_out own c.loop-from.from c.loop-from.from (sym c.next_out.ensures ∙ c.in_default.is) in
    record {
      able = redoable _ own (λ k h. unspent_rest _ own c.loop-from.from none c.loop-from.invariant.none k);
      spent = tt;
    }

pub overflow_add-from : goal.overflow_add-from
overflow_add-from c =
    let next = next_is is_out c.args.table.now.own c.loop-from.from c.in-Some.serial (sym c.next_out.ensures ∙ c.in-Some.is) in
    omega (arith, next.within, c.issued-issued.ensures.issued)

pub loop-from-smaller : goal.loop-from-smaller
loop-from-smaller c =
    let next = next_is is_out c.args.table.now.own c.loop-from.from c.in-Some.serial (sym c.next_out.ensures ∙ c.in-Some.is) in
    omega (arith, next.within, next.behind)

pub loop-from-preserved : goal.loop-from-preserved
loop-from-preserved c =
    let own = c.args.table.now.own in
    let next = next_is is_out own c.loop-from.from c.in-Some.serial (sym c.next_out.ensures ∙ c.in-Some.is) in
    record {
      within = omega (arith, next.within);
      none = unspent_onward _ own c.loop-from.from c.in-Some.serial next.gap c.loop-from.invariant.none (sym c.if-is_spent.ensures);
    }

pub returns : goal.returns
returns c = record {
  able =
      let all : length c.args.table.now.own ≤ c.loop-from.from = omega (arith, c.issued-issued.ensures.issued) in
      redoable _ c.args.table.now.own
      (λ k h. let below : k < c.loop-from.from = omega (arith, h, all) in c.loop-from.invariant.none k below);
  spent = tt;
}
