use Rattle.std.proofs.Common.{length, sym, ap, ◌∙◌, arith}
use Rattle.node_core.proofs.Again.{all_given, gives_to_next, whole_given}
use Rattle.node_core.proofs.site_state.SiteState.give_again.Goals as goal
use Rattle.node_core.specs.SiteView.{View}
use Rattle.spawn_frame.specs.Tables.{is_out}
use Rattle.spawn_frame.specs.Units.{Table}
use Rattle.steal_return.proofs.Scans.{next_is, none_next, passes_from}

pub returns-in_default : goal.returns-in_default
returns-in_default c =
    let own = c.args.self.now.own in
    let seen = ap (λ (t : Table). t.own) c.table-table.ensures.table ∙ ap (λ (v : View). v.own) c.self.view_is in
    let found = sym (ap (passes_from is_out c.loop-from.from) seen) ∙ sym c.next_out.ensures ∙ c.in_default.is in
    record {
      ok = all_given c.args.out.now c.loop-from.out c.args.self.now.site own c.loop-from.from c.loop-from.invariant.within
          (none_next is_out own c.loop-from.from c.loop-from.from found) c.loop-from.invariant.sent;
      err = tt;
    }

pub give_one_again-requires : goal.give_one_again-requires
give_one_again-requires c =
    let own = c.args.self.now.own in
    let seen = ap (λ (t : Table). t.own) c.table-table.ensures.table ∙ ap (λ (v : View). v.own) c.self.view_is in
    let next = next_is is_out own c.loop-from.from c.in-Some.serial (sym (ap (passes_from is_out c.loop-from.from) seen) ∙ sym c.next_out.ensures ∙ c.in-Some.is) in
    next.within

pub overflow_add-from : goal.overflow_add-from
overflow_add-from c =
    let own = c.args.self.now.own in
    let seen = ap (λ (t : Table). t.own) c.table-table.ensures.table ∙ ap (λ (v : View). v.own) c.self.view_is in
    let next = next_is is_out own c.loop-from.from c.in-Some.serial (sym (ap (passes_from is_out c.loop-from.from) seen) ∙ sym c.next_out.ensures ∙ c.in-Some.is) in
    omega (arith, next.within, ap length seen, c.issued-issued.ensures.issued)

pub loop-from-smaller : goal.loop-from-smaller
loop-from-smaller c =
    let own = c.args.self.now.own in
    let seen = ap (λ (t : Table). t.own) c.table-table.ensures.table ∙ ap (λ (v : View). v.own) c.self.view_is in
    let next = next_is is_out own c.loop-from.from c.in-Some.serial (sym (ap (passes_from is_out c.loop-from.from) seen) ∙ sym c.next_out.ensures ∙ c.in-Some.is) in
    omega (arith, next.within, next.behind)

pub loop-from-preserved : goal.loop-from-preserved
loop-from-preserved c =
    let own = c.args.self.now.own in
    let seen = ap (λ (t : Table). t.own) c.table-table.ensures.table ∙ ap (λ (v : View). v.own) c.self.view_is in
    let next = next_is is_out own c.loop-from.from c.in-Some.serial (sym (ap (passes_from is_out c.loop-from.from) seen) ∙ sym c.next_out.ensures ∙ c.in-Some.is) in
    record {
      within = omega (arith, next.within);
      sent = gives_to_next c.args.out.now c.loop-from.out c.give_one_again.new.out c.args.self.now.site own c.loop-from.from c.in-Some.serial
          next c.loop-from.invariant.sent c.in_ok-give_one_again.ensures.ok;
    }

pub returns : goal.returns
returns c =
    let size = ap (λ (t : Table). length t.own) c.table-table.ensures.table ∙ ap (λ (v : View). length v.own) c.self.view_is in
    record {
      ok = whole_given c.args.out.now c.loop-from.out c.args.self.now.site c.args.self.now.own c.loop-from.from
          (omega (arith, size, c.issued-issued.ensures.issued, c.loop-from.invariant.within)) c.loop-from.invariant.sent;
      err = tt;
    }
