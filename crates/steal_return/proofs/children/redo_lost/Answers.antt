use Rattle.std.proofs.Common.{◌≡◌, length, sym, ap, ◌∙◌, arith}
use Rattle.spawn_frame.specs.Tables.{is_out}
use Rattle.spawn_frame.specs.Units.{table_own}
use Rattle.steal_return.proofs.Redoing.{redone_all, redone_below, redone_length, redone_none, redone_onward, redone_step, redone_whole, unspent_next}
use Rattle.steal_return.proofs.Scans.{next_is, none_next}
use Rattle.steal_return.proofs.children.redo_lost.Goals as goal
use Rattle.steal_return.specs.Steals.{is_older}

pub loop-from-init : goal.loop-from-init
loop-from-init c = record {
  within = omega arith;
  so_far = ap (table_own c.args.table.now) (sym (redone_none (is_older c.args.known.now) c.args.table.now.own));
}

pub returns-in_default : goal.returns-in_default
returns-in_default c =
    redone_whole (is_older c.args.known.now) c.args.table.now c.loop-from.table c.loop-from.from c.loop-from.invariant.within
    (none_next is_out c.loop-from.table.own c.loop-from.from c.loop-from.from (sym c.next_out.ensures ∙ c.in_default.is)) c.loop-from.invariant.so_far

pub redo_if_lost-requires : goal.redo_if_lost-requires
redo_if_lost-requires c =
    let next = next_is is_out c.loop-from.table.own c.loop-from.from c.in-Some.serial (sym c.next_out.ensures ∙ c.in-Some.is) in
    unspent_next (is_older c.args.known.now) c.args.table.now c.loop-from.table c.in-Some.serial c.requires
    (redone_onward (is_older c.args.known.now) c.args.table.now c.loop-from.table c.loop-from.from c.in-Some.serial next.behind next.gap c.loop-from.invariant.so_far)

pub overflow_add-from : goal.overflow_add-from
overflow_add-from c =
    let lost = is_older c.args.known.now in
    let next = next_is is_out c.loop-from.table.own c.loop-from.from c.in-Some.serial (sym c.next_out.ensures ∙ c.in-Some.is) in
    let size = ap (λ t. length t.own) c.loop-from.invariant.so_far ∙ redone_length lost c.loop-from.from c.args.table.now.own in
    omega (arith, next.within, size, c.issued-issued.ensures.issued)

pub loop-from-smaller : goal.loop-from-smaller
loop-from-smaller c =
    let lost = is_older c.args.known.now in
    let next = next_is is_out c.loop-from.table.own c.loop-from.from c.in-Some.serial (sym c.next_out.ensures ∙ c.in-Some.is) in
    let size = ap (λ t. length t.own) c.loop-from.invariant.so_far ∙ redone_length lost c.loop-from.from c.args.table.now.own in
    omega (arith, next.within, next.behind, size)

pub loop-from-preserved : goal.loop-from-preserved
loop-from-preserved c =
    let lost = is_older c.args.known.now in
    let next = next_is is_out c.loop-from.table.own c.loop-from.from c.in-Some.serial (sym c.next_out.ensures ∙ c.in-Some.is) in
    let size = ap (λ t. length t.own) c.loop-from.invariant.so_far ∙ redone_length lost c.loop-from.from c.args.table.now.own in
    record {
      within = omega (arith, next.within, size);
      so_far = redone_step lost c.args.table.now c.loop-from.table _ c.in-Some.serial
          (redone_onward lost c.args.table.now c.loop-from.table c.loop-from.from c.in-Some.serial next.behind next.gap c.loop-from.invariant.so_far) c.redo_if_lost.ensures;
    }

pub returns : goal.returns
returns c =
    let old = c.args.table.now in
    let whole : c.loop-from.from ≡ length old.own = omega (arith, c.issued-issued.ensures.issued, c.loop-from.invariant.within) in
    c.loop-from.invariant.so_far
    ∙ ap (λ n. table_own old (redone_below (is_older c.args.known.now) n old.own)) whole
    ∙ ap (table_own old) (redone_all (is_older c.args.known.now) old.own)
