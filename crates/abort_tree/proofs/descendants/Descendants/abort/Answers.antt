use Rattle.std.proofs.Common.{◌≡◌, ◌∙◌, ◌+◌, ◌++◌, append-nil, append_assoc, ap, arith, drop, get_or, length, length-append, slice_get, subst, sym, true}
use Rattle.spawn_frame.specs.Aborts.{AbortsBelow, reached}
use Rattle.spawn_frame.specs.Units.{Table, change_at, table_own}
use Rattle.abort_tree.specs.Below.{abort_if, aborted, out_of, outs_from}
use Rattle.abort_tree.proofs.Lists.{has_marks, next_serial}
use Rattle.abort_tree.proofs.Reaching.{aborts_marked}
use Rattle.abort_tree.proofs.Steps.{far_first, far_last, far_later, far_there, outs_first, outs_last, outs_later}
use Rattle.abort_tree.proofs.descendants.Descendants.abort.Goals as goal

pub loop-serial-init : goal.loop-serial-init
loop-serial-init c =
    let marks = c.args.self.now in
    let own = c.args.table.now.own in
    let serials = c.deref-serial-items.result.now in
    let has = has_marks c.self.inside.issued c.self.inside.serials.items serials marks c.self.invariant c.self.view_is c.deref-serial-items.ensures.value in
    let outs = outs_first marks serials has own c.requires.marks in
    record {
      own = ap (table_own c.args.table.now) (far_first marks serials has own c.requires.marks);
      list = ap (λ outs. c.args.list.now.items ++ outs) outs;
      room = omega (arith, ap length outs, c.requires.room);
    }

pub abort_at-requires : goal.abort_at-requires
abort_at-requires c =
    let marks = c.args.self.now in
    let own = c.args.table.now.own in
    let serials = c.deref-serial-items.result.now in
    let i = c.loop-serial.serial-index in
    let k = get_or serials i 0 in
    let next = next_serial (length marks) serials (i + 1) in
    let has = has_marks c.self.inside.issued c.self.inside.serials.items serials marks c.self.invariant c.self.view_is c.deref-serial-items.ensures.value in
    let step = outs_later marks serials has own c.requires.marks i c.loop-serial-test.true in
    let same : slice_get c.loop-serial.table.own k ≡ slice_get own k = ap (λ t. slice_get t.own k) c.loop-serial.invariant.own ∙ far_there marks serials has own c.requires.marks i c.loop-serial-test.true in
    omega (arith, c.loop-serial.invariant.room, ap length step, ap (λ e. length (out_of true k e)) same, length-append (out_of true k (slice_get own k)) (outs_from next (drop next marks) (drop next own)))

pub loop-serial-preserved : goal.loop-serial-preserved
loop-serial-preserved c =
    let marks = c.args.self.now in
    let own = c.args.table.now.own in
    let serials = c.deref-serial-items.result.now in
    let i = c.loop-serial.serial-index in
    let k = get_or serials i 0 in
    let next = next_serial (length marks) serials (i + 1) in
    let rest = outs_from next (drop next marks) (drop next own) in
    let has = has_marks c.self.inside.issued c.self.inside.serials.items serials marks c.self.invariant c.self.view_is c.deref-serial-items.ensures.value in
    let step = outs_later marks serials has own c.requires.marks i c.loop-serial-test.true in
    let same : slice_get c.loop-serial.table.own k ≡ slice_get own k = ap (λ t. slice_get t.own k) c.loop-serial.invariant.own ∙ far_there marks serials has own c.requires.marks i c.loop-serial-test.true in
    record {
      own = c.abort_at.ensures.table ∙ ap (λ (t : Table). table_own t (change_at (abort_if true) t.own k)) c.loop-serial.invariant.own
          ∙ ap (table_own c.args.table.now) (far_later marks serials has own c.requires.marks i c.loop-serial-test.true);
      list = ap (λ outs. outs ++ rest) c.abort_at.ensures.list ∙ append_assoc c.loop-serial.list.items (out_of true k (slice_get c.loop-serial.table.own k)) rest
          ∙ ap (λ e. c.loop-serial.list.items ++ (out_of true k e ++ rest)) same ∙ ap (λ outs. c.loop-serial.list.items ++ outs) (sym step) ∙ c.loop-serial.invariant.list;
      room = omega (arith, c.loop-serial.invariant.room, ap length step, ap (λ e. length (out_of true k e)) same, length-append (out_of true k (slice_get own k)) rest, c.abort_at.ensures.len, c.abort_at.ensures.room);
    }

-- the table when all are done
done : (g : goal.After-loop-serial) → g.loop-serial.table ≡ table_own g.args.table.now (aborted g.args.self.now g.args.table.now.own)
done c =
    let marks = c.args.self.now in
    let own = c.args.table.now.own in
    let serials = c.deref-serial-items.result.now in
    let has = has_marks c.self.inside.issued c.self.inside.serials.items serials marks c.self.invariant c.self.view_is c.deref-serial-items.ensures.value in
    c.loop-serial.invariant.own ∙ ap (table_own c.args.table.now) (far_last marks serials has own c.requires.marks c.loop-serial.serial-index (omega (arith, c.loop-serial-test.false)))

pub returns-clause-table : goal.returns-clause-table
returns-clause-table c = done c

pub returns-clause-below : goal.returns-clause-below
returns-clause-below c = λ top are. subst (AbortsBelow top c.args.table.now.own) (sym (ap (λ (t : Table). t.own) (done c))) (aborts_marked top c.args.table.now.own c.args.self.now are)

pub returns-clause-list : goal.returns-clause-list
returns-clause-list c =
    let marks = c.args.self.now in
    let own = c.args.table.now.own in
    let serials = c.deref-serial-items.result.now in
    let has = has_marks c.self.inside.issued c.self.inside.serials.items serials marks c.self.invariant c.self.view_is c.deref-serial-items.ensures.value in
    sym (append-nil c.loop-serial.list.items)
    ∙ ap (λ outs. c.loop-serial.list.items ++ outs) (sym (outs_last marks serials has own c.requires.marks c.loop-serial.serial-index (omega (arith, c.loop-serial-test.false))))
    ∙ c.loop-serial.invariant.list
    ∙ ap (λ (t : Table). c.args.list.now.items ++ reached 0 own t.own) (sym (done c))
