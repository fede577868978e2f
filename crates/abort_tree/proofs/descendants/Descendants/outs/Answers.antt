use Rattle.std.proofs.Common.{◌+◌, ap, arith, drop, get_or, length, length-append, slice_get, true}
use Rattle.abort_tree.specs.Below.{out_of, outs_from}
use Rattle.abort_tree.proofs.Aborting.{out_fewer}
use Rattle.abort_tree.proofs.Lists.{has_marks, next_serial}
use Rattle.abort_tree.proofs.Steps.{outs_first, outs_last, outs_later}
use Rattle.abort_tree.proofs.descendants.Descendants.outs.Goals as goal

pub loop-serial-init : goal.loop-serial-init
loop-serial-init c =
    let marks = c.args.self.now in
    let serials = c.deref-serial-items.result.now in
    let has = has_marks c.self.inside.issued c.self.inside.serials.items serials marks c.self.invariant c.self.view_is c.deref-serial-items.ensures.value in
    record { all = omega (arith, ap length (outs_first marks serials has c.args.table.now.own c.requires)); few = omega arith }

pub overflow_add-count : goal.overflow_add-count
overflow_add-count c =
    let k = get_or c.deref-serial-items.result.now c.loop-serial.serial-index 0 in
    omega (arith, c.loop-serial.invariant.few, c.loop-serial-test.true, c.outs_at-count.ensures, out_fewer k true (slice_get c.args.table.now.own k), c.deref-serial-items.ensures.len, c.self.inside.serials.small)

pub loop-serial-preserved : goal.loop-serial-preserved
loop-serial-preserved c =
    let marks = c.args.self.now in
    let own = c.args.table.now.own in
    let serials = c.deref-serial-items.result.now in
    let i = c.loop-serial.serial-index in
    let k = get_or serials i 0 in
    let next = next_serial (length marks) serials (i + 1) in
    let has = has_marks c.self.inside.issued c.self.inside.serials.items serials marks c.self.invariant c.self.view_is c.deref-serial-items.ensures.value in
    let step = outs_later marks serials has own c.requires i c.loop-serial-test.true in
    record {
      all = omega (arith, c.loop-serial.invariant.all, ap length step, length-append (out_of true k (slice_get own k)) (outs_from next (drop next marks) (drop next own)), c.outs_at-count.ensures);
      few = omega (arith, c.loop-serial.invariant.few, c.outs_at-count.ensures, out_fewer k true (slice_get own k));
    }

pub returns : goal.returns
returns c =
    let marks = c.args.self.now in
    let own = c.args.table.now.own in
    let serials = c.deref-serial-items.result.now in
    let has = has_marks c.self.inside.issued c.self.inside.serials.items serials marks c.self.invariant c.self.view_is c.deref-serial-items.ensures.value in
    omega (arith, c.loop-serial.invariant.all, ap length (outs_last marks serials has own c.requires c.loop-serial.serial-index (omega (arith, c.loop-serial-test.false))))
