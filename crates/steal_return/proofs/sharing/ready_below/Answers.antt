use Rattle.std.proofs.Common.{sym, subst, ◌∙◌, arith}
use Rattle.steal_return.proofs.Shares.{Found, walk_ends, walk_full, walk_passes, walk_starts, walk_takes}
use Rattle.steal_return.proofs.sharing.ready_below.Goals as goal
use Rattle.steal_return.proofs.sharing.ready_below.Goals.{then-is_ready, else-is_ready}

pub loop-serial-init : goal.loop-serial-init
loop-serial-init c =
    subst (Found c.args.parent c.args.table.now.own c.args.least c.args.least) (sym c.new-ready.ensures) (walk_starts c.args.parent c.args.table.now.own c.args.least c.requires.least)

pub loop-serial-preserved : goal.loop-serial-preserved
loop-serial-preserved c =
    let parent = c.args.parent in
    let own = c.args.table.now.own in
    let first = c.children-siblings.result.first in
    let end = c.children-siblings.result.end in
    let serial = c.loop-serial.serial in
    let ready = c.loop-serial.ready.items in
    elim c.if-is_ready.branch [
      | then-is_ready w ↦
          rw (w.ready-is, w.push.ensures.items)
          (walk_takes parent own first end c.args.least serial ready c.children-siblings.ensures c.requires.parent c.loop-serial.invariant c.loop-serial-test.true (omega (arith, c.len.ensures, c.if-len-lt-MOST_READY.true)) (sym c.is_ready.ensures ∙ w.if-is_ready.true))
      | else-is_ready w ↦
          rw w.ready-is
          (walk_passes parent own first end c.args.least serial ready c.children-siblings.ensures c.requires.parent c.loop-serial.invariant c.loop-serial-test.true (sym c.is_ready.ensures ∙ w.if-is_ready.false))
    ]

pub returns-else-len-lt-MOST_READY : goal.returns-else-len-lt-MOST_READY
returns-else-len-lt-MOST_READY c =
    walk_full c.args.parent c.args.table.now.own c.args.least c.loop-serial.serial c.loop-serial.ready.items c.loop-serial.invariant (omega (arith, c.len.ensures, c.if-len-lt-MOST_READY.false))

pub returns-after-loop-serial : goal.returns-after-loop-serial
returns-after-loop-serial c =
    walk_ends c.args.parent c.args.table.now.own c.children-siblings.result.first c.children-siblings.result.end c.args.least c.loop-serial.serial c.loop-serial.ready.items c.children-siblings.ensures c.loop-serial.invariant c.loop-serial-test.false
