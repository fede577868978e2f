use Rattle.std.proofs.Common.{◌+◌, arith}
use Rattle.abort_tree.proofs.Walking.{walk_deepest, walk_start, walk_step, walk_whole}
use Rattle.abort_tree.proofs.descendants.push_below.Goals as goal

pub loop-level-init : goal.loop-level-init
loop-level-init c = λ top a. walk_start top c.args.table.now.own c.args.serials.now.items a

pub loop-level-preserved : goal.loop-level-preserved
loop-level-preserved c = λ top a.
    walk_step top c.args.table.now.own c.issued-level-end.ensures.parents.lower c.loop-level.first c.loop-level._level c.loop-level.serials.items (c.loop-level.invariant top a)
    c.push_level.new.serials.items c.len-end.result (c.loop-level._level + 1) (omega (arith, c.len-end.ensures)) (omega arith) c.in_ok-push_level.ensures

pub returns-then-first-end : goal.returns-then-first-end
returns-then-first-end c = λ top a.
    walk_whole top c.args.table.now.own c.loop-level.first c.loop-level._level c.loop-level.serials.items (c.loop-level.invariant top a) (omega (arith, c.len-end.ensures, c.if-first-end.true))

pub returns : goal.returns
returns c = λ top a.
    walk_deepest top c.args.table.now.own c.loop-level.first c.loop-level._level c.loop-level.serials.items (c.loop-level.invariant top a) (omega (arith, c.loop-level-test.false, c.issued-level-end.ensures.issued))
