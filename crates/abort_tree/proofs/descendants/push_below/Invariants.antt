use Rattle.std.proofs.Common.{◌≡◌, [], Bool, true}
use Rattle.spawn_frame.specs.declared.unit.Unit.{Unit as WorkUnit}
use Rattle.abort_tree.specs.Below.{Adds}
use Rattle.abort_tree.proofs.Walking.{Walked}
use Rattle.abort_tree.proofs.descendants.push_below.Given as goal

abbrev pub invariant-loop-level : goal.invariant-loop-level
invariant-loop-level l =
    (top : WorkUnit → Bool) → Adds (λ unit. top unit ≡ true) l.table.own [] l.fn.serials.items → Walked top l.table.own l.first l._level l.serials.items
