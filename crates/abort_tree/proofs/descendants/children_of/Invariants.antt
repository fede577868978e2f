use Rattle.std.proofs.Common.{◌≡◌, [], take, true}
use Rattle.abort_tree.specs.Below.{Adds, is_among}
use Rattle.abort_tree.proofs.descendants.children_of.Given as goal

abbrev pub invariant-loop-unit : goal.invariant-loop-unit
invariant-loop-unit l = Adds (λ unit. is_among (take l.unit-index l.units) unit ≡ true) l.table.own [] l.serials.items
