use Rattle.std.proofs.Common.{◌≡◌, None, drop}
use Rattle.packet_wire.specs.WellFormed.{are_siblings}
use Rattle.packet_wire.proofs.well_formed.are_siblings.Given as goal

abbrev pub invariant-loop-sibling : goal.invariant-loop-sibling
invariant-loop-sibling l = are_siblings l.last (drop l.sibling-index l.siblings) ≡ are_siblings None l.siblings
