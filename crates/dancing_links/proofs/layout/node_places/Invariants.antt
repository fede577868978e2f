use Rattle.std.proofs.Common.{◌≡◌, map}
use Rattle.std.specs.List.{range_with_len}
use Rattle.dancing_links.specs.Table.{place_by}
use Rattle.dancing_links.proofs.layout.node_places.Given as goal

abbrev pub invariant-loop-node : goal.invariant-loop-node
invariant-loop-node l = l.places.items ≡ map (place_by l.items l.colours l.options l.first) (range_with_len 0 l.node)
