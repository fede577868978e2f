use Rattle.std.proofs.Common.{◌≡◌, take}
use Rattle.dancing_links.specs.Keys.{least_from}
use Rattle.dancing_links.proofs.keys.least_after.Given as goal

abbrev pub invariant-loop-key : goal.invariant-loop-key
invariant-loop-key l = l.least ≡ least_from l.start (take l.key-index l.keys)
