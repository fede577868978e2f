use Rattle.std.proofs.Common.{ℕ, List}
use Rattle.live_sets.specs.Counting.{IsLive, AreMarked}
use Rattle.live_sets.proofs.Keying.{AreCounted}
use Rattle.live_sets.proofs.keys.count_rows.Given as goal

abbrev pub invariant-loop-item : goal.invariant-loop-item
invariant-loop-item l = (prefix : List ℕ) → IsLive l.sets prefix l.live → AreMarked l.sets prefix l.fn.keys → AreCounted l.sets prefix l.keys l.item l.least
