use Rattle.std.proofs.Common.{◌≡◌, ◌+◌, drop}
use Rattle.live_sets.specs.Counting.{count_in}
use Rattle.live_sets.proofs.keys.count_row.Given as goal

abbrev pub invariant-loop-word : goal.invariant-loop-word
invariant-loop-word l = l.count + count_in (drop l.word-index l.row) l.live ≡ count_in l.row l.live
