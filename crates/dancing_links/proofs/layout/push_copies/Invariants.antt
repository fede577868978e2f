use Rattle.std.proofs.Common.{◌≡◌, ◌++◌, replicate}
use Rattle.dancing_links.proofs.layout.push_copies.Given as goal

abbrev pub invariant-loop-copy : goal.invariant-loop-copy
invariant-loop-copy l = l.list.items ≡ l.fn.list.items ++ replicate l._copy l.number
