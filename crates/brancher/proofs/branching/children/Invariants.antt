use Rattle.std.proofs.Common.{◌≡◌, ◌+◌, ◌≤◌, ◌++◌, length, vec_len, vec_capacity}
use Rattle.cover_problem.specs.Branching.{live_options}
use Rattle.brancher.proofs.branching.children.Given as goal

abbrev pub invariant-loop-option : goal.invariant-loop-option
invariant-loop-option l = record {
  items : l.list.items ++ l.option-iterator ≡ l.fn.list.items ++ live_options l.links.problem l.links.chosen l.item;
  room : vec_len l.list + length l.option-iterator ≤ vec_capacity l.list;
}
