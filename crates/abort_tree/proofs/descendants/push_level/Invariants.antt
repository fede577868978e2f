use Rattle.std.proofs.Common.{◌<◌, ◌≤◌, ℕ, length}
use Rattle.abort_tree.specs.Below.{Adds, IsListed}
use Rattle.abort_tree.proofs.descendants.push_level.Given as goal

abbrev pub invariant-loop-place : goal.invariant-loop-place
invariant-loop-place l = record {
  added : Adds (IsListed l.first l.place l.fn.serials.items) l.table.own l.fn.serials.items l.serials.items;
  within : (i : ℕ) → l.first ≤ i → i < l.place → i < length l.fn.serials.items;
}
