use Rattle.std.proofs.Common.{◌≡◌, ◌-◌, ◌<◌, ◌≤◌, ◌++◌, ℕ}
use Rattle.std.specs.List.{range_with_len}
use Rattle.abort_tree.proofs.descendants.push_children.Given as goal

abbrev pub invariant-loop-serial : goal.invariant-loop-serial
invariant-loop-serial l = record {
  items : l.serials.items ≡ l.fn.serials.items ++ range_with_len l.initial.serial (l.serial - l.initial.serial);
  first : l.initial.serial ≤ l.serial;
  within : (k : ℕ) → l.initial.serial ≤ k → k < l.serial → k < l.serial-end;
}
