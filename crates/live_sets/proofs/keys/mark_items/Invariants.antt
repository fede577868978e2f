use Rattle.std.proofs.Common.{◌≡◌, ℕ, ◌≤◌, true, false, length, take, get_or}
use Rattle.cover_problem.specs.Numbers.{is_in}
use Rattle.live_sets.proofs.keys.mark_items.Given as goal

abbrev pub invariant-loop-item : goal.invariant-loop-item
invariant-loop-item l = record {
  long : length l.keys ≡ length l.fn.keys;
  marked : (i : ℕ) → is_in (take l.item-index l.items) i ≡ true → 2147483648 ≤ get_or l.keys i 0;
  kept : (i : ℕ) → is_in (take l.item-index l.items) i ≡ false → get_or l.keys i 0 ≡ get_or l.fn.keys i 0;
}
