use Rattle.std.proofs.Common.{◌≡◌, ℕ, length, not, ◌&&◌, drop}
use Rattle.cover_problem.specs.Numbers.{is_in}
use Rattle.cover_certificates.specs.Cases.{has_item}
use Rattle.cover_certificates.proofs.items.clear_marks.Given as goal

abbrev pub invariant-loop-item : goal.invariant-loop-item
invariant-loop-item l = record {
  long : length l.marks ≡ length l.fn.marks;
  left : (i : ℕ) → (has_item l.marks i && not (is_in (drop l.item-index l.items) i)) ≡ (has_item l.fn.marks i && not (is_in l.items i));
}
