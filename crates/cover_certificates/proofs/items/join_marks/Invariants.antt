use Rattle.std.proofs.Common.{◌≡◌, ℕ, length, nat_lt, ◌&&◌, ◌||◌}
use Rattle.cover_certificates.specs.Cases.{has_item}
use Rattle.cover_certificates.proofs.items.join_marks.Given as goal

abbrev pub invariant-loop-place : goal.invariant-loop-place
invariant-loop-place l = record {
  long : length l.marks ≡ length l.fn.marks;
  joined : (i : ℕ) → has_item l.marks i ≡ (has_item l.fn.marks i || (nat_lt i l.place && has_item l.other i));
}
