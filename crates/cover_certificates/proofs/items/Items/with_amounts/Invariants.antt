use Rattle.std.proofs.Common.{◌≡◌, ℕ, ◌<◌, ◌==◌, length, not}
use Rattle.cover_reasons.specs.Room.{amount_of}
use Rattle.cover_certificates.specs.Cases.{has_item}
use Rattle.cover_certificates.proofs.items.Items.with_amounts.Given as goal

abbrev pub invariant-loop-place : goal.invariant-loop-place
invariant-loop-place l = record {
  long : length l.marks.items ≡ l.place;
  some : (i : ℕ) → i < l.place → has_item l.marks.items i ≡ not (amount_of l.amounts i == 0);
}
