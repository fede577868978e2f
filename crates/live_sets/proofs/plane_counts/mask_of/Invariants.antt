use Rattle.std.proofs.Common.{◌≡◌, ℕ, ◌+◌, ◌<◌, ◌==◌, take}
use Rattle.std.specs.Int.{bit_at}
use Rattle.cover_problem.specs.Numbers.{is_in}
use Rattle.live_sets.proofs.plane_counts.mask_of.Given as goal

abbrev pub invariant-loop-item : goal.invariant-loop-item
invariant-loop-item l = (i : ℕ) → i < 64 → (bit_at l.mask i == 1) ≡ is_in (take l.item-index l.items) (l.first + i)
