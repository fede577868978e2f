use Rattle.std.proofs.Common.{◌≡◌, ℕ, ◌<◌, slice_get, Some}
use Rattle.audit.specs.Cursors.{IsAmong}
use Rattle.run_book.specs.Entries.{Entry}
use Rattle.audit.proofs.put_out.is_put_out_before.Given as goal

abbrev pub invariant-loop-place : goal.invariant-loop-place
invariant-loop-place l = (i : ℕ) (entry : Entry) → i < l.place → slice_get l.entries i ≡ Some entry → IsAmong l.packet entry.packets → ⊥
