use Rattle.std.proofs.Common.{◌≡◌, length, take}
use Rattle.run_key.specs.Codes.{padded}
use Rattle.run_key.proofs.run_key.changed.Given as goal

abbrev pub invariant-loop-place : goal.invariant-loop-place
invariant-loop-place l = record {
  many : length l.changed ≡ 64;
  so_far : take l.place l.changed ≡ padded l.by (take l.place l.key);
}
