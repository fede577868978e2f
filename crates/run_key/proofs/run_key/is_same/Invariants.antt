use Rattle.std.proofs.Common.{◌≡◌, true, take}
use Rattle.run_key.proofs.run_key.is_same.Given as goal

abbrev pub invariant-loop-place : goal.invariant-loop-place
invariant-loop-place l = record {
  alike : l.same ≡ true → take l.place l.code ≡ take l.place l.other;
  back : take l.place l.code ≡ take l.place l.other → l.same ≡ true;
}
