use Rattle.std.proofs.Common.{◌≡◌, ◌≤◌, length, take}
use Rattle.std.specs.List.{sum_by}
use Rattle.case_reasons.proofs.choosing.keeps_limit.Given as goal

abbrev pub invariant-loop-items : goal.invariant-loop-items
invariant-loop-items l = record {
  sum : l.count ≡ sum_by length (take l.items-index l.options);
  few : l.count ≤ 200000;
}
