use Rattle.std.proofs.Common.{◌≡◌, ◌++◌, take}
use Rattle.std.specs.List.{flat_map}
use Rattle.reason_engine.specs.ReasonText.{case_text}
use Rattle.reason_engine.proofs.text.push_list.Given as goal

abbrev pub invariant-loop-case : goal.invariant-loop-case
invariant-loop-case l = l.text.items ≡ l.fn.text.items ++ flat_map (case_text l.problem) (take l.case-index l.list)
