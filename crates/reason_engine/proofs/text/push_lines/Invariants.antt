use Rattle.std.proofs.Common.{◌≡◌, ◌++◌}
use Rattle.std.specs.List.{flat_map, range_with_len}
use Rattle.reason_engine.specs.ReasonText.{line_text}
use Rattle.reason_engine.proofs.text.push_lines.Given as goal

abbrev pub invariant-loop-item : goal.invariant-loop-item
invariant-loop-item l = l.text.items ≡ l.fn.text.items ++ flat_map (line_text l.problem l.word l.amounts) (range_with_len 0 l.item)
