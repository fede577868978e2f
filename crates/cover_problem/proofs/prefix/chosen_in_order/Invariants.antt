use Rattle.std.proofs.Common.{◌≡◌, filter}
use Rattle.std.specs.List.{range_with_len}
use Rattle.cover_problem.specs.Numbers.{is_in}
use Rattle.cover_problem.proofs.prefix.chosen_in_order.Given as goal

abbrev pub invariant-loop-option : goal.invariant-loop-option
invariant-loop-option l = l.options.items ≡ filter (λ o. is_in l.chosen o) (range_with_len 0 l.option-counter)
