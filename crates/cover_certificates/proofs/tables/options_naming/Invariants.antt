use Rattle.std.proofs.Common.{◌≡◌, filter}
use Rattle.std.specs.List.{range_with_len}
use Rattle.cover_problem.specs.Problem.{names_item}
use Rattle.cover_certificates.proofs.tables.options_naming.Given as goal

abbrev pub invariant-loop-option : goal.invariant-loop-option
invariant-loop-option l = l.options.items ≡ filter (λ option. names_item l.problem option l.item) (range_with_len 0 l.option)
