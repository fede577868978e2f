use Rattle.std.proofs.Common.{◌≡◌, map}
use Rattle.std.specs.List.{range_with_len}
use Rattle.cover_certificates.specs.Tables.{options_naming}
use Rattle.cover_certificates.proofs.tables.all_options_naming.Given as goal

abbrev pub invariant-loop-item : goal.invariant-loop-item
invariant-loop-item l = l.lists.items ≡ map (options_naming l.problem) (range_with_len 0 l.item)
