use Rattle.std.proofs.Common.{◌≡◌, ℕ, ◌&&◌, not, take}
use Rattle.std.specs.List.{list_any}
use Rattle.cover_problem.specs.Problem.{items_of}
use Rattle.option_sets.specs.Sets.{has}
use Rattle.option_sets.specs.ClashTables.{clash_at}
use Rattle.option_sets.proofs.clash_tables.ClashTables.bar.Given as goal

abbrev pub invariant-loop-place : goal.invariant-loop-place
invariant-loop-place l = (x : ℕ) → has l.set x ≡ (has l.fn.set x && not (list_any (λ item. clash_at l.self l.option item x) (take l.place (items_of l.self l.option))))
