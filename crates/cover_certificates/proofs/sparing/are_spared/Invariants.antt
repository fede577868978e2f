use Rattle.std.proofs.Common.{◌≡◌, ℕ, ◌<◌, true}
use Rattle.cover_problem.specs.Problem.{names_item}
use Rattle.option_sets.specs.Sets.{has}
use Rattle.cover_certificates.specs.Cases.{has_item}
use Rattle.cover_certificates.proofs.sparing.are_spared.Given as goal

abbrev pub invariant-loop-item : goal.invariant-loop-item
invariant-loop-item l = (i x : ℕ) → i < l.item → has_item l.items i ≡ true → names_item l.tables x i ≡ true → has l.live x ≡ true → has l.other x ≡ true
