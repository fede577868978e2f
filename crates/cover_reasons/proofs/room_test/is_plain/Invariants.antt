use Rattle.std.proofs.Common.{◌≡◌, drop, ◌==◌, ◌||◌}
use Rattle.std.specs.List.{list_all}
use Rattle.cover_problem.specs.Problem.{colour_of}
use Rattle.cover_reasons.specs.Room.{amount_of, is_plain}
use Rattle.cover_reasons.proofs.room_test.is_plain.Given as goal

abbrev pub invariant-loop-place : goal.invariant-loop-place
invariant-loop-place l =
    list_all (λ item. (amount_of l.rooms item == 0) || (colour_of l.problem l.option item == 0)) (drop l.place l.items) ≡ is_plain l.problem l.rooms l.option
