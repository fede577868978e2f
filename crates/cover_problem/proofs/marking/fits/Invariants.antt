use Rattle.std.proofs.Common.{◌≡◌, drop, None, get_or}
use Rattle.std.specs.List.{list_all}
use Rattle.cover_problem.specs.Marks.{admits}
use Rattle.cover_problem.specs.Problem.{colour_of}
use Rattle.cover_problem.proofs.marking.fits.Given as goal

abbrev pub invariant-loop-place : goal.invariant-loop-place
invariant-loop-place l =
    list_all (λ item. admits (get_or l.marks item None) (colour_of l.problem l.option item)) (drop l.place l.items)
    ≡ list_all (λ item. admits (get_or l.marks item None) (colour_of l.problem l.option item)) l.items
