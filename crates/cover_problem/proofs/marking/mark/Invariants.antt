use Rattle.std.proofs.Common.{◌≡◌, take, length}
use Rattle.cover_problem.proofs.Marks.{AreMarked}
use Rattle.cover_problem.proofs.marking.mark.Given as goal

abbrev pub invariant-loop-place : goal.invariant-loop-place
invariant-loop-place l = record {
  long : length l.marks ≡ length l.fn.marks;
  each : AreMarked l.problem l.option (take l.place l.items) l.fn.marks l.marks;
}
