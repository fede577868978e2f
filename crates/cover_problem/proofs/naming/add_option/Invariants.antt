use Rattle.std.proofs.Common.{◌≡◌, take, length}
use Rattle.cover_problem.proofs.Namings.{AreAdded}
use Rattle.cover_problem.proofs.naming.add_option.Given as goal

abbrev pub invariant-loop-place : goal.invariant-loop-place
invariant-loop-place l = record {
  long : length l.namings ≡ length l.fn.namings;
  each : AreAdded l.problem l.option (take l.place l.items) l.fn.namings l.namings;
}
