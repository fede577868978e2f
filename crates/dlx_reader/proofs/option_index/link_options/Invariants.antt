use Rattle.std.proofs.Common.{◌≤◌, length}
use Rattle.dlx_reader.specs.OptionIndex.{IsIndexFrom, AreNext}
use Rattle.dlx_reader.proofs.option_index.link_options.Given as goal

abbrev pub invariant-loop-start : goal.invariant-loop-start
invariant-loop-start l = record {
  within : l.start ≤ length l.problem.options;
  next : AreNext l.problem l.start l.next.items;
  index : IsIndexFrom l.problem l.start l.lowest;
}

abbrev pub decreases-loop-start : goal.decreases-loop-start
decreases-loop-start l = l.start
