use Rattle.std.proofs.Common.{◌≡◌, length}
use Rattle.std.specs.List.{flat_map}
use Rattle.cover_problem.specs.Prefix.{AreOptions}
use Rattle.dlx_reader.specs.Writing.{option_text}
use Rattle.dlx_reader.proofs.Buffered.{Passing}
use Rattle.dlx_reader.proofs.cover_text.buffer_options.Given as goal

abbrev pub invariant-loop-left : goal.invariant-loop-left
invariant-loop-left g l = record {
  passing : Passing l.fn.buffer l.buffer (g.W.Write.contents l.fn.sink) (g.W.Write.contents l.sink) (flat_map (option_text l.problem) l.left) (flat_map (option_text l.problem) l.options);
  are : AreOptions l.problem l.left;
  failed : g.W.Sink.failed l.sink ≡ g.W.Sink.failed l.fn.sink;
}

abbrev pub decreases-loop-left : goal.decreases-loop-left
decreases-loop-left g l = length l.left
