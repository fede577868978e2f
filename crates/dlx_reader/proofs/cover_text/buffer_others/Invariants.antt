use Rattle.std.proofs.Common.{◌≡◌, drop}
use Rattle.std.specs.List.{zip}
use Rattle.dlx_reader.specs.Writing.{words_after}
use Rattle.dlx_reader.proofs.Buffered.{Passing}
use Rattle.dlx_reader.proofs.cover_text.buffer_others.Given as goal

abbrev pub invariant-loop-place : goal.invariant-loop-place
invariant-loop-place g l = record {
  passing : Passing l.fn.buffer l.buffer (g.W.Write.contents l.fn.sink) (g.W.Write.contents l.sink) (words_after l.problem (zip (drop l.place l.items) (drop l.place l.colours))) (words_after l.problem (zip l.items l.colours));
  failed : g.W.Sink.failed l.sink ≡ g.W.Sink.failed l.fn.sink;
}
