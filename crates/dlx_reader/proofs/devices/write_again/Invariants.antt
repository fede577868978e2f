use Rattle.std.specs.Io.KnownBytes.{Keeps}
use Rattle.dlx_reader.proofs.devices.write_again.Given as goal

abbrev pub invariant-loop : goal.invariant-loop
invariant-loop g l = Keeps (g.W.Write.contents l.fn.writer) (g.W.Write.contents l.writer)
