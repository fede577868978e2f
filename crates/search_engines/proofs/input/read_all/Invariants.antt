use Rattle.std.proofs.Common.{◌≡◌, ◌-◌, ◌^◌, vec_len}
use Rattle.std.specs.Io.KnownBytes.{Consumes}
use Rattle.search_engines.proofs.input.read_all.Given as goal

abbrev pub invariant-loop-text : goal.invariant-loop-text
invariant-loop-text g l = record {
  read : Consumes (g.R.Read.remaining l.fn.source) (g.R.Read.remaining l.source) l.text.items;
  failed : g.R.Source.failed l.source ≡ g.R.Source.failed l.fn.source;
}

abbrev pub decreases-loop-text : goal.decreases-loop-text
decreases-loop-text g l = 2 ^ 64 - vec_len l.text
