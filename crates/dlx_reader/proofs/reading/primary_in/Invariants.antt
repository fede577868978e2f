use Rattle.std.proofs.Common.{◌≡◌, ◌≤◌, ◌+◌, length}
use Rattle.dlx_reader.specs.Items.{primary_in}
use Rattle.dlx_reader.specs.Lines.{words_of}
use Rattle.dlx_reader.proofs.reading.primary_in.Given as goal

abbrev pub invariant-loop-word : goal.invariant-loop-word
invariant-loop-word l = record {
  primary : l.place + primary_in (words_of l.left) ≡ primary_in (words_of l.line);
  within : l.place + length l.left ≤ length l.line;
}

abbrev pub decreases-loop-word : goal.decreases-loop-word
decreases-loop-word l = length l.left
