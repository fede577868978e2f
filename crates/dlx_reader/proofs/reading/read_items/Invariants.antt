use Rattle.std.proofs.Common.{◌≡◌, ◌≤◌, [], false, length}
use Rattle.dlx_reader.specs.Lines.{words_of}
use Rattle.dlx_reader.specs.Reading.{items_from}
use Rattle.dlx_reader.proofs.reading.read_items.Given as goal

abbrev pub invariant-loop-word : goal.invariant-loop-word
invariant-loop-word l = record {
  reading : items_from l.line.number l.names l.divided (words_of l.left) ≡ items_from l.line.number [] false (words_of l.line.text.now);
  few : length l.names ≤ 1000;
}

abbrev pub decreases-loop-word : goal.decreases-loop-word
decreases-loop-word l = length l.left
