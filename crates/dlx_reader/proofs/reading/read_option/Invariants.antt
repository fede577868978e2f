use Rattle.std.proofs.Common.{◌≡◌, ◌+◌, ◌<◌, ◌||◌, [], length}
use Rattle.std.specs.List.{All, list_any}
use Rattle.dlx_reader.specs.Lines.{words_of}
use Rattle.dlx_reader.specs.Occurrences.{has_colon}
use Rattle.dlx_reader.specs.Reading.{option_from}
use Rattle.dlx_reader.specs.Unknown.{unknown_in}
use Rattle.dlx_reader.proofs.reading.read_option.Given as goal

abbrev pub invariant-loop-word : goal.invariant-loop-word
invariant-loop-word l = record {
  reading : option_from l.line.number l.names l.primary l.items.items (words_of l.left) ≡ option_from l.line.number l.names l.primary [] (words_of l.line.text.now);
  known : unknown_in l.names (words_of l.left) ≡ unknown_in l.names (words_of l.line.text.now);
  below : All (λ i. i < l.bound) l.items.items;
  long : length l.items.items + length (words_of l.left) ≡ length (words_of l.line.text.now);
  colours : (l.has_colours || list_any has_colon (words_of l.left)) ≡ list_any has_colon (words_of l.line.text.now);
}

abbrev pub decreases-loop-word : goal.decreases-loop-word
decreases-loop-word l = length l.left
