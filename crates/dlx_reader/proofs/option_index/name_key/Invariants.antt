use Rattle.std.proofs.Common.{◌≡◌, ◌++◌, map, length}
use Rattle.dlx_reader.specs.Lines.{words_of}
use Rattle.dlx_reader.specs.OptionIndex.{colour_or_none, item_or_none}
use Rattle.dlx_reader.proofs.option_index.name_key.Given as goal

abbrev pub invariant-loop-word : goal.invariant-loop-word
invariant-loop-word l = record {
  items : l.key.items ++ map (item_or_none l.names) (words_of l.left) ≡ map (item_or_none l.names) (words_of l.line);
  colours : l.colours.items ++ map (colour_or_none l.colour_names) (words_of l.left) ≡ map (colour_or_none l.colour_names) (words_of l.line);
}

abbrev pub decreases-loop-word : goal.decreases-loop-word
decreases-loop-word l = length l.left
