use Rattle.std.proofs.Common.{◌≡◌, [], length, map}
use Rattle.dlx_reader.specs.Lines.{words_of}
use Rattle.dlx_reader.specs.Occurrences.{colour_part}
use Rattle.dlx_reader.specs.Reading.{colours_from}
use Rattle.dlx_reader.proofs.options.number_colours.Given as goal

abbrev pub invariant-loop-word : goal.invariant-loop-word
invariant-loop-word l = colours_from l.line.number l.names l.numbers.items (map colour_part (words_of l.left)) ≡ colours_from l.line.number l.fn.names [] (map colour_part (words_of l.line.text.now))

abbrev pub decreases-loop-word : goal.decreases-loop-word
decreases-loop-word l = length l.left
