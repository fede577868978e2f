use Rattle.std.proofs.Common.{◌≡◌, ◌≤◌, length}
use Rattle.dlx_reader.specs.Left.{content_left}
use Rattle.dlx_reader.specs.Reading.{none_kept, options_from}
use Rattle.dlx_reader.specs.Unknown.{unknown_among}
use Rattle.dlx_reader.proofs.reading.read_options.Given as goal

abbrev pub invariant-loop-line : goal.invariant-loop-line
invariant-loop-line l = record {
  reading : options_from l.names l.primary l.kept (content_left l.lines) ≡ options_from l.names l.primary none_kept (content_left l.fn.lines);
  known : unknown_among l.names (content_left l.lines) ≡ unknown_among l.names (content_left l.fn.lines);
  ignored : l.kept.ignored ≤ l.lines.before;
}

abbrev pub decreases-loop-line : goal.decreases-loop-line
decreases-loop-line l = length (content_left l.lines)
