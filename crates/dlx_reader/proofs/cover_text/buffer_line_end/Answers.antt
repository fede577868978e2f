use Rattle.std.proofs.Common.{[], ◌∷◌}
use Rattle.std.specs.List.{flat_map}
use Rattle.dlx_reader.specs.Writing.{option_text}
use Rattle.dlx_reader.proofs.Buffered.{buffered_both}
use Rattle.dlx_reader.proofs.cover_text.buffer_line_end.Goals as goal

pub returns-clause-bytes : goal.returns-clause-bytes
returns-clause-bytes g c = buffered_both _ _ _ _ _ _ (10 ∷ []) (flat_map (option_text c.args.problem.now) c.args.options.now) c.buffer_options.result c.in_ok-buffer_bytes.ensures.bytes c.buffer_options.ensures.bytes
