use Rattle.std.proofs.Common.{[], ◌∷◌}
use Rattle.dlx_reader.specs.Writing.{word_text}
use Rattle.dlx_reader.proofs.Buffered.{buffered_both}
use Rattle.dlx_reader.proofs.cover_text.buffer_behind.Goals as goal

pub returns-clause-bytes : goal.returns-clause-bytes
returns-clause-bytes g c = buffered_both _ _ _ _ _ _ (32 ∷ []) (word_text c.args.problem.now (c.args.item, c.args.colour)) c.buffer_word.result c.in_ok-buffer_bytes.ensures.bytes c.buffer_word.ensures.bytes
