use Rattle.dlx_reader.proofs.Buffered.{buffered_behind}
use Rattle.dlx_reader.proofs.cover_text.buffer_bytes.Goals as goal

pub returns-clause-bytes : goal.returns-clause-bytes
returns-clause-bytes g c = buffered_behind c.args.buffer.now c.buffer_first.new.buffer _ _ _ c.args.bytes.now c.buffer_first.result c.in_ok-flush.ensures.bytes (rw c.in_ok-flush.ensures.none at c.buffer_first.ensures.bytes)
