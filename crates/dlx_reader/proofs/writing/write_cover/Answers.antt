use Rattle.dlx_reader.specs.Writing.{cover_text}
use Rattle.dlx_reader.proofs.Buffered.{written_end}
use Rattle.dlx_reader.proofs.writing.write_cover.Goals as goal

pub returns-clause-bytes : goal.returns-clause-bytes
returns-clause-bytes g c = written_end c.buffer_cover.new.buffer _ _ _ (cover_text c.args.problem.now c.args.options.now) c.write_bytes.result (rw c.new-buffer.ensures at c.in_ok-buffer_cover.ensures.bytes) (rw c.as_slice.ensures at c.write_bytes.ensures.bytes)
