use Rattle.std.proofs.lemmas.Result.{err_from_is_err_and}
use Rattle.dlx_reader.proofs.Buffered.{buffered_both, buffered_front}
use Rattle.dlx_reader.proofs.cover_text.buffer_two.Goals as goal

pub returns-in_err-buffer_bytes-clause-bytes : goal.returns-in_err-buffer_bytes-clause-bytes
returns-in_err-buffer_bytes-clause-bytes g c =
    let returned = err_from_is_err_and c.from_residual.result c.from_residual.ensures.1 in
    rw returned.1 (buffered_front _ _ _ c.args.first.now c.args.second.now c.in_err-buffer_bytes.ensures.bytes)

pub returns-clause-bytes : goal.returns-clause-bytes
returns-clause-bytes g c = buffered_both _ _ _ _ _ _ c.args.first.now c.args.second.now c.buffer_bytes-2.result c.in_ok-buffer_bytes.ensures.bytes c.buffer_bytes-2.ensures.bytes
