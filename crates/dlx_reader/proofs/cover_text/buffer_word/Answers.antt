use Rattle.std.proofs.lemmas.Result.{err_from_is_err_and}
use Rattle.dlx_reader.specs.Writing.{name_text, colour_behind}
use Rattle.dlx_reader.proofs.Buffered.{buffered_both, buffered_front}
use Rattle.dlx_reader.proofs.cover_text.buffer_word.Goals as goal

pub returns-in_err-buffer_bytes-clause-bytes : goal.returns-in_err-buffer_bytes-clause-bytes
returns-in_err-buffer_bytes-clause-bytes g c =
    let returned = err_from_is_err_and c.from_residual.result c.from_residual.ensures.1 in
    rw returned.1 (buffered_front _ _ _ (name_text c.args.problem.now c.args.item) (colour_behind c.args.problem.now c.args.colour) (rw c.name.ensures at c.in_err-buffer_bytes.ensures.bytes))

pub returns-clause-bytes : goal.returns-clause-bytes
returns-clause-bytes g c =
    buffered_both _ _ _ _ _ _ (name_text c.args.problem.now c.args.item) (colour_behind c.args.problem.now c.args.colour) c.buffer_colour.result (rw c.name.ensures at c.in_ok-buffer_bytes.ensures.bytes) c.buffer_colour.ensures.bytes
