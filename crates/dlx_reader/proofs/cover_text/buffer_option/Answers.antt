use Rattle.std.proofs.Common.{[], ◌∷◌}
use Rattle.std.proofs.lemmas.Result.{err_from_is_err_and}
use Rattle.dlx_reader.specs.Writing.{words_text, occurrences_of}
use Rattle.dlx_reader.proofs.Buffered.{buffered_both, buffered_front}
use Rattle.dlx_reader.proofs.cover_text.buffer_option.Goals as goal

pub returns-in_err-buffer_words-clause-bytes : goal.returns-in_err-buffer_words-clause-bytes
returns-in_err-buffer_words-clause-bytes g c =
    let returned = err_from_is_err_and c.from_residual.result c.from_residual.ensures.1 in
    rw returned.1 (buffered_front _ _ _ (words_text c.args.problem.now (occurrences_of c.args.problem.now c.args.option)) (10 ∷ []) (rw (c.option-items.ensures.items, c.colours-colours.ensures.colours) at c.in_err-buffer_words.ensures.bytes))

pub returns-clause-bytes : goal.returns-clause-bytes
returns-clause-bytes g c =
    buffered_both _ _ _ _ _ _ (words_text c.args.problem.now (occurrences_of c.args.problem.now c.args.option)) (10 ∷ []) c.buffer_bytes.result (rw (c.option-items.ensures.items, c.colours-colours.ensures.colours) at c.in_ok-buffer_words.ensures.bytes) c.buffer_bytes.ensures.bytes
