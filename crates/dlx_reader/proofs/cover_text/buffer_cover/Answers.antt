use Rattle.std.proofs.Common.{◌≡◌, ◌∙◌, length, ◌++◌, ◌∷◌, codes}
use Rattle.std.specs.Fmt.{decimal}
use Rattle.std.proofs.lemmas.Result.{err_from_is_err_and}
use Rattle.std.specs.List.{flat_map}
use Rattle.dlx_reader.specs.Writing.{option_text}
use Rattle.dlx_reader.proofs.Buffered.{buffered_both, buffered_front}
use Rattle.dlx_reader.proofs.cover_text.buffer_cover.Goals as goal

pub returns-in_err-buffer_two-clause-bytes : goal.returns-in_err-buffer_two-clause-bytes
returns-in_err-buffer_two-clause-bytes g c =
    let returned = err_from_is_err_and c.from_residual.result c.from_residual.ensures.1 in
    let text : c.as_bytes-count.result.now ≡ decimal (length c.args.options.now) = c.as_bytes-count.ensures.value ∙ c.format.ensures.text in
    rw returned.1 (buffered_front _ _ _ (codes "cover " ++ decimal (length c.args.options.now)) (10 ∷ flat_map (option_text c.args.problem.now) c.args.options.now) (rw text at c.in_err-buffer_two.ensures.bytes))

pub returns-clause-bytes : goal.returns-clause-bytes
returns-clause-bytes g c =
    let text : c.as_bytes-count.result.now ≡ decimal (length c.args.options.now) = c.as_bytes-count.ensures.value ∙ c.format.ensures.text in
    buffered_both _ _ _ _ _ _ (codes "cover " ++ decimal (length c.args.options.now)) (10 ∷ flat_map (option_text c.args.problem.now) c.args.options.now) c.buffer_line_end.result (rw text at c.in_ok-buffer_two.ensures.bytes) c.buffer_line_end.ensures.bytes
