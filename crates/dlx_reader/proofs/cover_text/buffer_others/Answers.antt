use Rattle.std.proofs.Common.{◌+◌, ◌∙◌, ◌∷◌, drop, get_or}
use Rattle.std.proofs.lemmas.Result.{err_from_is_err_and}
use Rattle.std.specs.List.{zip}
use Rattle.dlx_reader.specs.Writing.{word_text, words_after}
use Rattle.dlx_reader.proofs.AnswerTexts.{words_step}
use Rattle.dlx_reader.proofs.Buffered.{buffering_on, buffering_fault}
use Rattle.dlx_reader.proofs.cover_text.buffer_others.Goals as goal

pub returns-in_err-buffer_behind-clause-bytes : goal.returns-in_err-buffer_behind-clause-bytes
returns-in_err-buffer_behind-clause-bytes g c =
    let p = c.args.problem.now in
    let is = c.args.items.now in
    let cs = c.args.colours.now in
    let k = c.loop-place.place in
    let returned = err_from_is_err_and c.from_residual.result c.from_residual.ensures.1 in
    let step = words_step p is cs k c.loop-place-test.true c.requires.long in
    rw returned.1 (buffering_fault _ _ _ _ _ (32 ∷ word_text p (get_or is k 0, get_or cs k 0)) (words_after p (zip (drop (k + 1) is) (drop (k + 1) cs))) (words_after p (zip is cs)) (rw step at c.loop-place.invariant.passing) c.in_err-buffer_behind.ensures.bytes)

pub loop-place-preserved : goal.loop-place-preserved
loop-place-preserved g c =
    let p = c.args.problem.now in
    let is = c.args.items.now in
    let cs = c.args.colours.now in
    let k = c.loop-place.place in
    let step = words_step p is cs k c.loop-place-test.true c.requires.long in
    record {
      passing = buffering_on _ _ _ _ _ _ (32 ∷ word_text p (get_or is k 0, get_or cs k 0)) (words_after p (zip (drop (k + 1) is) (drop (k + 1) cs))) (words_after p (zip is cs)) (rw step at c.loop-place.invariant.passing) c.in_ok-buffer_behind.ensures.bytes;
      failed = c.in_ok-buffer_behind.ensures.failed ∙ c.loop-place.invariant.failed;
    }
