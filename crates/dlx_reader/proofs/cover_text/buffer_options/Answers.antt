use Rattle.std.proofs.Common.{◌∙◌}
use Rattle.std.proofs.lemmas.Result.{err_from_is_err_and}
use Rattle.std.specs.List.{flat_map}
use Rattle.dlx_reader.specs.Writing.{option_text}
use Rattle.dlx_reader.proofs.AnswerTexts.{option_on, option_fault, others_are}
use Rattle.dlx_reader.proofs.cover_text.buffer_options.Goals as goal

pub returns-in_err-buffer_option-clause-bytes : goal.returns-in_err-buffer_option-clause-bytes
returns-in_err-buffer_option-clause-bytes g c =
    let returned = err_from_is_err_and c.from_residual.result c.from_residual.ensures.1 in
    rw returned.1 (option_fault c.args.problem.now _ _ _ _ _ c.loop-left.left.now _ c.loop-left.invariant.passing c.in-len1-up.len_at_least c.in_err-buffer_option.ensures.bytes)

pub loop-left-preserved : goal.loop-left-preserved
loop-left-preserved g c = record {
  passing = option_on c.args.problem.now _ _ _ _ _ _ c.loop-left.left.now (flat_map (option_text c.args.problem.now) c.args.options.now) c.loop-left.invariant.passing c.in-len1-up.len_at_least c.in_ok-buffer_option.ensures.bytes;
  are = others_are c.args.problem.now c.loop-left.left.now c.loop-left.invariant.are;
  failed = c.in_ok-buffer_option.ensures.failed ∙ c.loop-left.invariant.failed;
}
