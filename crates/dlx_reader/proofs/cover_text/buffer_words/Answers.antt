use Rattle.std.proofs.Common.{◌-◌, ◌<◌, ◌≤◌, length, drop, get_or, arith}
use Rattle.std.proofs.lemmas.Result.{err_from_is_err_and}
use Rattle.std.proofs.lemmas.List.Elements.{All-drop, All-take}
use Rattle.dlx_reader.specs.Writing.{word_text, words_after}
use Rattle.dlx_reader.proofs.AnswerTexts.{others_of, words_split}
use Rattle.dlx_reader.proofs.Buffered.{buffered_both, buffered_front}
use Rattle.dlx_reader.proofs.cover_text.buffer_words.Goals as goal

pub returns-in_err-buffer_word-in-len1-up-clause-bytes : goal.returns-in_err-buffer_word-in-len1-up-clause-bytes
returns-in_err-buffer_word-in-len1-up-clause-bytes g c =
    let p = c.args.problem.now in
    let is = c.args.items.now in
    let cs = c.args.colours.now in
    let returned = err_from_is_err_and c.from_residual.result c.from_residual.ensures.1 in
    let split = words_split p is cs c.in-len1-up.len_at_least (omega (arith, c.requires.long, c.in-len1-up.len_at_least)) in
    rw (returned.1, split) (buffered_front _ _ _ (word_text p (get_or is 0 0, get_or cs 0 0)) (words_after p (others_of is cs)) c.in_err-buffer_word-in-len1-up.ensures.bytes)

pub buffer_others-requires-clause-items : goal.buffer_others-requires-clause-items
buffer_others-requires-clause-items g c =
    let is = c.args.items.now in
    All-take (λ i. i < length c.args.problem.now.names) (length is - 1) (drop 1 is) (All-drop (λ i. i < length c.args.problem.now.names) 1 is c.requires.items)

pub buffer_others-requires-clause-colours : goal.buffer_others-requires-clause-colours
buffer_others-requires-clause-colours g c =
    let cs = c.args.colours.now in
    All-take (λ k. k ≤ length c.args.problem.now.colour_names) (length cs - 1) (drop 1 cs) (All-drop (λ k. k ≤ length c.args.problem.now.colour_names) 1 cs c.requires.colours)

pub returns-in_ok-buffer_word-in-len1-up-clause-bytes : goal.returns-in_ok-buffer_word-in-len1-up-clause-bytes
returns-in_ok-buffer_word-in-len1-up-clause-bytes g c =
    let p = c.args.problem.now in
    let is = c.args.items.now in
    let cs = c.args.colours.now in
    let split = words_split p is cs c.in-len1-up.len_at_least (omega (arith, c.requires.long, c.in-len1-up.len_at_least)) in
    rw split (buffered_both _ _ _ _ _ _ (word_text p (get_or is 0 0, get_or cs 0 0)) (words_after p (others_of is cs)) c.buffer_others.result c.in_ok-buffer_word-in-len1-up.ensures.bytes c.buffer_others.ensures.bytes)
