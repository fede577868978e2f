use Rattle.std.proofs.Common.{◌<◌, ◌^◌, rules}
use Rattle.cover_certificates.proofs.Spared.{word_spared}
use Rattle.cover_certificates.proofs.words.is_word_spared.Goals as goal

pub returns : goal.returns
returns c =
    let small : c.word_at-2.result < 2 ^ 64 = search rules in
    word_spared c.args.word.now.place c.args.word.now.bits c.word_at.result c.word_at-2.result c.args.live.now c.args.other.now small c.word_at.ensures c.word_at-2.ensures
