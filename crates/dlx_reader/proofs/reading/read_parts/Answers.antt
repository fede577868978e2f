use Rattle.std.proofs.Common.{◌≡◌, length, false, refl, sym, ◌∙◌}
use Rattle.std.specs.List.{list_any}
use Rattle.std.proofs.lemmas.Bool.{lt-ltb, le-ltb}
use Rattle.dlx_reader.specs.Faults.{is_illegal}
use Rattle.dlx_reader.proofs.Parts.{plain_word}
use Rattle.dlx_reader.proofs.reading.read_parts.Goals as goal

pub returns-then-word-gt-MOST_BYTES-clause-name : goal.returns-then-word-gt-MOST_BYTES-clause-name
returns-then-word-gt-MOST_BYTES-clause-name c _ =
    let legal : list_any is_illegal c.args.word.now ≡ false = sym c.has_illegal.ensures ∙ c.if-has_illegal.false in
    let plain = plain_word c.args.word.now legal in
    rw (plain.colon, plain.item, plain.colour, legal, lt-ltb 32 (length c.args.word.now) c.if-word-gt-MOST_BYTES.true) refl

pub returns-clause-name : goal.returns-clause-name
returns-clause-name c =
    let legal : list_any is_illegal c.args.word.now ≡ false = sym c.has_illegal.ensures ∙ c.if-has_illegal.false in
    let plain = plain_word c.args.word.now legal in
    rw (plain.colon, plain.item, plain.colour, legal, le-ltb 32 (length c.args.word.now) c.if-word-gt-MOST_BYTES.false) refl

pub returns-clause-colon : goal.returns-clause-colon
returns-clause-colon c = sym (plain_word c.args.word.now (sym c.has_illegal.ensures ∙ c.if-has_illegal.false)).colon
