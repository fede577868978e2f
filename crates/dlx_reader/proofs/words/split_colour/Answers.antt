use Rattle.std.proofs.Common.{◌+◌, sym}
use Rattle.dlx_reader.proofs.Cuts.{to_end}
use Rattle.dlx_reader.proofs.Parts.{no_colon, colon_none, colon_some}
use Rattle.dlx_reader.proofs.words.split_colour.Goals as goal

pub returns-in-None-clause-item : goal.returns-in-None-clause-item
returns-in-None-clause-item c = sym (no_colon c.args.word.now (colon_none c.args.word.now (sym c.in-None.ensures.place))).0

pub returns-in-None-clause-colour : goal.returns-in-None-clause-colour
returns-in-None-clause-colour c = sym (no_colon c.args.word.now (colon_none c.args.word.now (sym c.in-None.ensures.place))).1

pub returns-in-None-clause-colon : goal.returns-in-None-clause-colon
returns-in-None-clause-colon c = sym (colon_none c.args.word.now (sym c.in-None.ensures.place))

pub returns-in-Some-clause-item : goal.returns-in-Some-clause-item
returns-in-Some-clause-item c = sym (colon_some c.args.word.now c.in-Some.place (sym c.in-Some.ensures.place)).item

pub returns-in-Some-clause-colour : goal.returns-in-Some-clause-colour
returns-in-Some-clause-colour c = rw (to_end c.args.word.now (c.in-Some.place + 1)) (sym (colon_some c.args.word.now c.in-Some.place (sym c.in-Some.ensures.place)).colour)

pub returns-in-Some-clause-colon : goal.returns-in-Some-clause-colon
returns-in-Some-clause-colon c = sym (colon_some c.args.word.now c.in-Some.place (sym c.in-Some.ensures.place)).colon
