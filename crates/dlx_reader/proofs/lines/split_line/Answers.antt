use Rattle.std.proofs.Common.{sym, ◌+◌}
use Rattle.dlx_reader.proofs.Cuts.{to_end, lines_last, lines_on}
use Rattle.dlx_reader.proofs.lines.split_line.Goals as goal

pub returns-in-None-clause-lines : goal.returns-in-None-clause-lines
returns-in-None-clause-lines c = lines_last c.args.text.now (sym c.in-None.ensures.place)

pub returns-in-Some-clause-lines : goal.returns-in-Some-clause-lines
returns-in-Some-clause-lines c = rw (to_end c.args.text.now (c.in-Some.end + 1)) (lines_on c.args.text.now c.in-Some.end (sym c.in-Some.ensures.place))
