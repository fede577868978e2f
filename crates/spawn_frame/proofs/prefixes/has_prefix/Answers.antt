use Rattle.std.proofs.Common.{sym, ◌∙◌}
use Rattle.spawn_frame.specs.Prefixes.{path_of}
use Rattle.spawn_frame.proofs.Compared.{other_longer, same_longer}
use Rattle.spawn_frame.proofs.prefixes.has_prefix.Goals as goal

pub upwards-preserved : goal.upwards-preserved
upwards-preserved c =
    c.upwards.invariant
    ∙ same_longer (path_of c.args.own.now c.args.guests.now c.upwards.at) (path_of c.args.own.now c.args.guests.now c.in-Longer.parent) c.upwards.left.now c.in-Some.before.now c.in-Longer.option c.in-Some.last.now
    c.in-Longer.ensures.path c.in-Some.ensures.cases.0 c.if-last-option.true

pub returns-in_default : goal.returns-in_default
returns-in_default c =
    sym (c.upwards.invariant
    ∙ other_longer (path_of c.args.own.now c.args.guests.now c.upwards.at) (path_of c.args.own.now c.args.guests.now c.in-Longer.parent) c.upwards.left.now c.in-Some.before.now c.in-Longer.option c.in-Some.last.now
    c.in-Longer.ensures.path c.in-Some.ensures.cases.0 c.if-last-option.false)
