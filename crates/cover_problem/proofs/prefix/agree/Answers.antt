use Rattle.std.proofs.Common.{sym, arith}
use Rattle.cover_problem.proofs.Clashes.{plain_apart, colourless_apart}
use Rattle.cover_problem.proofs.prefix.agree.Goals as goal
use Rattle.cover_problem.proofs.prefix.agree.Goals.{then-item-primary-via-then-item-primary, then-item-primary-via-else-item-primary+then-colour_names-eq0}

pub returns-then-item-primary : goal.returns-then-item-primary
returns-then-item-primary c =
    let p = c.args.problem.now in
    elim c.then-item-primary.branch [
      | then-item-primary-via-then-item-primary w ↦
          sym (plain_apart p c.args.first c.args.second c.args.item (omega (arith, w.if-item-primary.true, c.primary.ensures.count)))
      | then-item-primary-via-else-item-primary+then-colour_names-eq0 w ↦
          sym (colourless_apart p c.args.first c.args.second c.args.item c.primary.ensures.problem c.requires.first (omega (arith, w.if-colour_names-eq0.true, w.colour_names.ensures.count)))
    ]
