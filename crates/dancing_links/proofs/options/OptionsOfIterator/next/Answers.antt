use Rattle.std.proofs.Common.{◌≡◌, ◌∷◌, length, ap, arith, rules}
use Rattle.dancing_links.specs.Linking.{down_of}
use Rattle.dancing_links.specs.Walking.{options_left}
use Rattle.dancing_links.proofs.Views.{left_step}
use Rattle.dancing_links.proofs.options.OptionsOfIterator.next.Goals as goal

pub returns-clause-steps : goal.returns-clause-steps
returns-clause-steps c = left_step c.self.inside.layout.now c.self.inside.links.now c.self.inside.node c.option_at-option.result c.args.self.now c.tails.ensures.table c.self.invariant (omega (arith, c.if-self-tails.false, c.tails.ensures.tails)) c.option_at-option.ensures.option c.self.view_is

pub returns-clause-goes : goal.returns-clause-goes
returns-clause-goes c =
    let step : c.args.self.now ≡ c.option_at-option.result ∷ options_left c.self.inside.layout.now c.self.inside.links.now (down_of c.self.inside.links.now c.self.inside.node) =
    left_step c.self.inside.layout.now c.self.inside.links.now c.self.inside.node c.option_at-option.result c.args.self.now c.tails.ensures.table c.self.invariant (omega (arith, c.if-self-tails.false, c.tails.ensures.tails)) c.option_at-option.ensures.option c.self.view_is in
    let shorter = ap length step in
    search (rules, shorter)
