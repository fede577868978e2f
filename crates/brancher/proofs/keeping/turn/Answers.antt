use Rattle.brancher.proofs.Stepping.{turned_end, turned_on}
use Rattle.brancher.proofs.keeping.turn.Goals as goal

pub returns-then-turn_onward-clause-step : goal.returns-then-turn_onward-clause-step
returns-then-turn_onward-clause-step g c = λ root fuel before may_stop same less are barren.
    let turned = c.turn_onward.ensures.turned root fuel same are barren in
    (turned.0, (less, turned_on root fuel c.args.kept.now.entered c.turn_onward.new.kept.entered (g.B.Branching.choices c.turn_onward.new.state) c.args.left c.turn_onward.result c.turn_onward.ensures.entered c.if-turn_onward.true turned.1))

pub returns-else-turn_onward-clause-step : goal.returns-else-turn_onward-clause-step
returns-else-turn_onward-clause-step g c = λ root fuel before may_stop same less are barren.
    let turned = c.turn_onward.ensures.turned root fuel same are barren in
    (turned.0, turned_end root fuel c.args.kept.now.entered (g.B.Branching.choices c.turn_onward.new.state) c.args.left c.turn_onward.result may_stop c.if-turn_onward.false turned.1)
