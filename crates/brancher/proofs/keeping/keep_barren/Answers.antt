use Rattle.std.proofs.Common.{ℕ, List, ap, arith, length, slice_index}
use Rattle.brancher.proofs.Entering.{barren_kept}
use Rattle.brancher.proofs.keeping.keep_barren.Goals as goal

pub returns-in-Some-clause-barren : goal.returns-in-Some-clause-barren
returns-in-Some-clause-barren g c = λ are none noted.
    let now = g.B.Branching.choices c.args.state.now in
    let place = ap (λ (os : List ℕ). slice_index c.args.kept.now.entered (length os)) c.chosen.ensures.chosen in
    let told = c.in-Some.ensures in
    let note = noted (omega (arith, told.0, place)) in
    barren_kept now.problem c.args.kept.now.states c.keep.new.self.states now.chosen c.in-Some.visits c.problem.ensures.lawful are c.keep.ensures.states none (omega (arith, told.1, note, place))
