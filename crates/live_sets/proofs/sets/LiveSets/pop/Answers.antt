use Rattle.std.proofs.Common.{arith}
use Rattle.live_sets.specs.Rows.{AreRows, IsPopped}
use Rattle.live_sets.proofs.Choosing.{popped, seen}
use Rattle.live_sets.proofs.sets.LiveSets.pop.Goals as goal
use Rattle.live_sets.proofs.sets.LiveSets.pop.Goals.{After-pop-2}

last_of : (c : After-pop-2) → AreRows c.self.inside.sets.now c.pop.new.self.items c.pop-2.new.self.items c.self.inside.levels × IsPopped c.args.self.now c.index-option.result.now c.index-mark.result.now (seen c.self.inside.sets.now c.pop.new.self.items c.pop-2.new.self.items)
last_of c =
    let s = c.self.inside in
    popped s.sets.now s.chosen.items c.pop.new.self.items c.index-option.result.now s.marks.items c.pop-2.new.self.items c.index-mark.result.now s.levels c.len-last.result s.chosen.len s.marks.len c.args.self.now
    c.self.view_is c.requires c.self.invariant.0 c.len-last.ensures (omega (arith, s.chosen.ok.0)) (omega (arith, s.marks.ok.0)) c.index-option.ensures c.index-mark.ensures c.pop.ensures.rest c.pop-2.ensures.rest

pub invariant_of-self : goal.invariant_of-self
invariant_of-self c = ((last_of (goal.at.invariant_of-self c).After-pop-2).0, omega (arith, c.self.invariant.1, c.pop-2.ensures.capacity), omega (arith, c.self.invariant.2, c.pop.ensures.capacity))

pub returns : goal.returns
returns c = (last_of (goal.at.returns c).After-pop-2).1
