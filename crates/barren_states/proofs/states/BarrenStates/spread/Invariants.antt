use Rattle.std.proofs.Common.{◌≡◌}
use Rattle.barren_states.specs.States.{HoldsNoMore}
use Rattle.barren_states.proofs.states.BarrenStates.spread.Given as goal

abbrev pub invariant-loop-slot : goal.invariant-loop-slot
invariant-loop-slot l = record {
  width : l.self.width ≡ l.fn.self.width;
  slots : l.self.slots ≡ l.fn.self.slots;
  most : l.self.most ≡ l.fn.self.most;
  held : HoldsNoMore l.fn.self l.self;
}
