use Rattle.std.proofs.Common.{length, ◌+◌, ◌-◌, arith, refl}
use Rattle.barren_states.proofs.Laid.{write_is}
use Rattle.barren_states.proofs.slot.write_slot.Goals as goal

pub returns : goal.returns
returns c = write_is c.args.start (length c.args.key.now) (c.args.start + length c.args.key.now - c.args.start) c.args.words.now c.copy_from_slice.new.self c.args.key.now c.args.visits refl (omega arith) c.copy_from_slice.ensures.after c.requires
