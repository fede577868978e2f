use Rattle.spawn_frame.proofs.Opened.{moved_more}
use Rattle.spawn_frame.proofs.guests.move_on.Goals as goal

pub loop-place-preserved : goal.loop-place-preserved
loop-place-preserved c = moved_more c.args.places.now c.loop-place.places c.loop-place.place-index c.loop-place-test.true c.loop-place.auto.places c.loop-place.invariant
