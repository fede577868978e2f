use Rattle.std.proofs.Common.{length, ap, arith}
use Rattle.spawn_frame.specs.Guests.{open_of}
use Rattle.spawn_frame.proofs.Opened.{open_length}
use Rattle.spawn_frame.proofs.guests.Guests.open_count.Goals as goal

pub returns : goal.returns
returns c = omega (arith, ap length c.self.invariant, open_length c.self.inside.items.items, ap (λ l. length (open_of l)) c.self.view_is)
