use Rattle.std.proofs.Common.{sym, ◌∙◌, arith}
use Rattle.std.proofs.lemmas.List.{at_drop_all}
use Rattle.spawn_frame.specs.Guests.{open_of}
use Rattle.spawn_frame.specs.Works.{first_wanted}
use Rattle.spawn_frame.proofs.Opened.{first_here, first_later, first_open}
use Rattle.spawn_frame.proofs.guests.Guests.first.Goals as goal

pub returns-then-is_wanted : goal.returns-then-is_wanted
returns-then-is_wanted c =
    first_here c.args.wanted (open_of c.args.self.now) c.loop-place.place c.open_guest-guest.result.now c.open_guest-guest.ensures (sym c.is_wanted.ensures ∙ c.if-is_wanted.true)
    ∙ c.loop-place.invariant ∙ first_open c.args.wanted c.args.self.now

pub loop-place-preserved : goal.loop-place-preserved
loop-place-preserved c =
    first_later c.args.wanted (open_of c.args.self.now) c.loop-place.place c.open_guest-guest.result.now c.open_guest-guest.ensures (sym c.is_wanted.ensures ∙ c.if-is_wanted.false)
    ∙ c.loop-place.invariant

pub returns : goal.returns
returns c =
    sym (at_drop_all (first_wanted c.args.wanted) (open_of c.args.self.now) c.loop-place.place (omega arith))
    ∙ c.loop-place.invariant ∙ first_open c.args.wanted c.args.self.now
