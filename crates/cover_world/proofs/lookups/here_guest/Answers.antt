use Rattle.std.proofs.Common.{option_map, sym, ap, ◌∙◌}
use Rattle.cover_world.proofs.HereGuests.{here_found, here_passed}
use Rattle.cover_world.specs.Views.{guest_job}
use Rattle.cover_world.proofs.lookups.here_guest.Goals as goal

pub returns-then-is_here : goal.returns-then-is_here
returns-then-is_here c =
    sym
    (ap (option_map guest_job)
    (sym c.loop-place.invariant ∙ here_found c.args.table.now.guests c.loop-place.place _ c.guest-guest.ensures (sym c.if-is_here.ensures)))

pub loop-place-preserved : goal.loop-place-preserved
loop-place-preserved c =
    here_passed c.args.table.now.guests c.loop-place.place _ c.guest-guest.ensures (sym c.if-is_here.ensures) ∙ c.loop-place.invariant
