use Rattle.std.proofs.Common.{◌++◌, append-nil, drop, sym, ap, ◌∙◌, arith}
use Rattle.std.proofs.lemmas.List.{drop_all}
use Rattle.spawn_frame.specs.Tables.{open_guests, seen_guest}
use Rattle.steal_return.proofs.Dropping.{lost_open, walk_collects, walk_passes}
use Rattle.steal_return.specs.Members.{lost_units}
use Rattle.steal_return.proofs.guests.lost_guests.Goals as goal
use Rattle.steal_return.proofs.guests.lost_guests.Goals.{then-is_lost+in_ok-push, else-is_lost}

pub loop-place-preserved : goal.loop-place-preserved
loop-place-preserved c =
    let guest = seen_guest c.open_guest-guest.result in
    elim c.if-is_lost.branch [
      | then-is_lost+in_ok-push w ↦
          walk_collects c.args.known.now (open_guests c.args.table.now.guests) c.loop-place.place guest c.loop-place.lost.items c.if-is_lost.lost.items _
          c.open_guest-guest.ensures w.if-is_lost.ensures (ap (λ v. v.items) w.lost-is ∙ w.in_ok-push.ensures.items) c.loop-place.invariant
      | else-is_lost w ↦
          walk_passes c.args.known.now (open_guests c.args.table.now.guests) c.loop-place.place guest c.if-is_lost.lost.items _
          c.open_guest-guest.ensures w.if-is_lost.ensures (ap (λ v. v.items ++ lost_units c.args.known.now (drop c.loop-place.place (open_guests c.args.table.now.guests))) w.lost-is ∙ c.loop-place.invariant)
    ]

pub returns-clause-lost : goal.returns-clause-lost
returns-clause-lost c =
    let open_ones = open_guests c.args.table.now.guests in
    sym (append-nil c.loop-place.lost.items)
    ∙ ap (λ gs. c.loop-place.lost.items ++ lost_units c.args.known.now gs) (sym (drop_all c.loop-place.place open_ones (omega (arith, c.open_count-place-end.ensures.count))))
    ∙ c.loop-place.invariant ∙ lost_open c.args.known.now c.args.table.now.guests
