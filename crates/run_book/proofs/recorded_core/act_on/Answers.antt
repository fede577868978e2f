use Rattle.std.proofs.Common.{rules, arith, ◌≡◌, ◌≤◌, ◌++◌, ◌∷◌, [], length, ap, ◌∙◌}
use Rattle.run_book.specs.RecordedCores.{prefix_in, room_for}
use Rattle.run_book.proofs.recorded_core.act_on.Goals as goal

pub copied_reply-requires-clause-fits : goal.copied_reply-requires-clause-fits
copied_reply-requires-clause-fits g c =
    let fits : length (prefix_in c.in-Ok.done.reply) ≤ room_for c.args.prepared.event = c.requires.fits _ _ _ c.in-Ok.ensures.acts in
    omega (arith, fits, c.args.prepared.wide)
