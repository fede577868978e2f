use Rattle.std.proofs.Common.{◌≡◌, IfNone, IfSome, ap, subst, sym, ◌∙◌}
use Rattle.std.proofs.lemmas.Option.{same_Some}
use Rattle.spawn_frame.specs.Frames.{frame, frame_result}
use Rattle.spawn_frame.specs.Inlets.{frame_hearing}
use Rattle.spawn_frame.specs.Tables.{GivesResult}
use Rattle.spawn_frame.specs.declared.child_result.ChildResult.TheVariants.{Empty}
use Rattle.spawn_frame.proofs.Winners.{inlet_is, no_winner_empty, winner_gives}
use Rattle.spawn_frame.proofs.table.Table.winner.Goals as goal

pub returns-clause-cover : goal.returns-clause-cover
returns-clause-cover c =
    let own = c.args.self.now.own in
    let inlet = same_Some c.in-Some-inlet.inlet (frame_hearing c.args.unit own) (sym c.in-Some-inlet.is ∙ inlet_is c.args.self.now c.args.unit c.in-Some.work.now c.in-Some.ensures c.requires) in
    subst (λ o. IfSome o (GivesResult c.args.unit own)) (sym (c.winner.ensures ∙ ap (λ h. h.winner) inlet)) (winner_gives c.args.unit own)

pub returns-clause-empty : goal.returns-clause-empty
returns-clause-empty c =
    let own = c.args.self.now.own in
    let inlet = same_Some c.in-Some-inlet.inlet (frame_hearing c.args.unit own) (sym c.in-Some-inlet.is ∙ inlet_is c.args.self.now c.args.unit c.in-Some.work.now c.in-Some.ensures c.requires) in
    subst (λ o. IfNone o (IfSome (frame_result (frame c.args.unit own)) (λ came. came ≡ Empty))) (sym (c.winner.ensures ∙ ap (λ h. h.winner) inlet)) (no_winner_empty c.args.unit own)
