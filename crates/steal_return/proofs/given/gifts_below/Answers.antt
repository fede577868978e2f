use Rattle.std.proofs.Common.{[], ◌∷◌, ◌++◌, sym, ◌∙◌}
use Rattle.std.proofs.lemmas.List.{map_more}
use Rattle.steal_return.proofs.given.gifts_below.Goals as goal
use Rattle.spawn_frame.specs.Gifts.{sibling_gift}

pub loop-sibling-preserved : goal.loop-sibling-preserved
loop-sibling-preserved c =
    c.in_ok-push.ensures.items
    ∙ (λ i. c.loop-sibling.invariant i ++ c.in_ok-gift.ensures i ∷ [])
    ∙ sym (map_more (sibling_gift c.args.prefix.now) c.args.siblings.now c.loop-sibling.sibling-index _ c.loop-sibling-test.true)
