use Rattle.std.proofs.Common.{◌+◌, refl, subst, sym}
use Rattle.live_sets.specs.declared.untried.Untried.{Untried}
use Rattle.live_sets.specs.Rows.{IsUntried}
use Rattle.live_sets.proofs.Choosing.{next_choice}
use Rattle.live_sets.proofs.Taking.{none_untried}
use Rattle.live_sets.proofs.sets.LiveSets.choose_next.Goals as goal

pub returns-then-is_empty : goal.returns-then-is_empty
returns-then-is_empty c before item option e =
    let half = c.pop.new.self in
    let mark = c.pop.result.1 in
    let P : Untried → Type 0 = λ u. IsUntried half.problem half.chosen mark.item (c.pop.result.0 + 1) u in
    let left = subst P (sym c.untried.ensures) c.pop.ensures.untried in
    let none = none_untried half.problem half.chosen mark.item (c.pop.result.0 + 1) c.untried.result left (c.is_empty.ensures.bits c.if-is_empty.true) (c.is_empty.ensures.later c.if-is_empty.true) in
    next_choice c.args.self.now c.pop.new.self before c.pop.result.0 c.pop.result.1 item option _ c.pop.new.self e c.pop.ensures (record { first = none; child = tt; chosen = refl })

pub returns : goal.returns
returns c before item option e = next_choice c.args.self.now c.pop.new.self before c.pop.result.0 c.pop.result.1 item option c.take.result c.take.new.self e c.pop.ensures (c.take.ensures _ c.pop.ensures.untried)
