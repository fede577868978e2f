use Rattle.std.proofs.Common.{ℕ, Option, arith, refl, sym, ap, ◌∙◌, subst}
use Rattle.choices.specs.Choices.{Choices, with_child}
use Rattle.live_sets.specs.declared.untried.Untried.{Untried}
use Rattle.live_sets.specs.Counting.{IsLive}
use Rattle.live_sets.specs.Rows.{IsTaken, IsUntried, untried_of}
use Rattle.live_sets.proofs.Choosing.{live_here, mark_leaves}
use Rattle.live_sets.proofs.Taking.{next_child, none_left}
use Rattle.live_sets.proofs.sets.LiveSets.take.Goals as goal
use Rattle.live_sets.proofs.sets.LiveSets.take.Goals.{After-untried}

live_now : (c : After-untried) → IsLive c.args.self.now.problem c.args.self.now.chosen c.live_at-live.result.now
live_now c =
    let s = c.self.inside in
    live_here s.sets.now s.chosen.items s.marks.items s.levels c.args.self.now c.len.result c.live_at-live.result.now c.self.view_is c.self.invariant.0 (omega (arith, s.chosen.ok.0, c.len.ensures)) c.live_at-live.ensures

left_now : (c : After-untried) (start : ℕ) → IsUntried c.args.self.now.problem c.args.self.now.chosen c.args.mark.item start (untried_of c.args.mark) → IsUntried c.args.self.now.problem c.args.self.now.chosen c.args.mark.item start c.untried.result
left_now c start is =
    let P : Untried → Type 0 = λ u. IsUntried c.args.self.now.problem c.args.self.now.chosen c.args.mark.item start u in
    subst P (sym c.untried.ensures) is

pub push-requires-clause-untried : goal.push-requires-clause-untried
push-requires-clause-untried c =
    let v : Choices = c.args.self.now in
    let at = (goal.at.push-requires-clause-untried c).After-untried in
    let next = next_child _ _ _ c.requires.0 _ _ _ _ (left_now at c.requires.0 c.requires.1) (live_now at) c.in_ok-option.ensures in
    mark_leaves v.problem v.chosen c.args.mark.item _ c.new.result _ c.new.ensures.item c.new.ensures.untried next.behind

pub returns-in_err-option : goal.returns-in_err-option
returns-in_err-option c start is =
    let v : Choices = c.args.self.now in
    let at = (goal.at.returns-in_err-option c).After-untried in
    let P : Option ℕ → Type 0 = λ r. IsTaken c.args.self.now c.args.mark.item start r c.args.self.now in
    subst P (sym c.from_residual.ensures) (record {
      first = none_left v.problem v.chosen c.args.mark.item start c.untried.result c.live_at-live.result.now (left_now at start is) (live_now at) c.in_err-option.ensures;
      child = tt;
      chosen = refl;
    })

pub returns : goal.returns
returns c start is =
    let at = (goal.at.returns c).After-untried in
    let next = next_child _ _ _ start _ _ _ _ (left_now at start is) (live_now at) c.in_ok-option.ensures in
    record { first = next.first; child = next.child; chosen = c.push.ensures ∙ ap (λ i. with_child c.args.self.now i c.in_ok-option.option) c.new.ensures.item }
