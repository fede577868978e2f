use Rattle.std.proofs.Common.{arith, sym, subst}
use Rattle.choices.specs.Choices.{Choices}
use Rattle.live_sets.specs.Counting.{IsLive}
use Rattle.live_sets.specs.Rows.{IsUntried}
use Rattle.live_sets.proofs.Choosing.{live_here}
use Rattle.live_sets.proofs.Keyed.{key_of_live}
use Rattle.live_sets.proofs.Taking.{next_child, row_untried}
use Rattle.live_sets.proofs.sets.LiveSets.live_options.Goals as goal

pub returns : goal.returns
returns c =
    let s = c.self.inside in
    let v : Choices = c.args.self.now in
    let live : IsLive c.args.self.now.problem c.args.self.now.chosen c.live_at-live.result.now = live_here s.sets.now s.chosen.items s.marks.items s.levels c.args.self.now c.len.result c.live_at-live.result.now c.self.view_is c.self.invariant.0 (omega (arith, s.chosen.ok.0, c.len.ensures)) c.live_at-live.ensures in
    let P : Choices → Type 0 = λ w. IsUntried w.problem w.chosen c.in_ok-item.item 0 c.of_row-untried.result in
    let row = row_untried s.sets.now s.chosen.items c.in_ok-item.item c.row.result.now c.of_row-untried.result c.row.ensures c.of_row-untried.ensures.bits c.of_row-untried.ensures.later in
    let next = next_child v.problem v.chosen c.in_ok-item.item 0 _ _ _ _ (subst P c.self.view_is row) live c.in_ok-next.ensures in
    key_of_live v.problem v.chosen c.live_at-live.result.now c.in_ok-item.item _ live (sym c.in_ok-item.ensures.item) next.child
