use Rattle.std.proofs.Common.{◌≡◌, ℕ, ◌<◌, [], length, arith, inl, inr, subst, sym}
use Rattle.cover_problem.specs.Branching.{live_options}
use Rattle.std.proofs.lemmas.Bool.{cases_lt}
use Rattle.live_sets.proofs.Counted.{count_live}
use Rattle.live_sets.proofs.plane_counts.is_small.Goals as goal

pub loop-item-preserved : goal.loop-item-preserved
loop-item-preserved c i low = elim (cases_lt i c.loop-item.item) [
  | inl before ↦ c.loop-item.invariant i before
  | inr last ↦
      let at : i ≡ c.loop-item.item = omega (arith, low, last) in
      let P : ℕ → Type 0 = λ n. length (live_options c.args.sets.now [] n) < 256 in
      let own : length (live_options c.args.sets.now [] c.loop-item.item) < 256 =
      omega (arith, count_live c.args.sets.now [] c.args.live.now c.loop-item.item c.row.result.now c.requires c.row.ensures, c.count_row.ensures, c.if-count_row-most.false, c.most_options-most.ensures) in
      subst P (sym at) own
]
