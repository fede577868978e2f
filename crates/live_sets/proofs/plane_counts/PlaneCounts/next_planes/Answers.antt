use Rattle.std.proofs.Common.{◌+◌, ◌∷◌, ◌++◌, [], arith, ◌∙◌, sym}
use Rattle.live_sets.proofs.Gone.{live_part, named_live}
use Rattle.live_sets.proofs.Staying.{live_inside, named_part}
use Rattle.live_sets.proofs.plane_counts.PlaneCounts.next_planes.Goals as goal

pub count_live-requires-clause-inside : goal.count_live-requires-clause-inside
count_live-requires-clause-inside c x here = live_inside c.args.sets.now (c.args.step.chosen.now ++ c.args.step.option ∷ []) c.args.step.live.now x c.requires.step.live here

pub count_live-requires-clause-few : goal.count_live-requires-clause-few
count_live-requires-clause-few c i low primary =
    let less = named_part c.args.sets.now c.args.step.before.now c.args.step.live.now (c.args.self.now.first + i) (c.requires.step.before.words ∙ sym c.requires.step.live.words)
    (live_part c.args.sets.now c.args.step.chosen.now c.args.step.option c.args.step.before.now c.args.step.live.now c.requires.step.before c.requires.step.live) in
    omega (arith, less, named_live c.args.sets.now c.args.step.chosen.now c.args.step.before.now (c.args.self.now.first + i) c.requires.step.before, c.requires.last.counted i low primary, c.requires.digits i low)

pub returns-then-step-self-clause-counted : goal.returns-then-step-self-clause-counted
returns-then-step-self-clause-counted c i low primary =
    c.count_live.ensures.counted i low primary ∙ sym (named_live c.args.sets.now (c.args.step.chosen.now ++ c.args.step.option ∷ []) c.args.step.live.now (c.args.self.now.first + i) c.requires.step.live)
