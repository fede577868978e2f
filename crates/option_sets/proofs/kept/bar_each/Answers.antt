use Rattle.std.proofs.Common.{ℕ, ◌+◌, ◌-◌, ◌*◌, ◌≤◌, length, arith, rules, ap}
use Rattle.cover_problem.specs.Problem.{Problem}
use Rattle.option_sets.proofs.Keeping.{none_kept, kept_more, all_kept, next_inside, sets_few}
use Rattle.option_sets.proofs.kept.bar_each.Goals as goal

pub overflow_mul-start : goal.overflow_mul-start
overflow_mul-start c =
    omega (
      arith,
      next_inside c.args.tables.now c.problem.result.now c.words-words.result c.loop-option.option c.options-option-end.result c.words-words.ensures.words c.loop-option-test.true c.options-option-end.ensures.count c.problem.ensures.problem,
      sets_few c.args.tables.now c.words-words.ensures.lawful,
    )

pub slice_bounds-bar-end : goal.slice_bounds-bar-end
slice_bounds-bar-end c =
    let within = next_inside c.args.tables.now c.problem.result.now c.words-words.result c.loop-option.option c.options-option-end.result c.words-words.ensures.words c.loop-option-test.true c.options-option-end.ensures.count c.problem.ensures.problem in
    let fits : c.loop-option.option * c.words-words.result + c.words-words.result ≤ length c.loop-option.sets = omega (arith, within, c.requires.long, c.loop-option.auto.sets) in
    search rules

pub loop-option-init : goal.loop-option-init
loop-option-init c = none_kept c.args.tables.now c.words-words.result c.args.sets.now

pub loop-option-preserved : goal.loop-option-preserved
loop-option-preserved c =
    let o : ℕ = c.loop-option.option in
    let w : ℕ = c.words-words.result in
    let within = next_inside c.args.tables.now c.problem.result.now c.words-words.result c.loop-option.option c.options-option-end.result c.words-words.ensures.words c.loop-option-test.true c.options-option-end.ensures.count c.problem.ensures.problem in
    kept_more c.args.tables.now w c.args.sets.now c.loop-option.sets c.bar.new.set o (o * w + w - o * w) c.words-words.ensures.words c.requires.full
    (omega (arith, within, c.requires.long)) c.loop-option.auto.sets c.loop-option.invariant (omega arith) c.bar.auto.set c.bar.ensures

pub returns : goal.returns
returns c =
    all_kept c.args.tables.now c.words-words.result c.args.sets.now c.loop-option.sets c.loop-option.option c.words-words.ensures.words
    (omega (arith, c.loop-option-test.false, c.loop-option.auto.option-end, c.options-option-end.ensures.count, ap (λ (p : Problem). length p.options) c.problem.ensures.problem))
    c.requires.long c.loop-option.auto.sets c.loop-option.invariant
