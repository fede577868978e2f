use Rattle.std.proofs.Common.{◌≡◌, ℕ, ◌+◌, ◌<◌, List, length, get_or, take, subst, arith}
use Rattle.std.proofs.lemmas.List.{take_all}
use Rattle.option_sets.specs.Rows.{AreRowsBy, with_option}
use Rattle.option_sets.proofs.Members.{none_added, one_added}
use Rattle.option_sets.proofs.rows.add_tints.Goals as goal

pub loop-tint-init : goal.loop-tint-init
loop-tint-init c n has low by = none_added n c.args.option has c.args.rows.now low by

pub loop-tint-preserved : goal.loop-tint-preserved
loop-tint-preserved c n has low by =
    let k = c.loop-tint.tint-index in
    let more = c.loop-tint-test.true in
    let inside : get_or c.args.tints.now k 0 < length c.loop-tint.rows = omega (arith, c.requires k 0 more, c.loop-tint.auto.rows) in
    one_added c.args.option has c.args.tints.now k c.loop-tint.rows c.index-rows-tint.result c.add.new.self more inside c.in_ok-add.ensures.ok (c.loop-tint.invariant n has low by)

pub returns : goal.returns
returns c n has low by =
    let all : take c.loop-tint.tint-index c.args.tints.now ≡ c.args.tints.now = take_all c.loop-tint.tint-index c.args.tints.now c.loop-tint-test.false in
    let P : List ℕ → Type 0 = λ sets. AreRowsBy (c.args.option + 1) (with_option has c.args.option sets) c.loop-tint.rows in
    subst P all (c.loop-tint.invariant n has low by)
