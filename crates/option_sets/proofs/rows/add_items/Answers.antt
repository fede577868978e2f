use Rattle.std.proofs.Common.{◌≡◌, ℕ, ◌+◌, ◌<◌, List, length, get_or, take, subst, arith}
use Rattle.std.proofs.lemmas.List.{take_all}
use Rattle.option_sets.specs.Rows.{AreRowsBy, with_option}
use Rattle.option_sets.proofs.Members.{none_added, one_added}
use Rattle.option_sets.proofs.rows.add_items.Goals as goal

pub loop-item-init : goal.loop-item-init
loop-item-init c n has low by = none_added n c.args.option has c.args.rows.now low by

pub loop-item-preserved : goal.loop-item-preserved
loop-item-preserved c n has low by =
    let k = c.loop-item.item-index in
    let more = c.loop-item-test.true in
    let inside : get_or c.args.items.now k 0 < length c.loop-item.rows = omega (arith, c.requires k 0 more, c.loop-item.auto.rows) in
    one_added c.args.option has c.args.items.now k c.loop-item.rows c.index-rows-item.result c.add.new.self more inside c.in_ok-add.ensures.ok (c.loop-item.invariant n has low by)

pub returns : goal.returns
returns c n has low by =
    let all : take c.loop-item.item-index c.args.items.now ≡ c.args.items.now = take_all c.loop-item.item-index c.args.items.now c.loop-item-test.false in
    let P : List ℕ → Type 0 = λ sets. AreRowsBy (c.args.option + 1) (with_option has c.args.option sets) c.loop-item.rows in
    subst P all (c.loop-item.invariant n has low by)
