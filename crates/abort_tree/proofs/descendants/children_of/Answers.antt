use Rattle.std.proofs.Common.{◌≡◌, [], arith, subst, true}
use Rattle.std.proofs.lemmas.List.{get_or_default, take_all}
use Rattle.abort_tree.specs.Below.{Adds, is_among}
use Rattle.abort_tree.proofs.Walking.{among_next}
use Rattle.abort_tree.proofs.descendants.children_of.Goals as goal

pub loop-unit-preserved : goal.loop-unit-preserved
loop-unit-preserved c = among_next c.args.table.now.own c.args.units.now c.loop-unit.serials.items c.push_children.new.serials.items c.loop-unit.unit-index _ c.loop-unit-test.true (get_or_default c.args.units.now c.loop-unit.unit-index _ _ c.loop-unit-test.true) c.loop-unit.invariant c.in_ok-push_children.ensures

pub returns : goal.returns
returns c = subst (λ units. Adds (λ unit. is_among units unit ≡ true) c.args.table.now.own [] c.loop-unit.serials.items) (take_all c.loop-unit.unit-index c.args.units.now (omega (arith, c.loop-unit-test.false))) c.loop-unit.invariant
