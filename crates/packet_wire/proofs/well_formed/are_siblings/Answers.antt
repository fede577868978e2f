use Rattle.std.proofs.Common.{sym, ◌∙◌, arith}
use Rattle.packet_wire.proofs.Rising.{all_stand, falls, stands}
use Rattle.packet_wire.proofs.well_formed.are_siblings.Goals as goal

pub returns-then-not-is_sibling : goal.returns-then-not-is_sibling
returns-then-not-is_sibling c =
    falls c.loop-sibling.last c.args.siblings.now c.loop-sibling.sibling-index _ c.loop-sibling-test.true (sym c.is_sibling.ensures ∙ c.if-not-is_sibling.true) c.loop-sibling.invariant

pub loop-sibling-preserved : goal.loop-sibling-preserved
loop-sibling-preserved c =
    stands c.loop-sibling.last c.args.siblings.now c.loop-sibling.sibling-index _ c.loop-sibling-test.true (sym c.is_sibling.ensures ∙ c.if-not-is_sibling.false) c.loop-sibling.invariant

pub returns : goal.returns
returns c = all_stand c.loop-sibling.last c.args.siblings.now c.loop-sibling.sibling-index (omega (arith, c.loop-sibling-test.false)) c.loop-sibling.invariant
