use Rattle.std.proofs.Common.{ℕ, ◌<◌, ◌^◌, get_or, length, arith, rules, refl}
use Rattle.option_sets.specs.declared.word.Word.{Word}
use Rattle.option_sets.proofs.Sparing.{both_step, one_step, cleared_all}
use Rattle.option_sets.proofs.clear.clear_row_but.Goals as goal
use Rattle.option_sets.proofs.clear.clear_row_but.Goals.{then-next-kept+then-kept-next, else-next-kept, else-next-kept-via-then-next-kept+else-kept-next, else-next-kept-via-else-next-kept}

pub loop-word-init : goal.loop-word-init
loop-word-init c = record { left = λ x. refl; parts = record { row_rises = c.requires.row; kept_rises = c.requires.kept; part = c.requires.part } }

pub loop-word-preserved : goal.loop-word-preserved
loop-word-preserved c =
    let i : ℕ = c.loop-word.word-index in
    let next : ℕ = c.loop-word.next in
    let none : Word = record { place = 0; bits = 0 } in
    let inside : (get_or c.args.row.now i none).place < length c.loop-word.set = omega (arith, c.requires.inside i none c.loop-word-test.true, c.loop-word.auto.set) in
    let small : (get_or c.args.row.now i none).bits < 2 ^ 64 = search rules in
    elim c.if-next-kept.branch [
      | then-next-kept+then-kept-next w ↦
          both_step c.args.set.now c.args.row.now c.args.kept.now c.loop-word.set i next c.loop-word.invariant c.loop-word-test.true inside small
          c.if-next-kept.set c.if-next-kept.next w.if-next-kept.true w.if-kept-next.true (search rules) w.set-is w.next-is
      | else-next-kept w ↦
          one_step c.args.set.now c.args.row.now c.args.kept.now c.loop-word.set i next c.loop-word.invariant c.loop-word-test.true inside small
          c.if-next-kept.set c.if-next-kept.next (λ further same. elim w.else-next-kept.branch [
            | else-next-kept-via-then-next-kept+else-kept-next v ↦ v.if-kept-next.false same
            | else-next-kept-via-else-next-kept v ↦ omega (arith, v.if-next-kept.false, further)
          ]) w.set-is w.next-is
    ]

pub returns : goal.returns
returns c = cleared_all c.args.set.now c.args.row.now c.args.kept.now c.loop-word.set c.loop-word.word-index c.loop-word.next c.loop-word.invariant c.loop-word-test.false
