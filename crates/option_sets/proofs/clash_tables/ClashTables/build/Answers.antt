use Rattle.std.proofs.Common.{ℕ, List, arith, sym, subst}
use Rattle.option_sets.specs.Rows.{AreRowsOf}
use Rattle.option_sets.specs.Tints.{AreTints}
use Rattle.option_sets.proofs.Tabling.{numbers_below, tables_are}
use Rattle.option_sets.proofs.clash_tables.ClashTables.build.Goals as goal

pub rows_of_tints-requires-clause-inside : goal.rows_of_tints-requires-clause-inside
rows_of_tints-requires-clause-inside c k d inside j e within =
    let by = subst (AreTints c.args.problem.now c.in_ok-lists.numbering) (sym c.deref.ensures.value) c.in_ok-lists.ensures.tints in
    omega (arith, numbers_below c.args.problem.now c.in_ok-lists.numbering c.deref.result.now by k d inside j e within, c.len.ensures.len)

pub invariant_of-result : goal.invariant_of-result
invariant_of-result c =
    let of : AreRowsOf c.deref.result.now c.len.result c.in_ok-tints.tints.items = c.in_ok-tints.ensures in
    tables_are c.args.problem.now c.in_ok-lists.numbering c.in_ok-lists.lists.items c.in_ok-tints.tints.items c.in_ok-lists.ensures.lawful c.in_ok-lists.ensures.tints
    (subst (λ (n : ℕ). AreRowsOf c.in_ok-lists.lists.items n c.in_ok-tints.tints.items) c.len.ensures.len
    (subst (λ (ls : List (List ℕ)). AreRowsOf ls c.len.result c.in_ok-tints.tints.items) c.deref.ensures.value of))
    c.in_ok-rows.rows.items c.in_ok-rows.ensures
