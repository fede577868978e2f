use Rattle.std.proofs.Common.{◌≡◌, ℕ, ◌<◌, ◌∙◌, ◌&&◌, not, List, [], length, get_or, sym, ap, subst, arith}
use Rattle.std.proofs.lemmas.List.{get_or_read}
use Rattle.cover_problem.specs.Problem.{Problem, items_of}
use Rattle.option_sets.specs.Sets.{has, words_of}
use Rattle.option_sets.specs.ClashTables.{clash_at}
use Rattle.option_sets.proofs.Barring.{row_inside, row_rises, bar_plain, bar_tinted, tint_rises, tint_part, tint_inside}
use Rattle.option_sets.proofs.clash_tables.ClashTables.bar_item.Goals as goal

pub clear_row-requires : goal.clear_row-requires
clear_row-requires c =
    let o : ℕ = c.args.option in
    let k : ℕ = c.args.place in
    let option : c.args.option < length c.self.inside.problem.now.options = omega (arith, c.requires.option, ap (λ (p : Problem). length p.options) c.self.view_is) in
    let place : c.args.place < length (items_of c.self.inside.problem.now c.args.option) = omega (arith, c.requires.place, ap (λ (p : Problem). length (items_of p c.args.option)) c.self.view_is) in
    let item-is : get_or c.option.result.now c.args.place 0 ≡ get_or (items_of c.self.inside.problem.now c.args.option) c.args.place 0 = ap (λ (is : List ℕ). get_or is c.args.place 0) c.option.ensures.items in
    let named : get_or c.option.result.now c.args.place 0 < length c.self.inside.problem.now.names = c.option.ensures.named c.args.place 0 (omega (arith, place, ap length c.option.ensures.items)) in
    let number-is : get_or c.as_slice.result.now c.args.place 0 ≡ get_or (get_or c.self.inside.lists.items c.args.option []) c.args.place 0 =
    ap (λ (ts : List ℕ). get_or ts c.args.place 0) (c.as_slice.ensures ∙ get_or_read c.self.inside.lists.items c.args.option c.index.result.now (omega (arith, option, c.self.invariant.long)) c.index.ensures []) in
    let row-is : c.as_slice-row.result.now ≡ get_or c.self.inside.rows.items (get_or c.option.result.now c.args.place 0) [] =
    c.as_slice-row.ensures ∙ get_or_read c.self.inside.rows.items (get_or c.option.result.now c.args.place 0) c.index-2.result.now (omega (arith, named, c.self.invariant.items)) c.index-2.ensures [] in
    row_inside c.self.inside.problem.now c.self.inside.rows.items c.self.inside.tints.items c.self.inside.lists.items c.self.invariant c.args.option c.args.place (get_or c.option.result.now c.args.place 0) (get_or c.as_slice.result.now c.args.place 0) c.as_slice-row.result.now option place item-is number-is named row-is (length c.args.set.now) (c.requires.set ∙ ap words_of (sym c.self.view_is))

pub clear_row_but-requires-clause-inside : goal.clear_row_but-requires-clause-inside
clear_row_but-requires-clause-inside c =
    let o : ℕ = c.args.option in
    let k : ℕ = c.args.place in
    let option : c.args.option < length c.self.inside.problem.now.options = omega (arith, c.requires.option, ap (λ (p : Problem). length p.options) c.self.view_is) in
    let place : c.args.place < length (items_of c.self.inside.problem.now c.args.option) = omega (arith, c.requires.place, ap (λ (p : Problem). length (items_of p c.args.option)) c.self.view_is) in
    let item-is : get_or c.option.result.now c.args.place 0 ≡ get_or (items_of c.self.inside.problem.now c.args.option) c.args.place 0 = ap (λ (is : List ℕ). get_or is c.args.place 0) c.option.ensures.items in
    let named : get_or c.option.result.now c.args.place 0 < length c.self.inside.problem.now.names = c.option.ensures.named c.args.place 0 (omega (arith, place, ap length c.option.ensures.items)) in
    let number-is : get_or c.as_slice.result.now c.args.place 0 ≡ get_or (get_or c.self.inside.lists.items c.args.option []) c.args.place 0 =
    ap (λ (ts : List ℕ). get_or ts c.args.place 0) (c.as_slice.ensures ∙ get_or_read c.self.inside.lists.items c.args.option c.index.result.now (omega (arith, option, c.self.invariant.long)) c.index.ensures []) in
    let row-is : c.as_slice-row.result.now ≡ get_or c.self.inside.rows.items (get_or c.option.result.now c.args.place 0) [] =
    c.as_slice-row.ensures ∙ get_or_read c.self.inside.rows.items (get_or c.option.result.now c.args.place 0) c.index-2.result.now (omega (arith, named, c.self.invariant.items)) c.index-2.ensures [] in
    row_inside c.self.inside.problem.now c.self.inside.rows.items c.self.inside.tints.items c.self.inside.lists.items c.self.invariant c.args.option c.args.place (get_or c.option.result.now c.args.place 0) (get_or c.as_slice.result.now c.args.place 0) c.as_slice-row.result.now option place item-is number-is named row-is (length c.args.set.now) (c.requires.set ∙ ap words_of (sym c.self.view_is))

pub clear_row_but-requires-clause-row : goal.clear_row_but-requires-clause-row
clear_row_but-requires-clause-row c =
    let o : ℕ = c.args.option in
    let k : ℕ = c.args.place in
    let option : c.args.option < length c.self.inside.problem.now.options = omega (arith, c.requires.option, ap (λ (p : Problem). length p.options) c.self.view_is) in
    let place : c.args.place < length (items_of c.self.inside.problem.now c.args.option) = omega (arith, c.requires.place, ap (λ (p : Problem). length (items_of p c.args.option)) c.self.view_is) in
    let item-is : get_or c.option.result.now c.args.place 0 ≡ get_or (items_of c.self.inside.problem.now c.args.option) c.args.place 0 = ap (λ (is : List ℕ). get_or is c.args.place 0) c.option.ensures.items in
    let named : get_or c.option.result.now c.args.place 0 < length c.self.inside.problem.now.names = c.option.ensures.named c.args.place 0 (omega (arith, place, ap length c.option.ensures.items)) in
    let number-is : get_or c.as_slice.result.now c.args.place 0 ≡ get_or (get_or c.self.inside.lists.items c.args.option []) c.args.place 0 =
    ap (λ (ts : List ℕ). get_or ts c.args.place 0) (c.as_slice.ensures ∙ get_or_read c.self.inside.lists.items c.args.option c.index.result.now (omega (arith, option, c.self.invariant.long)) c.index.ensures []) in
    let row-is : c.as_slice-row.result.now ≡ get_or c.self.inside.rows.items (get_or c.option.result.now c.args.place 0) [] =
    c.as_slice-row.ensures ∙ get_or_read c.self.inside.rows.items (get_or c.option.result.now c.args.place 0) c.index-2.result.now (omega (arith, named, c.self.invariant.items)) c.index-2.ensures [] in
    row_rises c.self.inside.problem.now c.self.inside.rows.items c.self.inside.tints.items c.self.inside.lists.items c.self.invariant c.args.option c.args.place (get_or c.option.result.now c.args.place 0) (get_or c.as_slice.result.now c.args.place 0) c.as_slice-row.result.now option place item-is number-is named row-is

pub clear_row_but-requires-clause-kept : goal.clear_row_but-requires-clause-kept
clear_row_but-requires-clause-kept c =
    let o : ℕ = c.args.option in
    let k : ℕ = c.args.place in
    let option : c.args.option < length c.self.inside.problem.now.options = omega (arith, c.requires.option, ap (λ (p : Problem). length p.options) c.self.view_is) in
    let place : c.args.place < length (items_of c.self.inside.problem.now c.args.option) = omega (arith, c.requires.place, ap (λ (p : Problem). length (items_of p c.args.option)) c.self.view_is) in
    let item-is : get_or c.option.result.now c.args.place 0 ≡ get_or (items_of c.self.inside.problem.now c.args.option) c.args.place 0 = ap (λ (is : List ℕ). get_or is c.args.place 0) c.option.ensures.items in
    let named : get_or c.option.result.now c.args.place 0 < length c.self.inside.problem.now.names = c.option.ensures.named c.args.place 0 (omega (arith, place, ap length c.option.ensures.items)) in
    let number-is : get_or c.as_slice.result.now c.args.place 0 ≡ get_or (get_or c.self.inside.lists.items c.args.option []) c.args.place 0 =
    ap (λ (ts : List ℕ). get_or ts c.args.place 0) (c.as_slice.ensures ∙ get_or_read c.self.inside.lists.items c.args.option c.index.result.now (omega (arith, option, c.self.invariant.long)) c.index.ensures []) in
    let row-is : c.as_slice-row.result.now ≡ get_or c.self.inside.rows.items (get_or c.option.result.now c.args.place 0) [] =
    c.as_slice-row.ensures ∙ get_or_read c.self.inside.rows.items (get_or c.option.result.now c.args.place 0) c.index-2.result.now (omega (arith, named, c.self.invariant.items)) c.index-2.ensures [] in
    let some : 0 < get_or c.as_slice.result.now c.args.place 0 = omega (arith, c.if-tint-eq0.false) in
    let inside = (tint_inside c.self.inside.problem.now c.self.inside.rows.items c.self.inside.tints.items c.self.inside.lists.items c.self.invariant c.args.option c.args.place (get_or c.option.result.now c.args.place 0) (get_or c.as_slice.result.now c.args.place 0) c.as_slice-row.result.now option place item-is number-is named row-is some) in
    let kept-is : c.as_slice-else-tint-eq0.result.now ≡ get_or c.self.inside.tints.items (get_or c.as_slice.result.now c.args.place 0) [] =
    c.as_slice-else-tint-eq0.ensures ∙ get_or_read c.self.inside.tints.items (get_or c.as_slice.result.now c.args.place 0) c.index-else-tint-eq0.result.now inside c.index-else-tint-eq0.ensures [] in
    tint_rises c.self.inside.problem.now c.self.inside.rows.items c.self.inside.tints.items c.self.inside.lists.items c.self.invariant c.args.option c.args.place (get_or c.option.result.now c.args.place 0) (get_or c.as_slice.result.now c.args.place 0) c.as_slice-row.result.now option place item-is number-is named row-is c.as_slice-else-tint-eq0.result.now some kept-is

pub clear_row_but-requires-clause-part : goal.clear_row_but-requires-clause-part
clear_row_but-requires-clause-part c =
    let o : ℕ = c.args.option in
    let k : ℕ = c.args.place in
    let option : c.args.option < length c.self.inside.problem.now.options = omega (arith, c.requires.option, ap (λ (p : Problem). length p.options) c.self.view_is) in
    let place : c.args.place < length (items_of c.self.inside.problem.now c.args.option) = omega (arith, c.requires.place, ap (λ (p : Problem). length (items_of p c.args.option)) c.self.view_is) in
    let item-is : get_or c.option.result.now c.args.place 0 ≡ get_or (items_of c.self.inside.problem.now c.args.option) c.args.place 0 = ap (λ (is : List ℕ). get_or is c.args.place 0) c.option.ensures.items in
    let named : get_or c.option.result.now c.args.place 0 < length c.self.inside.problem.now.names = c.option.ensures.named c.args.place 0 (omega (arith, place, ap length c.option.ensures.items)) in
    let number-is : get_or c.as_slice.result.now c.args.place 0 ≡ get_or (get_or c.self.inside.lists.items c.args.option []) c.args.place 0 =
    ap (λ (ts : List ℕ). get_or ts c.args.place 0) (c.as_slice.ensures ∙ get_or_read c.self.inside.lists.items c.args.option c.index.result.now (omega (arith, option, c.self.invariant.long)) c.index.ensures []) in
    let row-is : c.as_slice-row.result.now ≡ get_or c.self.inside.rows.items (get_or c.option.result.now c.args.place 0) [] =
    c.as_slice-row.ensures ∙ get_or_read c.self.inside.rows.items (get_or c.option.result.now c.args.place 0) c.index-2.result.now (omega (arith, named, c.self.invariant.items)) c.index-2.ensures [] in
    let some : 0 < get_or c.as_slice.result.now c.args.place 0 = omega (arith, c.if-tint-eq0.false) in
    let inside = (tint_inside c.self.inside.problem.now c.self.inside.rows.items c.self.inside.tints.items c.self.inside.lists.items c.self.invariant c.args.option c.args.place (get_or c.option.result.now c.args.place 0) (get_or c.as_slice.result.now c.args.place 0) c.as_slice-row.result.now option place item-is number-is named row-is some) in
    let kept-is : c.as_slice-else-tint-eq0.result.now ≡ get_or c.self.inside.tints.items (get_or c.as_slice.result.now c.args.place 0) [] =
    c.as_slice-else-tint-eq0.ensures ∙ get_or_read c.self.inside.tints.items (get_or c.as_slice.result.now c.args.place 0) c.index-else-tint-eq0.result.now inside c.index-else-tint-eq0.ensures [] in
    tint_part c.self.inside.problem.now c.self.inside.rows.items c.self.inside.tints.items c.self.inside.lists.items c.self.invariant c.args.option c.args.place (get_or c.option.result.now c.args.place 0) (get_or c.as_slice.result.now c.args.place 0) c.as_slice-row.result.now option place item-is number-is named row-is c.as_slice-else-tint-eq0.result.now some kept-is

pub returns-then-tint-eq0 : goal.returns-then-tint-eq0
returns-then-tint-eq0 c x =
    let o : ℕ = c.args.option in
    let k : ℕ = c.args.place in
    let option : c.args.option < length c.self.inside.problem.now.options = omega (arith, c.requires.option, ap (λ (p : Problem). length p.options) c.self.view_is) in
    let place : c.args.place < length (items_of c.self.inside.problem.now c.args.option) = omega (arith, c.requires.place, ap (λ (p : Problem). length (items_of p c.args.option)) c.self.view_is) in
    let item-is : get_or c.option.result.now c.args.place 0 ≡ get_or (items_of c.self.inside.problem.now c.args.option) c.args.place 0 = ap (λ (is : List ℕ). get_or is c.args.place 0) c.option.ensures.items in
    let named : get_or c.option.result.now c.args.place 0 < length c.self.inside.problem.now.names = c.option.ensures.named c.args.place 0 (omega (arith, place, ap length c.option.ensures.items)) in
    let number-is : get_or c.as_slice.result.now c.args.place 0 ≡ get_or (get_or c.self.inside.lists.items c.args.option []) c.args.place 0 =
    ap (λ (ts : List ℕ). get_or ts c.args.place 0) (c.as_slice.ensures ∙ get_or_read c.self.inside.lists.items c.args.option c.index.result.now (omega (arith, option, c.self.invariant.long)) c.index.ensures []) in
    let row-is : c.as_slice-row.result.now ≡ get_or c.self.inside.rows.items (get_or c.option.result.now c.args.place 0) [] =
    c.as_slice-row.ensures ∙ get_or_read c.self.inside.rows.items (get_or c.option.result.now c.args.place 0) c.index-2.result.now (omega (arith, named, c.self.invariant.items)) c.index-2.ensures [] in
    subst (λ (z : Problem). has c.clear_row.new.set x ≡ (has c.args.set.now x && not (clash_at z c.args.option (get_or (items_of z c.args.option) c.args.place 0) x))) c.self.view_is
    (c.clear_row.ensures x ∙ bar_plain c.self.inside.problem.now c.self.inside.rows.items c.self.inside.tints.items c.self.inside.lists.items c.self.invariant c.args.option c.args.place (get_or c.option.result.now c.args.place 0) (get_or c.as_slice.result.now c.args.place 0) c.as_slice-row.result.now option place item-is number-is named row-is c.if-tint-eq0.true (has c.args.set.now x) x ∙ ap (λ (i : ℕ). has c.args.set.now x && not (clash_at c.self.inside.problem.now c.args.option i x)) item-is)

pub returns-else-tint-eq0 : goal.returns-else-tint-eq0
returns-else-tint-eq0 c x =
    let o : ℕ = c.args.option in
    let k : ℕ = c.args.place in
    let option : c.args.option < length c.self.inside.problem.now.options = omega (arith, c.requires.option, ap (λ (p : Problem). length p.options) c.self.view_is) in
    let place : c.args.place < length (items_of c.self.inside.problem.now c.args.option) = omega (arith, c.requires.place, ap (λ (p : Problem). length (items_of p c.args.option)) c.self.view_is) in
    let item-is : get_or c.option.result.now c.args.place 0 ≡ get_or (items_of c.self.inside.problem.now c.args.option) c.args.place 0 = ap (λ (is : List ℕ). get_or is c.args.place 0) c.option.ensures.items in
    let named : get_or c.option.result.now c.args.place 0 < length c.self.inside.problem.now.names = c.option.ensures.named c.args.place 0 (omega (arith, place, ap length c.option.ensures.items)) in
    let number-is : get_or c.as_slice.result.now c.args.place 0 ≡ get_or (get_or c.self.inside.lists.items c.args.option []) c.args.place 0 =
    ap (λ (ts : List ℕ). get_or ts c.args.place 0) (c.as_slice.ensures ∙ get_or_read c.self.inside.lists.items c.args.option c.index.result.now (omega (arith, option, c.self.invariant.long)) c.index.ensures []) in
    let row-is : c.as_slice-row.result.now ≡ get_or c.self.inside.rows.items (get_or c.option.result.now c.args.place 0) [] =
    c.as_slice-row.ensures ∙ get_or_read c.self.inside.rows.items (get_or c.option.result.now c.args.place 0) c.index-2.result.now (omega (arith, named, c.self.invariant.items)) c.index-2.ensures [] in
    let some : 0 < get_or c.as_slice.result.now c.args.place 0 = omega (arith, c.if-tint-eq0.false) in
    let inside = (tint_inside c.self.inside.problem.now c.self.inside.rows.items c.self.inside.tints.items c.self.inside.lists.items c.self.invariant c.args.option c.args.place (get_or c.option.result.now c.args.place 0) (get_or c.as_slice.result.now c.args.place 0) c.as_slice-row.result.now option place item-is number-is named row-is some) in
    let kept-is : c.as_slice-else-tint-eq0.result.now ≡ get_or c.self.inside.tints.items (get_or c.as_slice.result.now c.args.place 0) [] =
    c.as_slice-else-tint-eq0.ensures ∙ get_or_read c.self.inside.tints.items (get_or c.as_slice.result.now c.args.place 0) c.index-else-tint-eq0.result.now inside c.index-else-tint-eq0.ensures [] in
    subst (λ (z : Problem). has c.clear_row_but.new.set x ≡ (has c.args.set.now x && not (clash_at z c.args.option (get_or (items_of z c.args.option) c.args.place 0) x))) c.self.view_is
    (c.clear_row_but.ensures x ∙ bar_tinted c.self.inside.problem.now c.self.inside.rows.items c.self.inside.tints.items c.self.inside.lists.items c.self.invariant c.args.option c.args.place (get_or c.option.result.now c.args.place 0) (get_or c.as_slice.result.now c.args.place 0) c.as_slice-row.result.now option place item-is number-is named row-is c.as_slice-else-tint-eq0.result.now some kept-is (has c.args.set.now x) x ∙ ap (λ (i : ℕ). has c.args.set.now x && not (clash_at c.self.inside.problem.now c.args.option i x)) item-is)
