use Rattle.std.proofs.Common.{◌≡◌, ℕ, [], get_or, ◌<◌, List, length, ap, sym, subst, ◌∙◌, arith, rules}
use Rattle.std.proofs.lemmas.List.{get_or_read}
use Rattle.option_sets.specs.Rows.{AreRowsBy, stands_below}
use Rattle.option_sets.proofs.Members.{none_stand, more_stand, are_empty, written}
use Rattle.option_sets.proofs.rows.rows_of_tints.Goals as goal

pub loop-option-init : goal.loop-option-init
loop-option-init c = record {
  long = are_empty c.in_ok-rows.rows.items c.args.count c.in_ok-rows.ensures;
  each = none_stand c.args.lists.now c.args.count c.in_ok-rows.rows.items c.in_ok-rows.ensures;
}

pub add_tints-requires : goal.add_tints-requires
add_tints-requires c k d inside =
    let o = c.loop-option.option in
    let here : c.as_slice.result.now ≡ get_or c.args.lists.now c.loop-option.option [] = c.as_slice.ensures ∙ get_or_read c.args.lists.now c.loop-option.option c.index-lists-option.result c.loop-option-test.true c.index-lists-option.is [] in
    let long : k < length (get_or c.args.lists.now c.loop-option.option []) = rw (← here) inside in
    omega (arith, c.requires.inside o [] c.loop-option-test.true k d long, ap (λ (ts : List ℕ). get_or ts k d) here, c.deref_mut.ensures.len, c.loop-option.invariant.long, ap length c.deref_mut.ensures.value)

pub loop-option-preserved : goal.loop-option-preserved
loop-option-preserved c =
    let o = c.loop-option.option in
    let lists = c.args.lists.now in
    let all : length c.add_tints.new.rows ≡ c.loop-option.rows.len = search rules in
    let before = subst (AreRowsBy o (stands_below lists o)) (sym c.deref_mut.ensures.value) c.loop-option.invariant.each in
    rw (written c.loop-option.rows.items c.add_tints.new.rows c.loop-option.rows.len all)
    (record {
      long = omega (arith, c.add_tints.auto.rows, ap length c.deref_mut.ensures.value, c.loop-option.invariant.long);
      each = more_stand lists o c.as_slice.result.now c.add_tints.new.rows (c.as_slice.ensures ∙ get_or_read lists o c.index-lists-option.result c.loop-option-test.true c.index-lists-option.is []) (c.in_ok-add_tints.ensures o (stands_below lists o) (omega arith) before);
    })

pub returns : goal.returns
returns c =
    let lists = c.args.lists.now in
    let end : c.loop-option.option ≡ length c.args.lists.now = omega (arith, c.loop-option-test.false, c.loop-option.auto.option-end) in
    let P : ℕ → Type 0 = λ n. AreRowsBy n (stands_below c.args.lists.now n) c.loop-option.rows.items in
    record {
      long = c.loop-option.invariant.long;
      each = subst P end c.loop-option.invariant.each;
    }
