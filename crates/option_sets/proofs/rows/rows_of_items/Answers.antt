use Rattle.std.proofs.Common.{◌≡◌, ℕ, length, ap, sym, subst, ◌∙◌, arith, rules}
use Rattle.option_sets.specs.Rows.{AreRowsBy, stands_below}
use Rattle.option_sets.proofs.Members.{none_stand, more_stand, are_empty, written}
use Rattle.option_sets.proofs.rows.rows_of_items.Goals as goal

pub loop-option-init : goal.loop-option-init
loop-option-init c = record {
  long = are_empty c.in_ok-rows.rows.items c.items.result c.in_ok-rows.ensures ∙ c.items.ensures.count;
  each = none_stand c.args.problem.now.options c.items.result c.in_ok-rows.rows.items c.in_ok-rows.ensures;
}

pub add_items-requires : goal.add_items-requires
add_items-requires c k d inside = omega (arith, c.option.ensures.named k d inside, c.deref_mut.ensures.len, c.loop-option.invariant.long, ap length c.deref_mut.ensures.value)

pub loop-option-preserved : goal.loop-option-preserved
loop-option-preserved c =
    let o = c.loop-option.option in
    let lists = c.args.problem.now.options in
    let all : length c.add_items.new.rows ≡ c.loop-option.rows.len = search rules in
    let before = subst (AreRowsBy o (stands_below lists o)) (sym c.deref_mut.ensures.value) c.loop-option.invariant.each in
    rw (written c.loop-option.rows.items c.add_items.new.rows c.loop-option.rows.len all)
    (record {
      long = omega (arith, c.add_items.auto.rows, ap length c.deref_mut.ensures.value, c.loop-option.invariant.long);
      each = more_stand lists o c.option.result.now c.add_items.new.rows c.option.ensures.items (c.in_ok-add_items.ensures o (stands_below lists o) (omega arith) before);
    })

pub returns : goal.returns
returns c =
    let lists = c.args.problem.now.options in
    let end : c.loop-option.option ≡ length c.args.problem.now.options = omega (arith, c.loop-option-test.false, c.loop-option.auto.option-end, c.options-option-end.ensures.count) in
    let P : ℕ → Type 0 = λ n. AreRowsBy n (stands_below c.args.problem.now.options n) c.loop-option.rows.items in
    record {
      long = c.loop-option.invariant.long;
      each = subst P end c.loop-option.invariant.each;
    }
