use Rattle.std.proofs.Common.{◌-◌, ◌<◌, ◌≤◌, ◌++◌, ◌∷◌, [], Some, ap, append_assoc, arith, refl, sym, ◌∙◌, ⊎_elim}
use Rattle.std.specs.List.{range_with_len}
use Rattle.std.proofs.lemmas.Bool.{cases_lt}
use Rattle.abort_tree.proofs.Lists.{in_range, of_range, range_next}
use Rattle.abort_tree.proofs.descendants.push_children.Goals as goal

pub loop-serial-preserved : goal.loop-serial-preserved
loop-serial-preserved c =
    let old = c.args.serials.now.items in
    let first = c.children-children.result.first in
    let serial = c.loop-serial.serial in
    record {
      items = c.in_ok-push.ensures.items ∙ ap (λ l. l ++ serial ∷ []) c.loop-serial.invariant.items ∙ append_assoc old (range_with_len first (serial - first)) (serial ∷ [])
          ∙ ap (λ l. old ++ l) (sym (range_next first serial c.loop-serial.invariant.first));
      first = omega (arith, c.loop-serial.invariant.first);
      within = λ k l r. ⊎_elim
          (λ (m : k < serial). c.loop-serial.invariant.within k l m)
          (λ (m : serial ≤ k). omega (arith, m, r, c.loop-serial-test.true))
          (cases_lt k serial);
    }

pub returns : goal.returns
returns c =
    let are = c.children-children.ensures in
    let first = c.children-children.result.first in
    let serial = c.loop-serial.serial in
    record {
      more = range_with_len first (serial - first);
      is = c.loop-serial.invariant.items;
      all = λ k unit same at.
          let r = are.only k (at ∙ ap Some same) in
          in_range first (serial - first) k r.0 (omega (arith, r.0, r.1, c.loop-serial-test.false));
      only = λ k here.
          let r = of_range first (serial - first) k here in
          (c.args.unit, refl, are.each k r.0 (c.loop-serial.invariant.within k r.0 (omega (arith, r.1, c.loop-serial.invariant.first))));
    }
