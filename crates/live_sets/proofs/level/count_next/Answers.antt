use Rattle.std.proofs.Common.{ℕ, List, ◌∷◌, ◌++◌, [], length, arith, subst, sym}
use Rattle.live_sets.specs.Counting.{AreMarked}
use Rattle.live_sets.proofs.Marked.{marked_next, primary_all}
use Rattle.live_sets.proofs.level.count_next.Goals as goal

pub mark_items-requires : goal.mark_items-requires
mark_items-requires c = primary_all c.args.sets.now c.args.option c.primary_items.result.now (length c.copy_from_slice.new.self) c.primary_items.ensures (omega (arith, c.copy_from_slice.ensures.len, c.requires.keys))

pub returns : goal.returns
returns c prefix marked live =
    let P : List ℕ → Type 0 = λ ks. AreMarked c.args.sets.now prefix ks in
    let old : AreMarked c.args.sets.now prefix c.copy_from_slice.new.self = subst P (sym c.copy_from_slice.ensures.after) marked in
    c.count_rows.ensures (prefix ++ c.args.option ∷ []) live
    (marked_next c.args.sets.now prefix c.args.option c.primary_items.result.now c.copy_from_slice.new.self c.mark_items.new.keys c.primary_items.ensures old c.mark_items.ensures.long c.mark_items.ensures.marked c.mark_items.ensures.kept)
