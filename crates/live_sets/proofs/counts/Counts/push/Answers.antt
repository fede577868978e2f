use Rattle.std.proofs.Common.{ℕ, List, ◌∷◌, ◌++◌, [], length, arith, ap, ◌∙◌, subst, sym}
use Rattle.std.proofs.lemmas.List.{with_items_is}
use Rattle.live_sets.specs.declared.counts.Counts.{Counts}
use Rattle.live_sets.specs.Counting.{AreMarked}
use Rattle.live_sets.specs.Levels.{AreCounts, AreKeyCounts, level_at}
use Rattle.live_sets.proofs.Leveled.{keys_here, keys_push}
use Rattle.live_sets.proofs.counts.Counts.push.Goals as goal

pub returns-in-Keys-clause-counts : goal.returns-in-Keys-clause-counts
returns-in-Keys-clause-counts c =
    let p = c.args.sets.now in
    let os : List ℕ = c.args.step.chosen.now in
    let A : Counts → Type 0 = λ counts. AreCounts c.args.sets.now c.args.step.chosen.now counts in
    let are : AreKeyCounts c.args.sets.now c.args.step.chosen.now c.in-Keys.keys.items = subst A c.in-Keys.is c.requires.counts in
    let keys = with_items_is c.in-Keys.keys c.count_level.new.keys (omega (arith, c.count_level.auto.keys, c.deref_mut.ensures.len)) in
    let K : List ℕ → Type 0 = λ ks. AreKeyCounts c.args.sets.now (c.args.step.chosen.now ++ c.args.step.option ∷ []) ks in
    let M : List ℕ → Type 0 = λ ks. AreMarked c.args.sets.now c.args.step.chosen.now (level_at c.args.sets.now.primary (length c.args.step.chosen.now) ks) in
    let made = c.count_level.ensures.next os (subst M (sym c.deref_mut.ensures.value) (keys_here p os c.in-Keys.keys.items are)) c.requires.step.live in
    subst K (sym keys) (keys_push p os c.args.step.option c.in-Keys.keys.items c.count_level.new.keys are (c.count_level.auto.keys ∙ ap length c.deref_mut.ensures.value)
    (λ e le. c.count_level.ensures.kept e le ∙ ap (level_at p.primary e) c.deref_mut.ensures.value) made.marked)
