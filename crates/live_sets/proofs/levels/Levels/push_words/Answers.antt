use Rattle.std.proofs.Common.{◌≡◌, ℕ, List, ◌+◌, ◌∷◌, ◌++◌, [], length, refl, arith, ap, ◌∙◌, subst, sym, not, ◌&&◌}
use Rattle.std.proofs.lemmas.List.{with_items_is}
use Rattle.cover_problem.specs.Prefix.{clash}
use Rattle.option_sets.specs.Sets.{has, words_of}
use Rattle.live_sets.specs.Counting.{IsLive}
use Rattle.live_sets.specs.Levels.{level_at}
use Rattle.live_sets.proofs.Leveled.{level_here, level_next, levels_pushed}
use Rattle.live_sets.proofs.levels.Levels.push_words.Goals as goal

pub push-requires-clause-step : goal.push-requires-clause-step
push-requires-clause-step c =
    let p = c.args.sets.now in
    let os : List ℕ = c.args.chosen.now in
    let n : ℕ = length c.args.chosen.now in
    let live = with_items_is c.args.self.now.live c.spare_level.new.live (omega (arith, c.spare_level.auto.live, c.deref_mut.ensures.len)) in
    let old : c.level_at.result.now ≡ level_at (words_of c.args.sets.now) (length c.args.chosen.now) c.args.self.now.live.items =
    c.level_at.ensures ∙ ap (λ w. level_at w (length c.args.chosen.now) c.deref.result.now) c.requires.words ∙ ap (level_at (words_of c.args.sets.now) (length c.args.chosen.now)) (c.deref.ensures.value ∙ live)
    ∙ c.spare_level.ensures.kept (length c.args.chosen.now) (omega arith) ∙ ap (level_at (words_of c.args.sets.now) (length c.args.chosen.now)) c.deref_mut.ensures.value in
    let new : c.level_at-2.result.now ≡ level_at (words_of c.args.sets.now) (length c.args.chosen.now + 1) c.spare_level.new.live =
    c.level_at-2.ensures ∙ ap (λ w. level_at w (length c.args.chosen.now + 1) c.deref-2.result.now) c.requires.words ∙ ap (level_at (words_of c.args.sets.now) (length c.args.chosen.now + 1)) (c.deref-2.ensures.value ∙ live) in
    let B : List ℕ → Type 0 = λ ls. IsLive c.args.sets.now c.args.chosen.now ls in
    let L : List ℕ → Type 0 = λ ls. IsLive c.args.sets.now (c.args.chosen.now ++ c.args.option ∷ []) ls in
    record {
      room = c.requires.room;
      option = c.requires.option;
      before = subst B (sym old) (level_here p os c.args.self.now c.requires.levels);
      live = subst L (sym new) (level_next p os c.args.option c.args.self.now c.spare_level.new.live c.requires.levels c.requires.room (c.spare_level.auto.live ∙ ap length c.deref_mut.ensures.value)
          (λ x. c.spare_level.ensures.next x ∙ ap (λ (s : List ℕ). has (level_at (words_of p) n s) x && not (clash p c.args.option x)) c.deref_mut.ensures.value));
    }

pub returns : goal.returns
returns c =
    let p = c.args.sets.now in
    let os : List ℕ = c.args.chosen.now in
    let n : ℕ = length c.args.chosen.now in
    let live = with_items_is c.args.self.now.live c.spare_level.new.live (omega (arith, c.spare_level.auto.live, c.deref_mut.ensures.len)) in
    let long = c.spare_level.auto.live ∙ ap length c.deref_mut.ensures.value in
    let now = level_next p os c.args.option c.args.self.now c.spare_level.new.live c.requires.levels c.requires.room long
    (λ x. c.spare_level.ensures.next x ∙ ap (λ (s : List ℕ). has (level_at (words_of p) n s) x && not (clash p c.args.option x)) c.deref_mut.ensures.value) in
    levels_pushed p os c.args.option c.args.self.now _ c.spare_level.new.live c.push.result c.requires.levels c.requires.room live refl long
    (λ e le. c.spare_level.ensures.kept e le ∙ ap (level_at (words_of p) e) c.deref_mut.ensures.value)
    now c.push.ensures.branch c.push.ensures.counts
