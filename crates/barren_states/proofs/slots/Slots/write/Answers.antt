use Rattle.std.proofs.Common.{ap, ◌∙◌, sym, ◌+◌, ◌*◌, ◌<◌, ◌≡◌, ◌++◌, ◌∷◌, [], ℕ, List, take, drop, length, arith, subst}
use Rattle.std.proofs.lemmas.List.{with_items_is}
use Rattle.barren_states.specs.States.{States, IsKept}
use Rattle.barren_states.proofs.Laid.{kept_is, with_words}
use Rattle.barren_states.proofs.slots.Slots.write.Goals as goal

pub returns-clause-kept : goal.returns-clause-kept
returns-clause-kept c =
    let t = c.self.inside in
    let start : ℕ = c.args.slot * (c.self.inside.width + 1) in
    let P : States → Type 0 = λ s. IsKept s c.args.key.now c.args.visits (with_words c.self.inside.width c.self.inside.count c.self.inside.most c.write_slot.new.words) in
    let words = c.write_slot.ensures ∙ ap (λ (ws : List ℕ). take (c.args.slot * (c.self.inside.width + 1)) ws ++ ((c.args.key.now ++ c.args.visits ∷ []) ++ drop (c.args.slot * (c.self.inside.width + 1) + length c.args.key.now + 1) ws)) c.deref_mut.ensures.value in
    let N : List ℕ → Type 0 = λ ws. IsKept c.args.self.now c.args.key.now c.args.visits (with_words c.self.inside.width c.self.inside.count c.self.inside.most ws) in
    let less : c.args.slot < c.self.inside.count = omega (arith, c.requires.slot, ap (λ (s : States). s.slots) c.self.view_is) in
    let long : length c.args.key.now ≡ c.self.inside.width = c.requires.key ∙ sym (ap (λ (s : States). s.width) c.self.view_is) in
    let kept : IsKept c.args.self.now c.args.key.now c.args.visits (with_words c.self.inside.width c.self.inside.count c.self.inside.most c.write_slot.new.words) = subst P c.self.view_is (kept_is t.width t.count t.most t.words.items c.write_slot.new.words c.args.key.now c.args.visits c.args.slot less c.self.invariant.0 long words) in
    subst N (sym (with_items_is t.words c.write_slot.new.words (omega (arith, c.write_slot.auto.words, c.deref_mut.ensures.len)))) kept
