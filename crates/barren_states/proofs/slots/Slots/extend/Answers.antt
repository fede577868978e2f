use Rattle.std.proofs.Common.{◌≡◌, ◌∙◌, ℕ, ◌+◌, ◌*◌, ◌-◌, ◌≤◌, ◌++◌, List, length, take, get_or, replicate, is_ok, true, vec_len, take_all, sym, ap, arith, inl, inr, subst, if◌then◌else◌}
use Rattle.std.proofs.Math.ListN.{get_or-eq_default}
use Rattle.std.proofs.lemmas.Bool.{cases_lt}
use Rattle.barren_states.specs.States.{States, HoldsNoMore}
use Rattle.barren_states.proofs.Laid.{grown_holds, slot_low, with_words}
use Rattle.barren_states.proofs.slots.Slots.extend.Goals as goal

pub returns-then-is_extended-clause-held : goal.returns-then-is_extended-clause-held
returns-then-is_extended-clause-held c =
    let t = c.self.inside in
    let more : ℕ = c.args.count * (c.self.inside.width + 1) in
    let P : States → Type 0 = λ s. HoldsNoMore s (with_words c.self.inside.width c.args.count c.self.inside.most c.resize.new.self.items) in
    let good : is_ok c.resize.result ≡ true = sym c.is_ok-is_extended.ensures.value ∙ c.if-is_extended.true in
    let long = c.resize.ensures.len ∙ ap (λ b. if b then more else vec_len c.self.inside.words) good in
    let words : c.resize.new.self.items ≡ c.self.inside.words.items ++ replicate (c.args.count * (c.self.inside.width + 1) - length c.self.inside.words.items) 0 =
    c.resize.ensures.items ∙ ap (λ b. if b then (take (c.args.count * (c.self.inside.width + 1)) c.self.inside.words.items ++ replicate (c.args.count * (c.self.inside.width + 1) - vec_len c.self.inside.words) 0) else c.self.inside.words.items) good
    ∙ ap (λ (ws : List ℕ). ws ++ replicate (c.args.count * (c.self.inside.width + 1) - vec_len c.self.inside.words) 0) (take_all (c.args.count * (c.self.inside.width + 1)) c.self.inside.words.items (omega (arith, slot_low (t.width + 1) t.count c.args.count (omega (arith, c.requires.more, ap (λ (s : States). s.slots) c.self.view_is)), c.self.invariant.0)))
    ∙ ap (λ (n : ℕ). c.self.inside.words.items ++ replicate (c.args.count * (c.self.inside.width + 1) - n) 0) c.self.inside.words.ok.0 in
    let zero : (k : ℕ) → length c.self.inside.words.items ≤ k → get_or c.resize.new.self.items k 0 ≡ 0 = λ k behind. elim (cases_lt k (c.args.count * (c.self.inside.width + 1))) [
      | inl less ↦ c.resize.ensures.by_index.1 k 0 good (omega (arith, behind, c.self.inside.words.ok)) less
      | inr far ↦ get_or-eq_default c.resize.new.self.items 0 (omega (arith, far, long, c.resize.new.self.ok))
    ] in
    subst P c.self.view_is (grown_holds t.width t.count c.args.count t.most t.words.items c.resize.new.self.items (replicate (c.args.count * (c.self.inside.width + 1) - length c.self.inside.words.items) 0) c.self.invariant.0 words zero)
