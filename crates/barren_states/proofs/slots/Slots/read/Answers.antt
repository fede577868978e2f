use Rattle.std.proofs.Common.{◌≡◌, ◌+◌, ◌*◌, ◌-◌, ◌<◌, ◌∙◌, ℕ, List, take, drop, get_or, arith, ap, sym, subst}
use Rattle.std.proofs.lemmas.List.{get_or_default}
use Rattle.std.specs.Cmp.Lexicographic.{bytes_decides}
use Rattle.barren_states.specs.States.{States, Holds}
use Rattle.barren_states.proofs.Laid.{read_is, slot_inside}
use Rattle.barren_states.proofs.slots.Slots.read.Goals as goal

pub returns-then-eq : goal.returns-then-eq
returns-then-eq c =
    let t = c.self.inside in
    let start : ℕ = c.args.slot * (c.self.inside.width + 1) in
    let P : States → Type 0 = λ s. Holds s c.args.key.now c.index-visits.result.now in
    let less : c.args.slot < c.self.inside.count = omega (arith, c.requires.slot, ap (λ (s : States). s.slots) c.self.view_is) in
    let room = slot_inside (t.width + 1) c.args.slot t.count less in
    let width : c.args.slot * (c.self.inside.width + 1) + c.self.inside.width - c.args.slot * (c.self.inside.width + 1) ≡ c.self.inside.width = omega arith in
    let here : take c.self.inside.width (drop (c.args.slot * (c.self.inside.width + 1)) c.self.inside.words.items) ≡ c.args.key.now =
    ap (λ (ws : List ℕ). take c.self.inside.width (drop (c.args.slot * (c.self.inside.width + 1)) ws)) (sym c.deref.ensures.value)
    ∙ ap (λ n. take n (drop (c.args.slot * (c.self.inside.width + 1)) c.deref.result.now)) (sym width)
    ∙ (bytes_decides _ c.args.key.now).0 (sym c.if-eq.ensures) in
    let visits : get_or c.self.inside.words.items (c.args.slot * (c.self.inside.width + 1) + c.self.inside.width) 0 ≡ c.index-visits.result.now =
    sym (get_or_default c.self.inside.words.items (c.args.slot * (c.self.inside.width + 1) + c.self.inside.width) c.index-visits.result.now 0 (omega (arith, room, c.self.invariant.0))) ∙ sym c.index-visits.ensures in
    subst P c.self.view_is (read_is t.width t.count t.most t.words.items c.args.key.now c.index-visits.result.now c.args.slot less c.self.invariant.0 here visits (omega (arith, c.if-visits-ne0.true)))
