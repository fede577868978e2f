use Rattle.std.proofs.Common.{◌≡◌, ◌+◌, ◌*◌, ◌-◌, ◌<◌, ◌∙◌, ℕ, List, take, drop, get_or, arith, ap, sym, subst}
use Rattle.std.proofs.lemmas.List.{get_or_default}
use Rattle.barren_states.specs.States.{States, Holds}
use Rattle.barren_states.proofs.Laid.{read_is, slot_inside}
use Rattle.barren_states.proofs.slots.Slots.copy.Goals as goal

pub returns : goal.returns
returns c = λ some.
    let t = c.self.inside in
    let P : States → Type 0 = λ s. Holds s c.copy_from_slice.new.self c.index.result.now in
    let less : c.args.slot < c.self.inside.count = omega (arith, c.requires.slot, ap (λ (s : States). s.slots) c.self.view_is) in
    let room = slot_inside (t.width + 1) c.args.slot t.count less in
    let width : c.args.slot * (c.self.inside.width + 1) + c.self.inside.width - c.args.slot * (c.self.inside.width + 1) ≡ c.self.inside.width = omega arith in
    let here : take c.self.inside.width (drop (c.args.slot * (c.self.inside.width + 1)) c.self.inside.words.items) ≡ c.copy_from_slice.new.self =
    ap (λ (ws : List ℕ). take c.self.inside.width (drop (c.args.slot * (c.self.inside.width + 1)) ws)) (sym c.deref.ensures.value)
    ∙ ap (λ n. take n (drop (c.args.slot * (c.self.inside.width + 1)) c.deref.result.now)) (sym width)
    ∙ sym c.copy_from_slice.ensures.after in
    let visits : get_or c.self.inside.words.items (c.args.slot * (c.self.inside.width + 1) + c.self.inside.width) 0 ≡ c.index.result.now =
    sym (get_or_default c.self.inside.words.items (c.args.slot * (c.self.inside.width + 1) + c.self.inside.width) c.index.result.now 0 (omega (arith, room, c.self.invariant.0))) ∙ sym c.index.ensures in
    subst P c.self.view_is (read_is t.width t.count t.most t.words.items c.copy_from_slice.new.self c.index.result.now c.args.slot less c.self.invariant.0 here visits some)
