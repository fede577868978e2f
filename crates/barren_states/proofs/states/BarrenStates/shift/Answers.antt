use Rattle.std.proofs.Common.{◌≡◌, ◌∙◌, ℕ, List, arith, sym, subst}
use Rattle.std.proofs.lemmas.List.{with_items_is}
use Rattle.barren_states.specs.States.{States, Holds, HoldsNoMore}
use Rattle.barren_states.proofs.Laid.{cleared, moved}
use Rattle.barren_states.proofs.states.BarrenStates.shift.Goals as goal

pub returns-clause-held : goal.returns-clause-held
returns-clause-held c =
    let t = c.self.inside in
    let key : c.deref-3.result.now ≡ c.copy-visits.new.key = c.deref-3.ensures.value ∙ with_items_is c.self.inside.moved_key c.copy-visits.new.key (omega (arith, c.copy-visits.auto.key, c.deref_mut.ensures.len)) in
    let P : States → Type 0 = λ s. HoldsNoMore s c.write-2.new.self in
    let K : List ℕ → Type 0 = λ k. Holds c.self.inside.slots k c.copy-visits.result in
    let was = subst K (sym key) (c.copy-visits.ensures (omega (arith, c.if-visits-eq0.false))) in
    let less = cleared t.slots c.write.new.self c.deref.result.now c.write.ensures.kept in
    subst P c.self.view_is (moved t.slots c.write.new.self c.write-2.new.self c.deref-3.result.now c.copy-visits.result was less c.write-2.ensures.kept)
