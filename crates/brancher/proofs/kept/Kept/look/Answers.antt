use Rattle.std.proofs.Common.{ℕ, ◌≡◌, ◌∙◌, List, ap, sym, arith, subst}
use Rattle.std.proofs.lemmas.List.{with_items_is}
use Rattle.choices.specs.Keys.{IsKey}
use Rattle.barren_states.specs.States.{Holds, States}
use Rattle.brancher.specs.Keeping.{Keeping}
use Rattle.brancher.proofs.kept.Kept.look.Goals as goal

pub returns-clause-known : goal.returns-clause-known
returns-clause-known g c =
    let key : c.deref.result.now ≡ c.write_key.new.words = c.deref.ensures.value ∙ with_items_is c.self.inside.key c.write_key.new.words (omega (arith, c.write_key.auto.words, c.deref_mut.ensures.len)) in
    let K : List ℕ → Type 0 = λ k. IsKey (g.B.Branching.choices c.args.state.now).problem (g.B.Branching.choices c.args.state.now).chosen k in
    let S : States → Type 0 = λ s. Holds s c.deref.result.now c.in_ok-visits.visits in
    record {
      key = c.deref.result.now;
      is_key = subst K (sym key) (c.write_key.ensures c.if-not-write_key.false);
      held = subst S (ap (λ (v : Keeping). v.states) c.self.view_is) c.in_ok-visits.ensures.held;
    }
