use Rattle.std.proofs.Common.{ℕ, ◌≡◌, ◌∙◌, List, [], rules, ap, sym, arith, inl, inr, subst}
use Rattle.std.proofs.lemmas.List.{with_items_is}
use Rattle.choices.specs.Keys.{IsKey}
use Rattle.barren_states.specs.States.{IsKept, States}
use Rattle.brancher.specs.Keeping.{Keeping}
use Rattle.brancher.proofs.kept.Kept.keep.Goals as goal

pub returns-clause-states : goal.returns-clause-states
returns-clause-states g c =
    let key : c.deref.result.now ≡ c.write_key.new.words = c.deref.ensures.value ∙ with_items_is c.self.inside.key c.write_key.new.words (omega (arith, c.write_key.auto.words, c.deref_mut.ensures.len)) in
    let K : List ℕ → Type 0 = λ k. IsKey (g.B.Branching.choices c.args.state.now).problem (g.B.Branching.choices c.args.state.now).chosen k in
    let S : States → Type 0 = λ s. IsKept s c.deref.result.now c.args.visits c.keep.new.self in
    record {
      key = c.deref.result.now;
      is = inr (subst K (sym key) (c.write_key.ensures c.if-not-write_key.false), subst S (ap (λ (v : Keeping). v.states) c.self.view_is) c.keep.ensures.kept);
    }

pub returns-then-visits-lt-LEAST_VISITS-clause-states : goal.returns-then-visits-lt-LEAST_VISITS-clause-states
returns-then-visits-lt-LEAST_VISITS-clause-states g c = record { key = []; is = inl (search rules) }

pub returns-then-not-write_key-clause-states : goal.returns-then-not-write_key-clause-states
returns-then-not-write_key-clause-states g c = record { key = []; is = inl (search rules) }
