use Rattle.std.proofs.Common.{◌≡◌, ℕ, ◌<◌, ◌∙◌, ◌++◌, ◌∷◌, [], sym, ap, subst, length, arith, get_or, List}
use Rattle.std.proofs.lemmas.Grind.{get_or_default_zero}
use Rattle.std.specs.Option.{unwrap_or}
use Rattle.dlx_reader.specs.OptionIndex.{OptionIndex, key_of, entry_at, IsUnmeant, IsLowestUnmeant, IsNext}
use Rattle.dlx_reader.proofs.Keys.{key_at}
use Rattle.dlx_reader.proofs.Indexed.{changed, index_taken, lowest_unmeant, none_unmeant}
use Rattle.dlx_reader.proofs.option_index.OptionIndex.take.Goals as goal

pub returns-in_default-clause-none : goal.returns-in_default-clause-none
returns-in_default-clause-none c =
    let p = c.self.inside.problem.now in
    let key = c.args.key.now in
    let entry : entry_at p c.self.inside.lowest key ≡ length p.options = ap (λ found. unwrap_or found (length p.options)) (sym c.get.ensures.value ∙ sym c.copied.ensures ∙ c.in_default.is) in
    let P : OptionIndex → Type 0 = λ m. (option : ℕ) → IsUnmeant m.problem m.options key option → ⊥ in
    subst P c.self.view_is (none_unmeant p c.self.inside.options.items key _ (c.self.invariant.2 key) (omega (arith, entry)))

pub returns-then-from-options-clause-none : goal.returns-then-from-options-clause-none
returns-then-from-options-clause-none c =
    let p = c.self.inside.problem.now in
    let key = c.args.key.now in
    let entry : entry_at p c.self.inside.lowest key ≡ c.in-Some.option = ap (λ found. unwrap_or found (length p.options)) (sym c.get.ensures.value ∙ sym c.copied.ensures ∙ c.in-Some.is) in
    let P : OptionIndex → Type 0 = λ m. (option : ℕ) → IsUnmeant m.problem m.options key option → ⊥ in
    subst P c.self.view_is (none_unmeant p c.self.inside.options.items key _ (c.self.invariant.2 key) (omega (arith, entry, c.if-from-options.true, c.from.ensures, c.options.ensures.count)))

pub invariant_of-self-2 : goal.invariant_of-self-2
invariant_of-self-2 c =
    let p = c.self.inside.problem.now in
    let key = c.args.key.now in
    let option = c.in-Some.option in
    let inside : c.in-Some.option < length p.options = omega (arith, c.if-from-options.false, c.from.ensures, c.options.ensures.count) in
    let entry : entry_at p c.self.inside.lowest key ≡ c.in-Some.option = ap (λ found. unwrap_or found (length p.options)) (sym c.get.ensures.value ∙ sym c.copied.ensures ∙ c.in-Some.is) in
    let pushed : c.push_reserved.new.self.items ≡ c.self.inside.options.items ++ option ∷ [] = c.push_reserved.ensures.items ∙ ap (λ (own : List ℕ). own ++ option ∷ []) c.reserve.ensures.items in
    let place : c.from-3.result ≡ option = c.from-3.ensures in
    let own : c.as_slice.result.now ≡ key_of p option =
    c.as_slice.ensures ∙ key_at p (length p.options) c.from-3.result c.self.inside.keys.now _ c.self.invariant.0 (omega (arith, place, inside)) c.index-keys-from.is ∙ ap (key_of p) place in
    let updates = rw own at c.in_ok-insert.ensures.updates in
    let next : c.index-next.result.now ≡ get_or c.self.inside.next.items option 0 = c.index-next.ensures ∙ ap (λ k. get_or c.self.inside.next.items k c.index-next.result.now) c.from-2.ensures ∙ get_or_default_zero c.self.inside.next.items option c.index-next.result.now (omega (arith, inside, c.self.invariant.1.0)) in
    let P : ℕ → Type 0 = λ n. IsNext p option n in
    let following = subst P (sym next) (c.self.invariant.1.1 option (omega arith) inside) in (
      c.self.invariant.0,
      c.self.invariant.1,
      rw pushed (index_taken p c.self.inside.lowest c.insert.new.self c.self.inside.options.items key option c.index-next.result.now inside c.self.invariant.2 entry following (changed p c.self.inside.lowest c.insert.new.self (key_of p option) c.index-next.result.now updates)),
    )

pub returns-clause-some : goal.returns-clause-some
returns-clause-some c =
    let p = c.self.inside.problem.now in
    let key = c.args.key.now in
    let inside : c.in-Some.option < length p.options = omega (arith, c.if-from-options.false, c.from.ensures, c.options.ensures.count) in
    let entry : entry_at p c.self.inside.lowest key ≡ c.in-Some.option = ap (λ found. unwrap_or found (length p.options)) (sym c.get.ensures.value ∙ sym c.copied.ensures ∙ c.in-Some.is) in
    let P : OptionIndex → Type 0 = λ m. IsLowestUnmeant m.problem m.options key c.in-Some.option in
    let Q : ℕ → Type 0 = λ option. IsLowestUnmeant p c.self.inside.options.items key option in
    subst P c.self.view_is (subst Q entry (lowest_unmeant p c.self.inside.options.items key _ (c.self.invariant.2 key) (omega (arith, entry, inside))))
