use Rattle.std.proofs.Common.{ℕ, ◌≡◌, ◌-◌, ◌*◌, ◌^◌, ◌<◌, List, length, replicate, get_or, arith, rules, sym, subst, ap, ◌∙◌}
use Rattle.std.proofs.lemmas.List.{length-replicate, get_or-replicate}
use Rattle.cover_problem.specs.Problem.{Problem}
use Rattle.option_sets.specs.ClashTables.{AreAllKept}
use Rattle.option_sets.proofs.Members.{written}
use Rattle.option_sets.proofs.kept.kept_sets.Goals as goal

full : (c : goal.After-deref_mut) → c.deref_mut.result.now ≡ replicate (c.options-options.result * c.words.result) (2 ^ 64 - 1)
full c = c.deref_mut.ensures.value ∙ c.in_ok-kept.ensures.items_if_clones_equal (λ y e. e)

pub bar_each-requires-clause-full : goal.bar_each-requires-clause-full
bar_each-requires-clause-full c k d low =
    let count : ℕ = c.options-options.result * c.words.result in
    let inside : k < c.options-options.result * c.words.result = omega (arith, low, ap length (full c), length-replicate (c.options-options.result * c.words.result) (2 ^ 64 - 1)) in
    ap (λ (ws : List ℕ). get_or ws k d) (full c) ∙ get_or-replicate (c.options-options.result * c.words.result) k (2 ^ 64 - 1) d inside

pub bar_each-requires-clause-long : goal.bar_each-requires-clause-long
bar_each-requires-clause-long c =
    ap length (full c) ∙ length-replicate (c.options-options.result * c.words.result) (2 ^ 64 - 1)
    ∙ ap (λ n. n * c.words.result) (c.options-options.ensures.count ∙ ap (λ (p : Problem). length p.options) c.problem.ensures.problem)
    ∙ ap (λ n. length c.args.tables.now.options * n) c.words.ensures.words

pub returns : goal.returns
returns c some =
    let all : length c.bar_each.new.sets ≡ c.in_ok-kept.kept.len = search rules in
    subst (AreAllKept c.args.tables.now) (sym (written c.in_ok-kept.kept.items c.bar_each.new.sets c.in_ok-kept.kept.len all)) c.bar_each.ensures
