use Rattle.std.proofs.Common.{◌≡◌, ℕ, List, [], length, arith, ap, ◌∙◌, subst, sym}
use Rattle.cover_problem.specs.Problem.{Problem}
use Rattle.live_sets.specs.Counting.{AreKeys}
use Rattle.live_sets.proofs.Layered.{level_first}
use Rattle.live_sets.proofs.Leveled.{first_zeros}
use Rattle.live_sets.proofs.Marked.{marked_none}
use Rattle.live_sets.proofs.level.count_first.Goals as goal

pub returns-clause-keys : goal.returns-clause-keys
returns-clause-keys c =
    let p = c.args.sets.now in
    let width : c.primary.result ≡ c.args.sets.now.primary = c.primary.ensures.count ∙ ap (λ (q : Problem). q.primary) c.problem.ensures.problem in
    let long : length c.count_rows.new.keys ≡ c.args.sets.now.primary = omega (arith, c.count_rows.auto.keys, c.split_at_mut-first.ensures.front_len, width) in
    let old : length c.split_at_mut-first.result.0.now ≡ c.args.sets.now.primary = omega (arith, c.split_at_mut-first.ensures.front_len, width) in
    let marked = marked_none p c.split_at_mut-first.result.0.now old (first_zeros c.args.keys.now c.split_at_mut-first.result.0.now c.primary.result c.split_at_mut-first.ensures.front c.requires.zeros) in
    let P : List ℕ → Type 0 = λ ks. AreKeys c.args.sets.now [] ks c.count_rows.result in
    subst P (sym (level_first c.args.sets.now.primary c.count_rows.new.keys c.split_at_mut-first.result.1.now long)) (c.count_rows.ensures [] c.requires.live marked)
