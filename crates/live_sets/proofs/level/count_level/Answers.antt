use Rattle.std.proofs.Common.{ℕ, List, ◌≡◌, ◌+◌, ◌*◌, ◌-◌, ◌≤◌, ◌∷◌, ◌++◌, [], take, drop, length, length-take-le, arith, ap, ◌∙◌, subst, sym}
use Rattle.cover_problem.specs.Problem.{Problem}
use Rattle.live_sets.specs.Counting.{AreKeys, AreMarked}
use Rattle.live_sets.specs.Levels.{level_at}
use Rattle.live_sets.proofs.Layered.{level_back, level_last, level_front, level_low}
use Rattle.live_sets.proofs.level.count_level.Goals as goal

pub returns-clause-next : goal.returns-clause-next
returns-clause-next c prefix marked live =
    let p = c.args.sets.now in
    let w : ℕ = c.args.sets.now.primary in
    let width : c.primary-width.result ≡ c.args.sets.now.primary = c.primary-width.ensures.count ∙ ap (λ (q : Problem). q.primary) c.problem.ensures.problem in
    let start : c.args.depth * c.primary-width.result ≡ c.args.depth * c.args.sets.now.primary = ap (λ n. c.args.depth * n) width in
    let front : List ℕ = c.split_at_mut-front.result.0.now in
    let back : List ℕ = c.split_at_mut-front.result.1.now in
    let last = level_last w c.args.depth c.args.keys.now c.split_at_mut-front.result.0.now (c.split_at_mut-front.ensures.front ∙ ap (λ n. take (c.args.depth * n + n) c.args.keys.now) width) (omega (arith, c.requires.inside)) in
    let before : take (length c.split_at_mut-front.result.0.now - c.args.depth * c.primary-width.result) (drop (c.args.depth * c.primary-width.result) c.split_at_mut-front.result.0.now) ≡ level_at c.args.sets.now.primary c.args.depth c.args.keys.now =
    ap (λ n. take (length c.split_at_mut-front.result.0.now - c.args.depth * n) (drop (c.args.depth * n) c.split_at_mut-front.result.0.now)) width ∙ last in
    let P : List ℕ → Type 0 = λ ks. AreMarked c.args.sets.now prefix ks in
    let Q : List ℕ → Type 0 = λ ks. AreKeys c.args.sets.now (prefix ++ c.args.option ∷ []) ks c.count_next.result in
    let made = level_back w c.args.depth front c.count_next.new.keys (drop c.primary-width.result back) (omega (arith, width, start, c.split_at_mut-front.ensures.front_len))
    (c.count_next.auto.keys ∙ length-take-le c.primary-width.result c.split_at_mut-front.result.1.now (omega (arith, width, start, c.split_at_mut-front.ensures.back_len, c.requires.inside)) ∙ width) in
    subst Q (sym made) (c.count_next.ensures prefix (subst P (sym before) marked) live)

pub returns-clause-kept : goal.returns-clause-kept
returns-clause-kept c e le =
    let w : ℕ = c.args.sets.now.primary in
    let width : c.primary-width.result ≡ c.args.sets.now.primary = c.primary-width.ensures.count ∙ ap (λ (q : Problem). q.primary) c.problem.ensures.problem in
    let start : c.args.depth * c.primary-width.result ≡ c.args.depth * c.args.sets.now.primary = ap (λ n. c.args.depth * n) width in
    let front : List ℕ = c.split_at_mut-front.result.0.now in
    let back : List ℕ = c.split_at_mut-front.result.1.now in
    let low = level_low w e c.args.depth le in
    let inside : e * c.args.sets.now.primary + c.args.sets.now.primary ≤ length c.split_at_mut-front.result.0.now = omega (arith, low, width, start, c.split_at_mut-front.ensures.front_len) in
    level_front w e front (c.count_next.new.keys ++ drop c.primary-width.result back) inside ∙ sym (level_front w e front back inside)
    ∙ ap (level_at w e) (sym c.split_at_mut-front.ensures.value)
