use Rattle.std.proofs.Common.{ℕ, List, ◌≡◌, ◌+◌, ◌*◌, ◌-◌, ◌++◌, ◌&&◌, ◌≤◌, not, take, drop, length, length-take-le, arith, sym, ap, ◌∙◌}
use Rattle.cover_problem.specs.Prefix.{clash}
use Rattle.option_sets.specs.Sets.{has, words_of}
use Rattle.live_sets.specs.Levels.{level_at}
use Rattle.live_sets.proofs.Layered.{level_back, level_last, level_front, level_low}
use Rattle.live_sets.proofs.level.spare_level.Goals as goal

pub returns-clause-next : goal.returns-clause-next
returns-clause-next c x =
    let w : ℕ = words_of c.args.sets.now in
    let front : List ℕ = c.split_at_mut-front.result.0.now in
    let width = c.requires.width in
    let start : c.args.depth * c.args.width ≡ c.args.depth * words_of c.args.sets.now = ap (λ n. c.args.depth * n) width in
    let back = level_back w c.args.depth front c.spare.new.next (drop c.args.width c.split_at_mut-front.result.1.now) (omega (arith, width, start)) (c.spare.auto.next ∙ length-take-le c.args.width c.split_at_mut-front.result.1.now (omega (arith, width, start)) ∙ width) in
    let last = level_last w c.args.depth c.args.live.now front (c.split_at_mut-front.ensures.front ∙ ap (λ n. take (c.args.depth * n + n) c.args.live.now) width) (omega (arith, c.requires.inside)) in
    ap (λ (s : List ℕ). has s x) back ∙ c.spare.ensures x
    ∙ ap (λ n. has (take (length front - c.args.depth * n) (drop (c.args.depth * n) front)) x && not (clash c.args.sets.now c.args.option x)) width
    ∙ ap (λ (s : List ℕ). has s x && not (clash c.args.sets.now c.args.option x)) last

pub returns-clause-kept : goal.returns-clause-kept
returns-clause-kept c e le =
    let w : ℕ = words_of c.args.sets.now in
    let front : List ℕ = c.split_at_mut-front.result.0.now in
    let back : List ℕ = c.split_at_mut-front.result.1.now in
    let width = c.requires.width in
    let start : c.args.depth * c.args.width ≡ c.args.depth * words_of c.args.sets.now = ap (λ n. c.args.depth * n) width in
    let low = level_low w e c.args.depth le in
    let inside : e * words_of c.args.sets.now + words_of c.args.sets.now ≤ length c.split_at_mut-front.result.0.now = omega (arith, low, width, start) in
    level_front w e front (c.spare.new.next ++ drop c.args.width back) inside ∙ sym (level_front w e front back inside)
    ∙ ap (level_at w e) (sym c.split_at_mut-front.ensures.value)
