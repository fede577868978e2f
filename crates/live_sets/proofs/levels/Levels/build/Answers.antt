use Rattle.std.proofs.Common.{◌≡◌, ℕ, ◌+◌, ◌*◌, length, get_or, set, arith, ap, ◌∙◌, sym}
use Rattle.std.proofs.lemmas.List.{get_or-set_same, length-set, length-replicate}
use Rattle.cover_problem.specs.Problem.{Problem}
use Rattle.option_sets.specs.Sets.{words_of}
use Rattle.live_sets.specs.Counting.{item_of}
use Rattle.live_sets.proofs.Leveled.{levels_none}
use Rattle.live_sets.proofs.levels.Levels.build.Goals as goal

pub returns : goal.returns
returns c =
    let p = c.args.sets.now in
    let none : ℕ = 0 in
    let r : ℕ = c.primary-levels.result in
    let width : c.primary-levels.result ≡ c.args.sets.now.primary = c.primary-levels.ensures.count ∙ ap (λ (q : Problem). q.primary) c.problem.ensures.problem in
    let places : length c.in_ok-leasts.leasts.items ≡ c.primary-levels.result + 1 = ap length (c.in_ok-leasts.ensures.items_if_clones_equal (λ y e. e)) ∙ length-replicate (r + 1) none in
    let at : get_or (set c.in_ok-leasts.leasts.items 0 c.in_ok-counts.least) 0 0 ≡ c.in_ok-counts.least = get_or-set_same c.in_ok-leasts.leasts.items 0 c.in_ok-counts.least 0 (omega (arith, places)) in
    levels_none p _ (c.in_ok-live.ensures.long ∙ ap (λ n. (n + 1) * words_of p) width)
    (length-set c.in_ok-leasts.leasts.items 0 c.in_ok-counts.least ∙ places ∙ ap (λ n. n + 1) width)
    c.in_ok-live.ensures.all (c.in_ok-counts.ensures.branch ∙ ap item_of (sym at)) c.in_ok-counts.ensures.counts
