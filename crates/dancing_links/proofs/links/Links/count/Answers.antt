use Rattle.std.proofs.Common.{◌≡◌, ℕ, ◌<◌, List, get_or, length, false, arith, ap, ◌∙◌, vec_capacity}
use Rattle.cover_problem.specs.Branching.{live_options}
use Rattle.cover_problem.specs.Prefix.{is_covered}
use Rattle.choices.specs.Choices.{Choices}
use Rattle.dancing_links.proofs.Views.{open_key}
use Rattle.dancing_links.proofs.links.Links.count.Goals as goal

pub returns : goal.returns
returns c =
    let p = c.self.inside.problem.now in
    let inside : c.args.item < length c.self.inside.problem.now.names = omega (arith, c.requires.item, ap (λ (v : Choices). length v.problem.names) c.self.view_is) in
    let free : is_covered c.self.inside.problem.now c.self.inside.chosen.items c.args.item ≡ false = ap (λ (v : Choices). is_covered v.problem v.chosen c.args.item) c.self.view_is ∙ c.requires.uncovered in
    let key = ap (λ (ks : List ℕ). get_or ks c.args.item 0) c.keys.ensures
    ∙ open_key p c.self.inside.layout c.self.inside.chosen.items c.self.inside.entries.items c.self.inside.board.links c.self.inside.board.keys (vec_capacity c.self.inside.chosen) c.args.item c.self.invariant.0 inside free in
    omega (arith, c.count_in.ensures, key, inside, c.self.invariant.0.is_problem.names) ∙ ap (λ (v : Choices). length (live_options v.problem v.chosen c.args.item)) c.self.view_is
