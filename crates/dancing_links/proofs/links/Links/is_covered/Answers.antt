use Rattle.std.proofs.Common.{ℕ, ◌<◌, List, get_or, length, nat_lt, not, arith, ap, ◌∙◌, vec_capacity}
use Rattle.cover_problem.specs.Prefix.{is_covered}
use Rattle.choices.specs.Choices.{Choices}
use Rattle.dancing_links.proofs.Views.{covered_test}
use Rattle.dancing_links.proofs.links.Links.is_covered.Goals as goal

pub returns : goal.returns
returns c =
    let inside : c.args.item < length c.self.inside.problem.now.names = omega (arith, c.requires, ap (λ (v : Choices). length v.problem.names) c.self.view_is) in
    c.is_marked.ensures
    ∙ ap (λ (ks : List ℕ). not (nat_lt (get_or ks c.args.item 0) 2147483648)) c.keys.ensures
    ∙ covered_test c.self.inside.problem.now c.self.inside.layout c.self.inside.chosen.items c.self.inside.entries.items c.self.inside.board.links c.self.inside.board.keys (vec_capacity c.self.inside.chosen) c.args.item c.self.invariant.0 inside
    ∙ ap (λ (v : Choices). is_covered v.problem v.chosen c.args.item) c.self.view_is
