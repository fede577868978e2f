use Rattle.std.proofs.Common.{◌≡◌, List, ◌<◌, length, false, ap, arith, ◌∙◌, vec_capacity}
use Rattle.cover_problem.specs.Branching.{live_options}
use Rattle.cover_problem.specs.Prefix.{is_covered}
use Rattle.dancing_links.specs.declared.link.Link.{Link}
use Rattle.choices.specs.Choices.{Choices}
use Rattle.dancing_links.specs.Linking.{down_of}
use Rattle.dancing_links.specs.Walking.{options_left}
use Rattle.dancing_links.proofs.Views.{left_all}
use Rattle.dancing_links.proofs.links.Links.options_of.Goals as goal

pub returns : goal.returns
returns c =
    let p = c.self.inside.problem.now in
    let cs = c.self.inside.layout in
    let os = c.self.inside.chosen.items in
    let inside : c.args.item < length c.self.inside.problem.now.names = omega (arith, c.requires.item, ap (λ (v : Choices). length v.problem.names) c.self.view_is) in
    let free : is_covered c.self.inside.problem.now c.self.inside.chosen.items c.args.item ≡ false = ap (λ (v : Choices). is_covered v.problem v.chosen c.args.item) c.self.view_is ∙ c.requires.uncovered in
    c.from_node.ensures
    ∙ ap (λ (m : List Link). options_left cs m (down_of c.links.result.now c.args.item)) c.links-2.ensures
    ∙ ap (λ (m : List Link). options_left cs c.self.inside.board.links (down_of m c.args.item)) c.links.ensures
    ∙ left_all p cs os c.self.inside.entries.items c.self.inside.board.links c.self.inside.board.keys (vec_capacity c.self.inside.chosen) c.args.item c.self.invariant.0 inside free
    ∙ ap (λ (v : Choices). live_options v.problem v.chosen c.args.item) c.self.view_is
