use Rattle.std.proofs.Common.{◌≡◌, ◌==◌, List, true, false, not, length, arith, ap, sym, ◌∙◌, vec_capacity}
use Rattle.cover_problem.specs.Prefix.{is_covered, is_live}
use Rattle.dancing_links.specs.declared.link.Link.{Link}
use Rattle.choices.specs.Choices.{Choices}
use Rattle.dancing_links.specs.Columns.{column_of}
use Rattle.dancing_links.specs.Linking.{up_of, down_of}
use Rattle.dancing_links.proofs.Chosen.{same_linked}
use Rattle.dancing_links.proofs.Ranges.{table_of}
use Rattle.dancing_links.proofs.Views.{live_known, live_covered}
use Rattle.dancing_links.proofs.links.Links.is_live.Goals as goal

pub primary_node-node-requires-clause-layout : goal.primary_node-node-requires-clause-layout
primary_node-node-requires-clause-layout c = c.self.invariant.0.layout

pub primary_node-node-requires-clause-option : goal.primary_node-node-requires-clause-option
primary_node-node-requires-clause-option c = omega (arith, c.requires, ap (λ (v : Choices). length v.problem.options) c.self.view_is)

pub item_at-item-requires : goal.item_at-item-requires
item_at-item-requires c = record { node = c.primary_node-node.ensures.in_option }

pub overflow_cast-item : goal.overflow_cast-item
overflow_cast-item c = omega (arith, c.item_at-item.ensures.item, c.primary_node-node.ensures.primary, c.self.invariant.0.is_problem.primary, c.self.invariant.0.is_problem.names)

pub is_covered-requires : goal.is_covered-requires
is_covered-requires c = omega (arith, c.item_at-item.ensures.item, c.primary_node-node.ensures.primary, c.self.invariant.0.is_problem.primary, ap (λ (v : Choices). length v.problem.names) c.self.view_is)

pub is_known-requires-clause-node : goal.is_known-requires-clause-node
is_known-requires-clause-node c =
    let t = table_of c.self.inside.problem.now c.self.inside.layout c.self.invariant.0.is_problem c.self.invariant.0.layout in
    (omega (arith, c.primary_node-node.ensures.in_option.0, t.some), c.primary_node-node.ensures.in_option.1)

pub is_known-requires-clause-linked : goal.is_known-requires-clause-linked
is_known-requires-clause-linked c = same_linked c.self.inside.layout c.self.inside.board.links c.links.result.now c.links.ensures c.self.invariant.0.linked

pub returns-then-not-is_covered : goal.returns-then-not-is_covered
returns-then-not-is_covered c =
    let k = c.primary_node-node.result in
    let free : is_covered c.self.inside.problem.now c.self.inside.chosen.items (column_of c.self.inside.layout c.primary_node-node.result) ≡ false =
    ap (is_covered c.self.inside.problem.now c.self.inside.chosen.items) (sym c.item_at-item.ensures.item) ∙ ap (λ (v : Choices). is_covered v.problem v.chosen c.item_at-item.result) c.self.view_is ∙ sym c.is_covered.ensures ∙ c.if-not-is_covered.true in
    c.is_known.ensures ∙ ap (λ (m : List Link). down_of m (up_of m k) == k) c.links.ensures
    ∙ live_known c.self.inside.problem.now c.self.inside.layout c.self.inside.chosen.items c.self.inside.entries.items c.self.inside.board.links c.self.inside.board.keys (vec_capacity c.self.inside.chosen) c.args.option k c.self.invariant.0 c.primary_node-node.ensures free
    ∙ ap (λ (v : Choices). is_live v.problem v.chosen c.args.option) c.self.view_is

pub returns-else-not-is_covered : goal.returns-else-not-is_covered
returns-else-not-is_covered c =
    let k = c.primary_node-node.result in
    let hit : is_covered c.self.inside.problem.now c.self.inside.chosen.items (column_of c.self.inside.layout c.primary_node-node.result) ≡ true =
    ap (is_covered c.self.inside.problem.now c.self.inside.chosen.items) (sym c.item_at-item.ensures.item) ∙ ap (λ (v : Choices). is_covered v.problem v.chosen c.item_at-item.result) c.self.view_is ∙ sym c.is_covered.ensures ∙ c.if-not-is_covered.false in
    ap not c.if-not-is_covered.false ∙ sym (live_covered c.self.inside.problem.now c.self.inside.layout c.self.inside.chosen.items c.args.option k c.primary_node-node.ensures hit)
    ∙ ap (λ (v : Choices). is_live v.problem v.chosen c.args.option) c.self.view_is
