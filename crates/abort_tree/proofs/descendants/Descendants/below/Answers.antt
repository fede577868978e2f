use Rattle.std.proofs.Common.{◌≡◌, eqb, length, subst, sym}
use Rattle.std.specs.List.{dedup}
use Rattle.std.proofs.lemmas.List.Filters.{dedup_is}
use Rattle.abort_tree.specs.Below.{AreSerials, MarksBelow, is_among, marks_of}
use Rattle.abort_tree.proofs.Lists.{below_once, marks_below, serials_once}
use Rattle.abort_tree.proofs.descendants.Descendants.below.Goals as goal

pub invariant_of-result : goal.invariant_of-result
invariant_of-result c =
    let top = is_among c.args.units.now in
    let own = c.args.table.now.own in
    let found = c.push_below.new.serials.items in
    let sorted = c.sort_unstable.new.self.items in
    let are = c.in_ok-push_below.ensures top c.in_ok-serials.ensures in
    let once : c.dedup.new.self.items ≡ dedup eqb sorted = dedup_is eqb sorted c.dedup.new.self.items c.dedup.ensures.filtered in
    subst (AreSerials c.issued.result) (sym once)
    (subst (λ n. AreSerials n (dedup eqb sorted)) (sym c.issued.ensures.issued) (serials_once top own found sorted c.sort_unstable.ensures.permutation are c.sort_unstable.ensures.sorted))

pub returns : goal.returns
returns c =
    let top = is_among c.args.units.now in
    let own = c.args.table.now.own in
    let found = c.push_below.new.serials.items in
    let sorted = c.sort_unstable.new.self.items in
    let are = c.in_ok-push_below.ensures top c.in_ok-serials.ensures in
    let once : c.dedup.new.self.items ≡ dedup eqb sorted = dedup_is eqb sorted c.dedup.new.self.items c.dedup.ensures.filtered in
    subst (λ n. MarksBelow top own (marks_of n c.dedup.new.self.items)) (sym c.issued.ensures.issued)
    (subst (λ serials. MarksBelow top own (marks_of (length own) serials)) (sym once) (marks_below top own (dedup eqb sorted) (below_once top own found sorted c.sort_unstable.ensures.permutation are)))
