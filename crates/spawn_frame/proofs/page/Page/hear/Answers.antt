use Rattle.std.proofs.Common.{◌<◌, length, option_map, slice_get, Some, sym, ap, ◌∙◌, arith}
use Rattle.spawn_frame.specs.Works.{change_child, child_work, frame_says, with_heard}
use Rattle.spawn_frame.proofs.Places.{child_get, work_written}
use Rattle.spawn_frame.proofs.page.Page.hear.Goals as goal

pub returns-clause-own : goal.returns-clause-own
returns-clause-own c =
    let own = c.self.inside.children.items in
    let f = with_heard c.args.child c.args.child_result.now in
    let within : c.args.place < length own = omega (arith, ap length c.self.view_is, c.requires.within) in
    work_written f own c.args.place c.index_mut.result.now _ within c.index_mut.ensures.value c.hear-heard.ensures.hears
    ∙ ap (λ l. change_child f l c.args.place) c.self.view_is

pub returns-clause-heard : goal.returns-clause-heard
returns-clause-heard c =
    let own = c.self.inside.children.items in
    let f = with_heard c.args.child c.args.child_result.now in
    let within : c.args.place < length own = omega (arith, ap length c.self.view_is, c.requires.within) in
    let at = child_get own c.args.place c.index_mut.result.now within c.index_mut.ensures.value in
    c.hear-heard.ensures.heard ∙ ap (λ w. frame_says (Some w)) c.hear-heard.ensures.hears
    ∙ ap (λ o. frame_says (option_map f (child_work o))) (sym at)
    ∙ ap (λ l. frame_says (option_map f (child_work (slice_get l c.args.place)))) c.self.view_is
