use Rattle.std.proofs.Common.{◌<◌, length, ap, ◌∙◌, arith}
use Rattle.spawn_frame.specs.Works.{change_child, split_work}
use Rattle.spawn_frame.proofs.Places.{work_written}
use Rattle.spawn_frame.proofs.page.Page.split.Goals as goal

pub returns : goal.returns
returns c =
    let own = c.self.inside.children.items in
    let within : c.args.place < length own = omega (arith, ap length c.self.view_is, c.requires.within) in
    work_written (split_work c.args.first c.args.count) own c.args.place c.index_mut.result.now _ within c.index_mut.ensures.value c.split.ensures
    ∙ ap (λ l. change_child (split_work c.args.first c.args.count) l c.args.place) c.self.view_is
