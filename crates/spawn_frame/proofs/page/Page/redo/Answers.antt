use Rattle.std.proofs.Common.{◌<◌, length, ap, ◌∙◌, arith}
use Rattle.spawn_frame.specs.Works.{change_child, redone_work}
use Rattle.spawn_frame.proofs.Places.{work_written}
use Rattle.spawn_frame.proofs.page.Page.redo.Goals as goal

pub returns : goal.returns
returns c =
    let own = c.self.inside.children.items in
    let within : c.args.place < length own = omega (arith, ap length c.self.view_is, c.requires.within) in
    work_written redone_work own c.args.place c.index_mut.result.now _ within c.index_mut.ensures.value c.redo.ensures
    ∙ ap (λ l. change_child redone_work l c.args.place) c.self.view_is
