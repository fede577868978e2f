use Rattle.std.proofs.Common.{◌<◌, length, refl, ap, ◌∙◌, arith}
use Rattle.spawn_frame.specs.Works.{change_child, with_work_status}
use Rattle.spawn_frame.proofs.Places.{work_written}
use Rattle.spawn_frame.proofs.page.Page.set_status.Goals as goal

pub returns : goal.returns
returns c =
    let own = c.self.inside.children.items in
    let within : c.args.place < length own = omega (arith, ap length c.self.view_is, c.requires) in
    work_written (with_work_status c.args.status) own c.args.place c.index_mut.result.now _ within c.index_mut.ensures.value refl
    ∙ ap (λ l. change_child (with_work_status c.args.status) l c.args.place) c.self.view_is
