use Rattle.std.proofs.Common.{Some, sym, ap, ◌∙◌}
use Rattle.spawn_frame.specs.Works.{new_work}
use Rattle.spawn_frame.proofs.Grown.{last_behind}
use Rattle.spawn_frame.proofs.building.new_child.Goals as goal

pub returns : goal.returns
returns c =
    let last = sym (last_behind c.args.path.now.options c.args.option) in
    let work = c.new.ensures ∙ ap (λ l. new_work l 1) c.with.ensures in
    λ i. record { parent = Some c.args.unit; option = last i; work = work i }
