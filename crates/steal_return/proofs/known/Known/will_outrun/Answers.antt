use Rattle.std.proofs.Common.{◌≡◌, ◌≤◌, length, sym, ap, ◌∙◌, arith}
use Rattle.std.proofs.lemmas.Bool.{le-ltb}
use Rattle.steal_return.proofs.Learning.{after_length, no_such_node}
use Rattle.steal_return.proofs.known.Known.will_outrun.Goals as goal
use Rattle.steal_return.specs.Members.{known_after}

pub returns-else-node-known : goal.returns-else-node-known
returns-else-node-known c =
    let incarnations = c.args.self.now in
    let same : length c.as_slice-known.result.now ≡ length incarnations = ap length c.as_slice-known.ensures.value in
    let past : length (known_after c.args.news incarnations) ≤ c.args.site.node =
    omega (arith, after_length c.args.news incarnations c.as_slice-known.ensures.known.some, same, c.if-node-known.false) in
    le-ltb _ _ c.if-node-known.false ∙ sym (no_such_node (known_after c.args.news incarnations) c.args.site past)
