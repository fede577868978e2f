use Rattle.std.proofs.Common.{◌<◌, length, slice_set, sym, ap, subst, ◌∙◌}
use Rattle.steal_return.proofs.Learning.{raised_is}
use Rattle.steal_return.proofs.known.Known.raise.Goals as goal
use Rattle.steal_return.specs.Members.{raised}

pub returns : goal.returns
returns c =
    let known = c.self.inside.incarnations.items in
    ap (λ n. slice_set known c.args.node n) c.later_of.ensures
    ∙ raised_is known c.args.node c.args.incarnation c.index.result.now (subst (λ k. c.args.node < length k) (sym c.self.view_is) c.requires) c.index.ensures
    ∙ ap (λ k. raised k c.args.node c.args.incarnation) c.self.view_is
