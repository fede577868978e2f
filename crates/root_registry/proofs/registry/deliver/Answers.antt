use Rattle.std.proofs.Common.{sym, ◌∙◌}
use Rattle.node_core.proofs.Acting.{directed}
use Rattle.root_registry.proofs.Routes.{from_node, heard_there}
use Rattle.root_registry.proofs.registry.deliver.Goals as goal

pub hear-requires : goal.hear-requires
hear-requires c =
    let straight = directed c.args.state.now c.args.packet (sym c.is_misdirected.ensures ∙ c.if-is_misdirected.false) in
    record {
      most = c.requires.formed.formed.most;
      some = from_node c.args.state.now c.args.packet c.requires.formed.registry straight.here c.requires.fit;
      there = straight.there;
      heard = heard_there c.args.state.now c.args.packet c.requires.formed.registry straight.here c.requires.fit;
    }
