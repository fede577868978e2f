use Rattle.std.proofs.Common.{◌≡◌, ◌+◌, vec_len}
use Rattle.std.specs.Vec.Iter.{into_iter_len}
use Rattle.udp_node.specs.Numbers.{AreNumbered}
use Rattle.udp_node.proofs.run.runs_for.Given as goal

abbrev pub invariant-loop-link : goal.invariant-loop-link
invariant-loop-link g l = record {
  many : vec_len l.runs + into_iter_len l.link-iterator ≡ vec_len l.fn.links;
  numbered : AreNumbered (λ site. site.node) l.runs.items;
}
