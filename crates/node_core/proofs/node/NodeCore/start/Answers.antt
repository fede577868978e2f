use Rattle.std.proofs.Common.{◌≡◌, sym, ap, ◌∙◌, subst, arith}
use Rattle.cover_problem.specs.Problem.{Problem}
use Rattle.node_core.proofs.node.NodeCore.start.Goals as goal
use Rattle.node_core.specs.Formed.{IsFormedNode}
use Rattle.node_core.specs.SiteView.{View, opening_view}

pub invariant_of-result : goal.invariant_of-result
invariant_of-result c =
    let begins = c.nodes_stay_formed.ensures.begins c.args.problem.now c.args.site c.args.nodes c.args.names_limit c.recall_rules.ensures (record {
      most = c.requires.most;
      first = c.requires.first;
      last = c.requires.last;
      counted = c.requires.incarnation;
      four_bytes = omega arith;
      small = omega arith;
    }) in
    let is : c.new.result ≡ _ = c.new.ensures ∙ ap opening_view c.in_ok-ledger.ensures in
    subst (λ (p : Problem). IsFormedNode p c.new.result) (sym c.in_ok-links.ensures.problem)
    (subst (λ (v : View). IsFormedNode c.args.problem.now v) (sym is) begins)
