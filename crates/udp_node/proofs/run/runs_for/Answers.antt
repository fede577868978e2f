use Rattle.std.proofs.Common.{rules, ◌≡◌, ◌++◌, ◌∷◌, []}
use Rattle.udp_node.proofs.Gathering.{numbered_more}
use Rattle.udp_node.proofs.run.runs_for.Goals as goal

pub loop-link-preserved : goal.loop-link-preserved
loop-link-preserved g c =
    let i = c.loop-link.invariant in
    let pushed : c.push.new.self.items ≡ c.loop-link.runs.items ++ c.in_ok-site.site ∷ [] = search rules in
    record {
      many = search rules;
      numbered = rw pushed (numbered_more (λ site. site.node) c.loop-link.runs.items c.in_ok-site.site i.numbered (search rules));
    }
