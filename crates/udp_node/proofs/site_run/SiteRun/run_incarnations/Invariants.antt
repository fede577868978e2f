use Rattle.std.proofs.Common.{◌≡◌, None}
use Rattle.udp_node.proofs.site_run.SiteRun.run_incarnations.Given as goal

abbrev pub invariant-loop-incarnation : goal.invariant-loop-incarnation
invariant-loop-incarnation g l = record {
  taken : l.self.link ≡ None;
  node : l.self.node ≡ l.fn.self.node;
  restarts : l.self.restarts ≡ l.fn.self.restarts;
  incarnations : l.self.incarnations ≡ l._incarnation;
}
