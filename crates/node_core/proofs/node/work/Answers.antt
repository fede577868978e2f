use Rattle.node_core.proofs.Posting.{here_prefix}
use Rattle.node_core.proofs.node.work.Goals as goal

pub post-requires-clause-prefix : goal.post-requires-clause-prefix
post-requires-clause-prefix c = here_prefix c.args.links.now.problem c.args.state.now c.in-Post.job.unit c.requires.prefixes
