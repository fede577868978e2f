use Rattle.std.proofs.Common.{refl, sym, ◌∙◌, ap, []}
use Rattle.brancher.specs.Visit.{outcome_told}
use Rattle.node_core.proofs.Posting.{posted_split, same_work, spent_goes_on}
use Rattle.node_core.proofs.Sending.{sends_none}
use Rattle.node_core.proofs.site_state.SiteState.post.Goals as goal
use Rattle.node_core.specs.SiteView.{View}

pub split-requires-clause-some : goal.split-requires-clause-some
split-requires-clause-some c =
    spent_goes_on c.args.links.now.problem c.args.finding c.prefix-in-Spent.result.now c.requires.right (cc) (cc)

pub returns-in_ok-split-in-Spent-clause-step : goal.returns-in_ok-split-in-Spent-clause-step
returns-in_ok-split-in-Spent-clause-step c =
    let told = sym (ap (λ r. outcome_told r c.outcome.ensures.0) c.in-Spent.is) ∙ c.outcome.ensures.1 in
    let work = same_work c.args.self.now c.args.job c.args.finding c.table.result.now c.prefix.result.now
    (c.table.ensures.table ∙ ap (λ (v : View). v.table) c.self.view_is) c.prefix.ensures c.if-not-has_job.ensures.at_work in (
      [],
      sends_none c.args.out.now,
      (
        refl,
        posted_split c.args.links.now.problem c.args.self.now c.args.job c.args.finding c.prefix-in-Spent.result.now c.split.new.self
            work c.requires.right told c.prefix-in-Spent.ensures c.in_ok-split-in-Spent.ensures.step,
      ),
    )
