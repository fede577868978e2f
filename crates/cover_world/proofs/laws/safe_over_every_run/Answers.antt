use Rattle.cover_world.specs.Worlds.{after}
use Rattle.cover_world.proofs.Entering.{none_late}
use Rattle.cover_world.proofs.Published.{published_stays, published_counts}
use Rattle.cover_world.proofs.Told.{one_result}
use Rattle.cover_world.proofs.Hopes.{none_published, all_covered}
use Rattle.cover_world.proofs.laws.safe_over_every_run.Goals as goal

pub returns-clause-safe : goal.returns-clause-safe
returns-clause-safe c = λ problem nodes limits now end e f. record {
  one_result = one_result nodes limits (after e f);
  none_late = none_late f;
  covers = λ options p. published_counts nodes limits (after e f) options p;
  no_cover = λ p chosen cover. none_published nodes limits (after e f) p chosen cover;
  kept = λ answer p. published_stays f answer p;
}

pub returns-clause-covered : goal.returns-clause-covered
returns-clause-covered c = λ problem nodes limits now e. all_covered nodes limits e
