-- A node is formed when it begins.
use Rattle.std.proofs.Common.{ℕ, ◌<◌, arith}
use Rattle.std.proofs.lemmas.Option.{none-some}
use Rattle.cover_problem.specs.Problem.{IsProblem, Problem}
use Rattle.node_core.proofs.Knowing.{first_known, node_site}
use Rattle.node_core.proofs.Telling.{counted_told}
use Rattle.node_core.specs.Formed.{IsFormedNode, MayBegin}
use Rattle.node_core.specs.SiteView.{opening_view}
use Rattle.spawn_frame.specs.Tables.{HasParents, empty_table}
use Rattle.spawn_frame.specs.declared.site.Site.{Site}
use Rattle.steal_return.specs.Ledger.{opening_ledger}

no_parents : (site : Site) (limit : ℕ) → HasParents (empty_table site limit)
no_parents site limit = record {
  lower = λ k j c at is. absurd (none-some c at);
  there = λ k c unit at is. absurd (none-some c at);
}

pub begins_formed : (problem : Problem) (site : Site) (nodes limit : ℕ) → IsProblem problem → MayBegin site nodes limit → IsFormedNode problem (opening_view (opening_ledger site nodes limit))
begins_formed problem site nodes limit p may =
    let first = may.first in
    let last = may.last in
    let most = may.most in
    let four_bytes : site.incarnation < 4294967296 = may.four_bytes in
    record {
      formed = record {
        lawful = p;
        some = omega (arith, first, last);
        most = most;
        within = last;
        known = first_known nodes;
        units = record {
          site = node_site site.node site.incarnation first (omega (arith, last, most)) (counted_told site.incarnation may.counted four_bytes);
          small = may.small;
          names = omega arith;
          parents = no_parents site limit;
          ascending = tt;
          own = tt;
          guests = tt;
        };
      };
      node = first;
    }
