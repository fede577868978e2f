-- A unit that a worker of a node has is of a prefix.
use Rattle.std.proofs.Common.{◌≡◌, ◌≤◌, List, ℕ, true, Option, Some, None, refl, sym, ap, ◌∙◌, subst, true≢false}
use Rattle.cover_problem.specs.Prefix.{is_prefix}
use Rattle.cover_problem.specs.Problem.{Problem}
use Rattle.cover_world.specs.Cores.{IsSearchable, has_job, is_at_work}
use Rattle.cover_world.specs.Plays.{entry_at}
use Rattle.node_core.proofs.Prefixes.{formed_prefixes}
use Rattle.node_core.specs.Formed.{IsFormed}
use Rattle.node_core.specs.SiteView.{View, unit_in}
use Rattle.spawn_frame.specs.Tables.{prefix_in}
use Rattle.spawn_frame.specs.Units.{Entry, Table, unit_of}
use Rattle.spawn_frame.specs.declared.unit.Job.{Job}

pub searchable : (problem : Problem) (view : View) (seen : Option View) (table : Table) (job : Job) (prefix : List ℕ) → IsFormed problem view
    → 1 ≤ view.site.node → seen ≡ Some view → table ≡ view.table → has_job table job ≡ true → prefix ≡ prefix_in (unit_of table job.unit)
    → IsSearchable problem seen job prefix
searchable problem view seen table job prefix formed node seen_is table_is has prefix_is =
    let there : is_at_work job.attempt (unit_in view job.unit) ≡ true = ap (λ t. has_job t job) (sym table_is) ∙ has in
    let is : prefix_in (unit_in view job.unit) ≡ prefix = ap (λ t. prefix_in (unit_of t job.unit)) (sym table_is) ∙ sym prefix_is in
    record {
      is = ap (λ o. prefix_in (entry_at o job.unit)) seen_is ∙ is;
      lawful = subst (λ p. is_prefix problem p ≡ true) is (go (unit_in view job.unit) refl there);
    }
  where
    go : (entry : Option Entry) → unit_in view job.unit ≡ entry → is_at_work job.attempt entry ≡ true → is_prefix problem (prefix_in (unit_in view job.unit)) ≡ true
    go None e h = absurd (true≢false (sym h))
    go (Some entry) e h =
        subst (λ o. is_prefix problem (prefix_in o) ≡ true) (sym e)
        (formed_prefixes problem view (record { formed = formed; node = node }) job.unit entry e)
