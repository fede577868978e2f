-- A finding of a job that the site waits for.
use Rattle.std.proofs.Common.{◌≡◌, ℕ, ◌<◌, true, List, [], length, Option, Some, None, refl, sym, ◌∙◌, subst}
use Rattle.brancher.specs.Finding.{Finding}
use Rattle.cover_problem.specs.Branching.{children}
use Rattle.cover_problem.specs.Prefix.{is_prefix}
use Rattle.cover_problem.specs.Problem.{Problem}
use Rattle.cover_problem.specs.Search.{Outcome, Spent}
use Rattle.node_core.proofs.Branches.{spent_has_children}
use Rattle.node_core.specs.Acting.{HasPrefixes}
use Rattle.node_core.specs.Results.{IsRight, Leaves, PostStep, SplitStep}
use Rattle.node_core.specs.SiteView.{View, unit_in}
use Rattle.packet_wire.specs.declared.packet.Packet.{Packet}
use Rattle.spawn_frame.specs.Tables.{IsAtWork, has_status, is_here, prefix_in}
use Rattle.spawn_frame.specs.Units.{Entry, Table, unit_of}
use Rattle.spawn_frame.specs.declared.unit.Job.{Job}
use Rattle.spawn_frame.specs.declared.unit.Unit.{Unit as WorkUnit}

-- what a search leaves makes the step
pub posted : (problem : Problem) (old : View) (job : Job) (finding : Finding) (out : List Packet) (new : View) (outcome : Outcome)
    → IsAtWork job.attempt finding.prefix (unit_in old job.unit) → IsRight problem finding → outcome ≡ finding.outcome
    → Leaves problem old job.unit finding.prefix outcome out new → PostStep problem old job finding out new
posted problem old job finding out new outcome work right told leaves = record {
  entry = work.entry;
  is = work.is;
  here = work.here;
  attempt = work.attempt_is;
  prefix = work.prefix_is;
  right = right;
  leaves = subst (λ o. Leaves problem old job.unit finding.prefix o out new) told leaves;
}

-- where a search told that the fuel was spent, the prefix has children
pub spent_goes_on : (problem : Problem) (finding : Finding) (prefix : List ℕ) → IsRight problem finding → Spent ≡ finding.outcome
    → prefix ≡ finding.prefix → 0 < length (children problem prefix)
spent_goes_on problem finding prefix right told same =
    subst (λ p. 0 < length (children problem p)) (sym same) (spent_has_children problem finding.prefix finding.fuel right.fuel (sym right.outcome ∙ sym told))

-- the unit is split by the prefix of the finding
pub posted_split : (problem : Problem) (old : View) (job : Job) (finding : Finding) (prefix : List ℕ) (new : View)
    → IsAtWork job.attempt finding.prefix (unit_in old job.unit) → IsRight problem finding → Spent ≡ finding.outcome
    → prefix ≡ finding.prefix → SplitStep problem old job.unit prefix new → PostStep problem old job finding [] new
posted_split problem old job finding prefix new work right told same split =
    let by_prefix : SplitStep problem old job.unit finding.prefix new = subst (λ p. SplitStep problem old job.unit p new) same split in
    posted problem old job finding [] new Spent work right told (by_prefix.0, by_prefix.1, refl)

-- the job is that of the view's table
pub same_work : (old : View) (job : Job) (finding : Finding) (table : Table) (prefix : List ℕ) → table ≡ old.table → prefix ≡ finding.prefix
    → IsAtWork job.attempt prefix (unit_of table job.unit) → IsAtWork job.attempt finding.prefix (unit_in old job.unit)
same_work old job finding table prefix t p work =
    let P : List ℕ → Type 0 = λ q. IsAtWork job.attempt q (unit_of old.table job.unit) in
    let Q : Table → Type 0 = λ s. IsAtWork job.attempt prefix (unit_of s job.unit) in
    subst P p (subst Q t work)

-- a unit that is here is of a prefix
pub here_prefix : (problem : Problem) (view : View) (unit : WorkUnit) → HasPrefixes problem view
    → has_status is_here (unit_in view unit) ≡ true → is_prefix problem (prefix_in (unit_in view unit)) ≡ true
here_prefix problem view unit prefixes = by (unit_in view unit) refl
  where
    by : (o : Option Entry) → unit_in view unit ≡ o → has_status is_here o ≡ true → is_prefix problem (prefix_in o) ≡ true
    by None e here = absurd (cc)
    by (Some entry) e here = prefixes unit entry e
