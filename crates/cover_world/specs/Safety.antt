-- What holds of each run.
use Rattle.std.specs.Prelude.{◌≡◌, ◌≢◌, ◌⊎◌, ℕ, ◌≤◌, Bool, List, Option, Some, None, slice_get}
use Rattle.cover_problem.specs.ExactCover.{IsExactCover}
use Rattle.cover_problem.specs.Numbers.{is_in}
use Rattle.cover_problem.specs.Problem.{Problem}
use Rattle.cover_problem.specs.declared.answer.Answer.{Answer}
use Rattle.cover_problem.specs.declared.answer.Answer.TheVariants.{Cover, NoCover}
use Rattle.cover_world.specs.Worlds.{Acts, EachStep, Restarts, Run, SomeTime, World, WorldMove, after}
use Rattle.node_core.specs.Requests.{registry}
use Rattle.node_core.specs.SiteView.{View}
use Rattle.node_core.specs.declared.event.Event.{Event}
use Rattle.node_core.specs.declared.event.Event.TheVariants.{Deliver, Post}
use Rattle.packet_wire.specs.declared.packet.Body.{Body}
use Rattle.packet_wire.specs.declared.packet.Body.TheVariants.{Return}
use Rattle.root_registry.specs.Published.{published_by}
use Rattle.spawn_frame.specs.Units.{Entry, guest_in}
use Rattle.spawn_frame.specs.declared.child_result.ChildResult.{ChildResult}
use Rattle.spawn_frame.specs.declared.site.ChildName.{ChildName}
use Rattle.spawn_frame.specs.declared.status.Status.TheVariants.{Aborted, Done, Settled}

-- what a site of this world holds
pub record HasChild (world : World) (name : ChildName) (entry : Entry) : Type 0 where
  pub view : View
  pub is : slice_get world.sites name.site.node ≡ Some view
  pub site : view.site ≡ name.site
  pub child : slice_get view.own name.serial ≡ Some entry

-- some site of this world has a guest of that name
pub record HasGuest (world : World) (name : ChildName) (entry : Entry) : Type 0 where
  pub node : ℕ
  pub attempt : ℕ
  pub view : View
  pub is : slice_get world.sites node ≡ Some view
  pub guest : guest_in view.guests name attempt ≡ Some entry

-- the owner has the child done with this result
pub record OwnerAccepts (world : World) (name : ChildName) (result : ChildResult) : Type 0 where
  pub entry : Entry
  pub has : HasChild world name entry
  pub done : entry.status ≡ Done result

-- a thief has settled on this result
pub record ThiefAccepts (world : World) (name : ChildName) (result : ChildResult) : Type 0 where
  pub entry : Entry
  pub has : HasGuest world name entry
  pub settled : entry.status ≡ Settled result

-- owner or thief has accepted the result
abbrev pub Accepts : ChildName → ChildResult → World → Type 0
Accepts name result world = OwnerAccepts world name result ⊎ ThiefAccepts world name result

-- no two results of one name are accepted in the run, whenever and wherever
abbrev pub OneResult : {problem : Problem} {start end : World} → Run problem start end → Type 0
OneResult run = (name : ChildName) (r s : ChildResult) → SomeTime (Accepts name r) run → SomeTime (Accepts name s) run → r ≡ s

-- the attempt that a Return names
abbrev pub attempt_of : Body → ℕ → ℕ
attempt_of (Return serial attempt result) own = attempt
attempt_of _ own = own

-- the attempt at which an event lets a result enter: that of the job or the packet, else the child's own
abbrev pub attempt_in : Event → ℕ → ℕ
attempt_in (Post job finding) own = job.attempt
attempt_in (Deliver packet) own = attempt_of packet.body own
attempt_in _ own = own

-- the same of an event of the world
abbrev pub attempt_at : WorldMove → ℕ → ℕ
attempt_at (Acts node event) own = attempt_in event own
attempt_at (Restarts node incarnation limit) own = own

-- the child becomes done in this step
pub record ResultEnters (old : World) (event : WorldMove) (new : World) (name : ChildName) (attempt : ℕ) : Type 0 where
  pub before : Entry
  pub has : HasChild old name before
  pub not_done : (result : ChildResult) → before.status ≢ Done result
  pub result : ChildResult
  pub done : OwnerAccepts new name result
  pub attempt_is : attempt ≡ attempt_at event before.attempt

-- no result enters at a child that is aborted in this world, or at an attempt that is superseded in it
abbrev pub NoneLate : World → World → WorldMove → World → Type 0
NoneLate now old event new =
    (name : ChildName) (entry : Entry) (attempt : ℕ) → HasChild now name entry → ResultEnters old event new name attempt
    → (entry.status ≢ Aborted) × (entry.attempt ≤ attempt)

-- what the registry publishes, where there is the registry
abbrev pub published_at : Problem → Option View → Option Answer
published_at problem None = None
published_at problem (Some registry) = published_by problem registry

-- the root's result once it is done: a cover in file order, or that there is none
abbrev pub published : Problem → World → Option Answer
published problem world = published_at problem (slice_get world.sites 0)

-- A run, and a run that goes on from its end: one result for each name, none late, covers right, none only where there is none, and published for good.
pub record Safe {problem : Problem} {start now end : World} (e : Run problem start now) (f : Run problem now end) : Type 0 where
  pub one_result : OneResult (after e f)
  pub none_late : EachStep (NoneLate now) f
  pub covers : (options : List ℕ) → published problem end ≡ Some (Cover options) → IsExactCover problem (is_in options)
  pub no_cover : published problem end ≡ Some NoCover → (chosen : ℕ → Bool) → IsExactCover problem chosen → ⊥
  pub kept : (answer : Answer) → published problem now ≡ Some answer → published problem end ≡ Some answer
