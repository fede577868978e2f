-- A world that goes on by chance until an answer is published, and how it is brought to one.
use Rattle.std.specs.Prelude.{◌≡◌, ℕ, zero, suc, ◌-◌, min, Bool, Option, Some, None, length, slice_get}
use Rattle.cover_problem.specs.Problem.{Problem}
use Rattle.cover_problem.specs.declared.answer.Answer.{Answer}
use Rattle.cover_world.specs.Courses.{MayPass}
use Rattle.cover_world.specs.Draws.{Drawn, deck, draw, last_incarnation, node_count, present}
use Rattle.cover_world.specs.Safety.{published}
use Rattle.cover_world.specs.Views.{here_job, looked_up}
use Rattle.cover_world.specs.Worlds.{World}
use Rattle.cover_world.specs.declared.world_event.WorldEvent.{WorldEvent}
use Rattle.cover_world.specs.declared.world_event.WorldEvent.TheVariants.{Ask, Deliver, Greet, Post, Restart, Take}
use Rattle.node_core.specs.SiteView.{View}
use Rattle.rand_pcg.specs.Lcg.{Lcg}
use Rattle.spawn_frame.specs.declared.unit.Job.{Job}

-- an event happens where it is a step, and is passed over else
abbrev pub Tries : Problem → World → WorldEvent → World → Type 0
Tries problem old event new = (took : Bool) × MayPass problem old event took new

-- the one where an answer is published, the other where none is yet
abbrev pub if_answered : Option Answer → Type 0 → Type 0 → Type 0
if_answered (Some answer) Answered Unanswered = Answered
if_answered None Answered Unanswered = Unanswered

-- ---- turns

-- How a simulation stands.
pub record Simulation : Type 0 where
  pub world : World
  pub rng : Lcg  -- the generator of what is drawn
  pub restarts : ℕ  -- how many are left

-- the simulation of this world with a generator, and so many restarts left
abbrev pub simulation : World → Lcg → ℕ → Simulation
simulation world rng restarts = record { world = world; rng = rng; restarts = restarts }

-- what is drawn now, with this fuel for searches
abbrev pub drawn : ℕ → Simulation → Drawn WorldEvent
drawn fuel now = draw (deck now.world fuel now.restarts) now.rng

-- the restarts that are left once this event was drawn, be it refused or not
abbrev pub left_after : ℕ → WorldEvent → ℕ
left_after restarts (Restart node incarnation) = restarts - 1
left_after restarts _ = restarts

-- An event is drawn and tried.
pub record Draws (problem : Problem) (fuel : ℕ) (old new : Simulation) : Type 0 where
  pub tries : Tries problem old.world (drawn fuel old).0 new.world
  pub rng : new.rng ≡ (drawn fuel old).1
  pub restarts : new.restarts ≡ left_after old.restarts (drawn fuel old).0

-- a turn changes nothing once an answer is published; before, an event is drawn and tried
abbrev pub Turn : Problem → ℕ → Simulation → Simulation → Type 0
Turn problem fuel old new = if_answered (published problem old.world) (new ≡ old) (Draws problem fuel old new)

-- so many turns
abbrev pub Turns : Problem → ℕ → ℕ → Simulation → Simulation → Type 0
Turns problem fuel zero old new = new ≡ old
Turns problem fuel (suc turns) old new = (middle : Simulation) × Turns problem fuel turns old middle × Turn problem fuel middle new

-- ---- the closing phase

-- the incarnation after the present one of a site, or the last one
abbrev pub next_incarnation : Option View → ℕ
next_incarnation site = min (suc (present site)) last_incarnation

-- a node restarts
abbrev pub begin_anew : World → ℕ → WorldEvent
begin_anew world node = Restart node (next_incarnation (slice_get world.sites node))

-- the packet that was sent last is delivered
abbrev pub deliver_last : World → WorldEvent
deliver_last world = Deliver (length world.sent - 1)

-- A node restarts and greets, and is heard.
pub record Greets (problem : Problem) (node : ℕ) (old new : World) : Type 0 where
  pub anew : World
  pub begins : Tries problem old (begin_anew old node) anew
  pub greeted : World
  pub greets : Tries problem anew (Greet node) greeted
  pub heard : Tries problem greeted (deliver_last greeted) new

-- the first nodes do so one after another, so many of them
abbrev pub AllGreet : Problem → ℕ → World → World → Type 0
AllGreet problem zero old new = new ≡ old
AllGreet problem (suc nodes) old new = (middle : World) × AllGreet problem nodes old middle × Greets problem (suc nodes) middle new

-- the greatest fuel
abbrev pub all_fuel : ℕ
all_fuel = 18446744073709551615

-- the job of the first node is searched with all fuel, if it has one
abbrev pub SearchesJob : Problem → Option Job → World → World → Type 0
SearchesJob problem None old new = new ≡ old
SearchesJob problem (Some job) old new = Tries problem old (Post 1 job all_fuel) new

-- the first node asks the registry for work, and both are heard
pub record AsksForWork (problem : Problem) (old new : World) : Type 0 where
  pub asked : World
  pub asks : Tries problem old (Ask 1 0) asked
  pub answered : World
  pub heard : Tries problem asked (deliver_last asked) answered
  pub gets : Tries problem answered (deliver_last answered) new

-- The first node takes up a job and searches it, and what it says last is heard.
pub record Searches (problem : Problem) (old new : World) : Type 0 where
  pub taken : World
  pub takes : Tries problem old (Take 1) taken
  pub searched : World
  pub searches : SearchesJob problem (looked_up here_job (slice_get taken.sites 1)) taken searched
  pub heard : Tries problem searched (deliver_last searched) new

-- All nodes restart and greet; then the first one asks for work and searches it.
pub record Closes (problem : Problem) (old new : World) : Type 0 where
  pub greeted : World
  pub greet : AllGreet problem (node_count old) old greeted
  pub working : World
  pub asks : AsksForWork problem greeted working
  pub searches : Searches problem working new

-- ---- the whole

-- nothing more where an answer is published, else the closing phase
abbrev pub Ends : Problem → World → World → Type 0
Ends problem old new = if_answered (published problem old) (new ≡ old) (Closes problem old new)

-- So many turns; where no answer is published then, the closing phase.
pub record Simulated (problem : Problem) (fuel turns : ℕ) (old : Simulation) (new : World) : Type 0 where
  pub played : Simulation
  pub plays : Turns problem fuel turns old played
  pub ends : Ends problem played.world new
