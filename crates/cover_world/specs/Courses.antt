-- What a world comes to by the events of its caller.
use Rattle.std.specs.Prelude.{◌≡◌, ℕ, suc, ◌<◌, Bool, true, false, List, [], ◌∷◌, ◌++◌, Some, length, replicate, take, ⊤}
use Rattle.cover_problem.specs.Problem.{Problem}
use Rattle.cover_world.specs.Coverage.{AllCovered}
use Rattle.cover_world.specs.Moves.{meaning, names_limit, world_refusal}
use Rattle.cover_world.specs.Plays.{IsRefused}
use Rattle.cover_world.specs.Safety.{Safe}
use Rattle.cover_world.specs.Worlds.{Acts, Restarts, Run, World, WorldMove, WorldStep, after, go, opening_world, stay}
use Rattle.cover_world.specs.declared.world_event.WorldEvent.{WorldEvent}
use Rattle.cover_world.specs.declared.world_fault.Starved.{Starved}
use Rattle.cover_world.specs.declared.world_fault.WorldFault.{WorldFault}
use Rattle.node_core.specs.Acting.{GivesShare}
use Rattle.node_core.specs.declared.reply.Reply.{Reply}
use Rattle.node_core.specs.declared.reply.Reply.TheVariants.{Moved}

-- a world as its callers see it: the problem, and how its sites stand
pub record WorldCore : Type 0 where
  pub problem : Problem
  pub world : World

-- a world of so many nodes that begins
abbrev pub opening_core : Problem → ℕ → WorldCore
opening_core problem nodes = record { problem = problem; world = opening_world nodes (replicate nodes names_limit) }

-- ---- one event

-- what a step answers: the reply of its site, and of a node that restarts that something changed
abbrev pub reply_of : (problem : Problem) (old : World) (move : WorldMove) (new : World) → WorldStep problem old move new → Reply
reply_of problem old (Acts node event) new step = step.reply
reply_of problem old (Restarts node incarnation limit) new step = Moved

-- of the ready children a Steal gets the one of least serial
abbrev pub StepGivesShare : (problem : Problem) (old : World) (move : WorldMove) (new : World) → WorldStep problem old move new → Type 0
StepGivesShare problem old (Acts node event) new step = GivesShare step.before event step.out
StepGivesShare problem old (Restarts node incarnation limit) new step = ⊤

-- A move is a step of the world, with this reply.
pub record Makes (problem : Problem) (old : World) (move : WorldMove) (reply : Reply) (new : World) : Type 0 where
  pub step : WorldStep problem old move new
  pub reply_is : reply ≡ reply_of problem old move new step
  pub least : StepGivesShare problem old move new step

-- An event of the caller is a step of the world, with this reply.
pub record Stepped (problem : Problem) (old : World) (event : WorldEvent) (reply : Reply) (new : World) : Type 0 where
  pub move : WorldMove
  pub is : meaning problem old event ≡ Some move
  pub makes : Makes problem old move reply new

-- An event is refused, and there is no step of it.
pub record IsPassedOver (problem : Problem) (old : World) (event : WorldEvent) : Type 0 where
  pub fault : WorldFault
  pub refused : world_refusal problem old event ≡ Some fault
  pub none : (move : WorldMove) → meaning problem old event ≡ Some move → IsRefused problem old move

-- An event is a step, or is passed over and the world stays.
abbrev pub MayPass : Problem → World → WorldEvent → Bool → World → Type 0
MayPass problem old event true new = (reply : Reply) × Stepped problem old event reply new
MayPass problem old event false new = IsPassedOver problem old event × (new ≡ old)

-- ---- a list of events

-- A world takes the events of a list in order: each is a step of it, or is passed over.
pub data Course (problem : Problem) (start : World) : List WorldEvent → World → Type 0 where
  begins : Course problem start [] start
  takes : (events : List WorldEvent) → {old new : World} → Course problem start events old → (event : WorldEvent) → (reply : Reply)
      → Stepped problem old event reply new → Course problem start (events ++ event ∷ []) new
  passes : (events : List WorldEvent) → {old : World} → Course problem start events old → (event : WorldEvent)
      → IsPassedOver problem old event → Course problem start (events ++ event ∷ []) old

-- the run that those make that are steps
abbrev pub run_of : {problem : Problem} {start end : World} {events : List WorldEvent} → Course problem start events end → Run problem start end
run_of begins = stay
run_of (takes events course event reply stepped) = go (run_of course) stepped.move stepped.makes.step
run_of (passes events course event passed) = run_of course

-- how many steps a run has
abbrev pub steps : {problem : Problem} {start end : World} → Run problem start end → ℕ
steps stay = 0
steps (go run move step) = suc (steps run)

-- A world takes the events of a list, of which so many are steps of it.
pub record TakesAll (problem : Problem) (old : World) (events : List WorldEvent) (done : ℕ) (new : World) : Type 0 where
  pub course : Course problem old events new
  pub count : steps (run_of course) ≡ done

-- It stops at one of the events, and takes those before it.
pub record StopsAt (problem : Problem) (old : World) (events : List WorldEvent) (starved : Starved) (new : World) : Type 0 where
  pub before : starved.at < length events
  pub taken : TakesAll problem old (take starved.at events) starved.done new

-- ---- what holds whatever the events were

-- Every run from an opening world to this one, however it goes on to the other: the whole is safe, and at each of its moments after this
-- one all frames are covered.
abbrev pub HoldsThroughout : Problem → World → World → Type 0
HoldsThroughout problem old new =
    (nodes : ℕ) (limits : List ℕ) (middle : World) (e : Run problem (opening_world nodes limits) old) (g : Run problem old middle)
    (f : Run problem middle new) → Safe (after e g) f × AllCovered problem middle
