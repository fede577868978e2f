-- A world that a simulation comes to is reached by a run.
use Rattle.std.proofs.Common.{◌≡◌, ℕ, zero, suc, Bool, true, false, Option, Some, None, sym, ap, subst}
use Rattle.cover_problem.specs.Problem.{Problem}
use Rattle.cover_problem.specs.declared.answer.Answer.{Answer}
use Rattle.cover_world.specs.Courses.{MayPass}
use Rattle.cover_world.specs.Draws.{node_count}
use Rattle.cover_world.specs.Safety.{published}
use Rattle.cover_world.specs.Simulation.{AllGreet, AsksForWork, Closes, Draws, Greets, Searches, SearchesJob, Simulated, Simulation, Tries, Turns, if_answered}
use Rattle.cover_world.specs.Worlds.{Run, World, after, go, stay}
use Rattle.cover_world.specs.declared.world_event.WorldEvent.{WorldEvent}
use Rattle.spawn_frame.specs.declared.unit.Job.{Job}

module _ (problem : Problem) where
  pub same_run : (old new : World) → new ≡ old → Run problem old new
  same_run old new same = subst (Run problem old) (sym same) stay

  pub passed_run : (old new : World) (event : WorldEvent) (took : Bool) → MayPass problem old event took new → Run problem old new
  passed_run old new event true passes = go stay passes.1.move passes.1.makes.step
  passed_run old new event false passes = same_run old new passes.1

  tries_run : (old new : World) (event : WorldEvent) → Tries problem old event new → Run problem old new
  tries_run old new event tries = passed_run old new event tries.0 tries.1

  turn_run : (fuel : ℕ) (old new : Simulation) (o : Option Answer) → if_answered o (new ≡ old) (Draws problem fuel old new) → Run problem old.world new.world
  turn_run fuel old new (Some answer) same = same_run old.world new.world (ap (λ (s : Simulation). s.world) same)
  turn_run fuel old new None draws = tries_run old.world new.world _ draws.tries

  turns_run : (fuel turns : ℕ) (old new : Simulation) → Turns problem fuel turns old new → Run problem old.world new.world
  turns_run fuel zero old new same = same_run old.world new.world (ap (λ (s : Simulation). s.world) same)
  turns_run fuel (suc turns) old new t = after (turns_run fuel turns old t.0 t.1) (turn_run fuel t.0 new (published problem t.0.world) t.2)

  greets_run : (node : ℕ) (old new : World) → Greets problem node old new → Run problem old new
  greets_run node old new g = after (after (tries_run old g.anew _ g.begins) (tries_run g.anew g.greeted _ g.greets)) (tries_run g.greeted new _ g.heard)

  all_greet_run : (nodes : ℕ) (old new : World) → AllGreet problem nodes old new → Run problem old new
  all_greet_run zero old new same = same_run old new same
  all_greet_run (suc nodes) old new g = after (all_greet_run nodes old g.0 g.1) (greets_run (suc nodes) g.0 new g.2)

  asks_run : (old new : World) → AsksForWork problem old new → Run problem old new
  asks_run old new a = after (after (tries_run old a.asked _ a.asks) (tries_run a.asked a.answered _ a.heard)) (tries_run a.answered new _ a.gets)

  job_run : (job : Option Job) (old new : World) → SearchesJob problem job old new → Run problem old new
  job_run None old new same = same_run old new same
  job_run (Some job) old new tries = tries_run old new _ tries

  searches_run : (old new : World) → Searches problem old new → Run problem old new
  searches_run old new s = after (after (tries_run old s.taken _ s.takes) (job_run _ s.taken s.searched s.searches)) (tries_run s.searched new _ s.heard)

  closes_run : (old new : World) → Closes problem old new → Run problem old new
  closes_run old new c = after (after (all_greet_run (node_count old) old c.greeted c.greet) (asks_run c.greeted c.working c.asks)) (searches_run c.working new c.searches)

  ends_run : (old new : World) (o : Option Answer) → if_answered o (new ≡ old) (Closes problem old new) → Run problem old new
  ends_run old new (Some answer) same = same_run old new same
  ends_run old new None closes = closes_run old new closes

  pub simulated_run : (fuel turns : ℕ) (old : Simulation) (new : World) → Simulated problem fuel turns old new → Run problem old.world new
  simulated_run fuel turns old new s = after (turns_run fuel turns old s.played s.plays) (ends_run s.played.world new (published problem s.played.world) s.ends)

-- a run goes on, of a world whose problem stays
pub goes_on : (problem same : Problem) (old middle new : World) → same ≡ problem → Run problem old middle → Run same middle new → Run problem old new
goes_on problem same old middle new is e f = after e (subst (λ (p : Problem). Run p middle new) is f)
