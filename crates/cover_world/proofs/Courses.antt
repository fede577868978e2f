-- A world that takes the events of a list, one after another.
use Rattle.std.proofs.Common.{◌≡◌, ℕ, suc, ◌+◌, ◌<◌, ◌≤◌, Bool, true, false, List, [], ◌∷◌, ◌++◌, length, get_or, take, refl, sym, ap, ◌∙◌, subst, arith}
use Rattle.std.proofs.Math.Seq.{take-suc}
use Rattle.std.specs.Int.{from_bool}
use Rattle.cover_problem.specs.Problem.{Problem}
use Rattle.cover_world.specs.Courses.{MayPass, TakesAll, begins, passes, run_of, steps, takes}
use Rattle.cover_world.specs.Worlds.{World}
use Rattle.cover_world.specs.declared.world_event.WorldEvent.{WorldEvent}

-- one event is at most one step
pub at_most_one : (took : Bool) → from_bool took ≤ 1
at_most_one true = omega arith
at_most_one false = omega arith

module _ (problem : Problem) (start : World) where
  pub takes_none : TakesAll problem start [] 0 start
  takes_none = record { course = begins; count = refl }

  one_more : (events : List WorldEvent) (done : ℕ) (old new : World) (event : WorldEvent) (took : Bool) → TakesAll problem start events done old
      → MayPass problem old event took new → TakesAll problem start (events ++ event ∷ []) (done + from_bool took) new
  one_more events done old new event true before may =
      let more : suc (steps (run_of before.course)) ≡ done + 1 = (let count = before.count in omega (arith, count)) in
      record { course = takes events before.course event may.0 may.1; count = more }
  one_more events done old new event false before may =
      let same : done ≡ done + 0 = omega arith in
      subst (λ w. TakesAll problem start (events ++ event ∷ []) (done + 0) w) (sym may.1)
      (record { course = passes events before.course event may.0; count = before.count ∙ same })

  -- the events up to a place are taken, and the one at it
  pub takes_more : (same : Problem) (events : List WorldEvent) (default : WorldEvent) (at done next : ℕ) (old new : World) (took : Bool) → at < length events
      → same ≡ problem → next ≡ done + from_bool took → TakesAll problem start (take at events) done old
      → MayPass same old (get_or events at default) took new → TakesAll problem start (take (at + 1) events) next new
  takes_more same events default at done next old new took within same_is next_is before may =
      let event : WorldEvent = get_or events at default in
      let more : suc at ≡ at + 1 = omega arith in
      let all : take at events ++ event ∷ [] ≡ take (at + 1) events = sym (take-suc events at default within) ∙ ap (λ n. take n events) more in
      subst (λ n. TakesAll problem start (take (at + 1) events) n new) (sym next_is)
      (subst (λ es. TakesAll problem start es (done + from_bool took) new) all
      (one_more (take at events) done old new event took before (subst (λ p. MayPass p old event took new) same_is may)))
