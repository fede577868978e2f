-- The steps of a simulation, put together.
use Rattle.std.proofs.Common.{◌≡◌, ℕ, zero, suc, ◌+◌, ◌-◌, ◌≤◌, Bool, true, false, is_some, length, Option, Some, None, refl, sym, ap, ◌∙◌, subst, true≢false, arith}
use Rattle.std.proofs.lemmas.List.{length-set}
use Rattle.cover_problem.specs.Problem.{Problem}
use Rattle.cover_problem.specs.declared.answer.Answer.{Answer}
use Rattle.cover_world.specs.Courses.{MayPass}
use Rattle.cover_world.specs.Safety.{published}
use Rattle.cover_world.specs.Draws.{Drawn}
use Rattle.cover_world.specs.Simulation.{Closes, Draws, Ends, Simulation, Tries, Turns, drawn, if_answered, left_after, simulation}
use Rattle.rand_pcg.specs.Lcg.{Lcg}
use Rattle.cover_world.specs.Worlds.{Acts, Restarts, World, WorldMove, WorldStep}
use Rattle.cover_world.specs.declared.world_event.WorldEvent.{WorldEvent}

-- ---- no event changes how many sites there are

step_nodes : (problem : Problem) (old : World) (move : WorldMove) (new : World) → WorldStep problem old move new → length new.sites ≡ length old.sites
step_nodes problem old (Acts node event) new s = ap (λ (w : World). length w.sites) s.world ∙ length-set old.sites node s.after
step_nodes problem old (Restarts node incarnation limit) new s = ap (λ (w : World). length w.sites) s.world ∙ length-set old.sites node _

pub passed_nodes : (problem : Problem) (old : World) (event : WorldEvent) (took : Bool) (new : World) → MayPass problem old event took new
    → length new.sites ≡ length old.sites
passed_nodes problem old event true new passes = step_nodes problem old passes.1.move new passes.1.makes.step
passed_nodes problem old event false new passes = ap (λ (w : World). length w.sites) passes.1

-- ---- turns

-- what is drawn is tried
pub drawn_so : (problem : Problem) (fuel : ℕ) (old : Simulation) (event : WorldEvent) (rng : Lcg) (new : World) (left : ℕ) → (event, rng) ≡ drawn fuel old
    → Tries problem old.world event new → left ≡ left_after old.restarts event → Draws problem fuel old (simulation new rng left)
drawn_so problem fuel old event rng new left is tries then =
    let event_is : event ≡ (drawn fuel old).0 = ap (λ (d : Drawn WorldEvent). d.0) is in
    record {
      tries = subst (λ (e : WorldEvent). Tries problem old.world e new) event_is tries;
      rng = ap (λ (d : Drawn WorldEvent). d.1) is;
      restarts = then ∙ ap (left_after old.restarts) event_is;
    }

module _ (problem : Problem) (fuel : ℕ) where
  -- a turn once an answer is published, and before
  turn_stands : (here : Simulation) (o : Option Answer) → is_some o ≡ true → if_answered o (here ≡ here) (Draws problem fuel here here)
  turn_stands here (Some answer) some = refl
  turn_stands here None some = absurd (true≢false (sym some))

  turn_draws : (old new : Simulation) (o : Option Answer) → is_some o ≡ false → Draws problem fuel old new → if_answered o (new ≡ old) (Draws problem fuel old new)
  turn_draws old new (Some answer) none draws = absurd (true≢false none)
  turn_draws old new None none draws = draws

  more_turns : (d turns : ℕ) (old here : Simulation) → is_some (published problem here.world) ≡ true → Turns problem fuel turns old here → Turns problem fuel (d + turns) old here
  more_turns zero turns old here some t =
      let same : turns ≡ 0 + turns = omega arith in
      subst (λ k. Turns problem fuel k old here) same t
  more_turns (suc d) turns old here some t =
      let same : suc (d + turns) ≡ suc d + turns = omega arith in
      let next : Turns problem fuel (suc (d + turns)) old here = (here, more_turns d turns old here some t, turn_stands here (published problem here.world) some) in
      subst (λ k. Turns problem fuel k old here) same next

  -- once an answer is published, the turns that are left change nothing
  pub stands : (turns taken : ℕ) (old here : Simulation) → taken ≤ turns → is_some (published problem here.world) ≡ true → Turns problem fuel taken old here
      → Turns problem fuel turns old here
  stands turns taken old here few some t =
      let same : (turns - taken) + taken ≡ turns = omega (arith, few) in
      subst (λ k. Turns problem fuel k old here) same (more_turns (turns - taken) taken old here some t)

  -- one turn more
  pub one_more : (taken : ℕ) (old here new : Simulation) → is_some (published problem here.world) ≡ false → Turns problem fuel taken old here → Draws problem fuel here new
      → Turns problem fuel (taken + 1) old new
  one_more taken old here new none t draws =
      let same : suc taken ≡ taken + 1 = omega arith in
      let next : Turns problem fuel (suc taken) old new = (here, t, turn_draws here new (published problem here.world) none draws) in
      subst (λ k. Turns problem fuel k old new) same next

-- ---- the end

ended_by : (problem : Problem) (old new : World) (o : Option Answer) → is_some o ≡ true → new ≡ old → if_answered o (new ≡ old) (Closes problem old new)
ended_by problem old new (Some answer) some same = same
ended_by problem old new None some same = absurd (true≢false (sym some))

closed_by : (problem : Problem) (old new : World) (o : Option Answer) → is_some o ≡ false → Closes problem old new → if_answered o (new ≡ old) (Closes problem old new)
closed_by problem old new (Some answer) none closes = absurd (true≢false none)
closed_by problem old new None none closes = closes

pub ended : (problem : Problem) (old : World) → is_some (published problem old) ≡ true → Ends problem old old
ended problem old some = ended_by problem old old (published problem old) some refl

pub closed : (problem : Problem) (old new : World) → is_some (published problem old) ≡ false → Closes problem old new → Ends problem old new
closed problem old new none closes = closed_by problem old new (published problem old) none closes
