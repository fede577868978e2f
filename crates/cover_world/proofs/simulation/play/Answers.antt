use Rattle.std.proofs.Common.{is_some, refl, sym, ap, ◌∙◌, subst, arith}
use Rattle.cover_problem.specs.Problem.{Problem}
use Rattle.cover_world.proofs.Reached.{goes_on}
use Rattle.cover_world.proofs.Simulating.{one_more, stands}
use Rattle.cover_world.proofs.simulation.play.Goals as goal
use Rattle.cover_world.specs.Safety.{published}
use Rattle.cover_world.specs.Simulation.{Draws, simulation}
use Rattle.cover_world.specs.Worlds.{stay}

pub returns-then-is_answered-clause-turns : goal.returns-then-is_answered-clause-turns
returns-then-is_answered-clause-turns c =
    let here = c.loop-turn in
    let some = ap (λ (p : Problem). is_some (published p here.world.world)) (sym here.invariant.problem) ∙ sym c.is_answered.ensures ∙ c.if-is_answered.true in
    stands c.args.world.now.problem c.args.fuel c.args.turns here._turn (simulation c.args.world.now.world c.args.rng.now c.args.restarts)
    (simulation here.world.world here.rng here.left) (omega (arith, c.loop-turn-test.true)) some here.invariant.turns

pub loop-turn-preserved : goal.loop-turn-preserved
loop-turn-preserved c =
    let here = c.loop-turn in
    let start = simulation c.args.world.now.world c.args.rng.now c.args.restarts in
    let now = simulation here.world.world here.rng here.left in
    let next = simulation c.draw.new.world.world c.draw.new.rng c.in_ok-left.left in
    let none = ap (λ (p : Problem). is_some (published p here.world.world)) (sym here.invariant.problem) ∙ sym c.is_answered.ensures ∙ c.if-is_answered.false in
    let draws = subst (λ (p : Problem). Draws p c.args.fuel now next) here.invariant.problem c.in_ok-left.ensures.draws in
    record {
      problem = c.draw.ensures.problem ∙ here.invariant.problem;
      run = goes_on c.args.world.now.problem here.world.problem c.args.world.now.world here.world.world c.draw.new.world.world here.invariant.problem here.invariant.run c.draw.ensures.run;
      turns = one_more c.args.world.now.problem c.args.fuel here._turn start now next none here.invariant.turns draws;
    }

pub loop-turn-init : goal.loop-turn-init
loop-turn-init c = record { problem = refl; run = stay; turns = refl }
