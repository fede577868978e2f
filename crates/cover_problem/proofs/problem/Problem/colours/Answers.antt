use Rattle.std.proofs.Common.{◌≡◌, List, ℕ, length, get_or, sym, ap, subst, ◌∙◌, arith}
use Rattle.std.proofs.lemmas.Grind.{common_steps}
use Rattle.cover_problem.specs.Problem.{IsProblem, colours_of}
use Rattle.cover_problem.proofs.Colours.{colours_long, colour_at}
use Rattle.cover_problem.proofs.problem.Problem.colours.Goals as goal

pub returns-clause-long : goal.returns-clause-long
returns-clause-long c =
    let same : c.as_slice.result.now ≡ colours_of c.args.self.now c.args.option = grind (arith, common_steps) in
    let problem = subst IsProblem c.self.view_is c.self.invariant in
    ap length same ∙ colours_long c.args.self.now c.args.option problem

pub returns-clause-each : goal.returns-clause-each
returns-clause-each c =
    let same : c.as_slice.result.now ≡ colours_of c.args.self.now c.args.option = grind (arith, common_steps) in
    let problem = subst IsProblem c.self.view_is c.self.invariant in
    λ k within.
    let inside = rw same at within in
    colour_at c.args.self.now c.args.option k problem c.requires inside ∙ ap (λ (xs : List ℕ). get_or xs k 0) (sym same)
