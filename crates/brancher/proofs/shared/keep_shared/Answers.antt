use Rattle.std.proofs.Common.{ℕ, List, ap, arith, length, subst}
use Rattle.cover_problem.specs.Problem.{Problem}
use Rattle.brancher.specs.Keeping.{IsKeptOf}
use Rattle.brancher.proofs.Entering.{barren_kept}
use Rattle.brancher.proofs.shared.keep_shared.Goals as goal

pub returns-clause-kept : goal.returns-clause-kept
returns-clause-kept g c =
    let p = (g.B.Branching.choices c.args.state.now).problem in
    let put = g.B.Branching.choices c.put_prefix.new.state in
    let old = c.args.kept.now.states in
    let new = c.keep.new.self.states in
    let OfProblem : Problem → Type 0 = λ q. IsKeptOf q put.chosen c.args.count old new in
    let OfPrefix : List ℕ → Type 0 = λ xs. IsKeptOf p xs c.args.count old new in
    let kept = subst OfPrefix c.put_prefix.ensures.chosen (subst OfProblem c.put_prefix.ensures.problem c.keep.ensures.states) in
    record {
      barren = barren_kept p old new c.args.prefix.now c.args.count c.problem.ensures.lawful c.requires.kept.barren kept c.requires.barren c.requires.count;
      room = omega (arith, ap length c.keep.ensures.entered, c.requires.kept.room);
    }
