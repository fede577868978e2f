use Rattle.std.proofs.Common.{length, arith, ap}
use Rattle.cover_problem.proofs.Firsts.{few_options}
use Rattle.cover_problem.proofs.Prefixes.{prefix_short}
use Rattle.brancher.specs.Kernels.{choices_in}
use Rattle.brancher.specs.Searching.{Searcher}
use Rattle.brancher.proofs.searcher.Searcher.found.Goals as goal

pub returns-clause-short : goal.returns-clause-short
returns-clause-short c =
    let few = few_options (choices_in c.self.inside.kernel).problem (choices_in c.self.inside.kernel).chosen c.problem.ensures.lawful c.chosen.ensures.prefix in
    omega (arith, ap length c.chosen.ensures.chosen, few)

pub returns-clause-few : goal.returns-clause-few
returns-clause-few c =
    let short = prefix_short (choices_in c.self.inside.kernel).problem (choices_in c.self.inside.kernel).chosen c.problem.ensures.lawful c.chosen.ensures.prefix in
    omega (arith, ap length c.chosen.ensures.chosen, short, ap (λ (s : Searcher). s.problem.primary) c.self.view_is)
