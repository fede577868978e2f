use Rattle.std.proofs.lemmas.Bool.{and_parts}
use Rattle.cover_problem.specs.Prefix.{is_live}
use Rattle.cover_problem.specs.Problem.{names_item}
use Rattle.cover_problem.proofs.Alike.{alive_alike, branch_alive}
use Rattle.cover_problem.proofs.laws.live_options_tell_what_is_uncovered.Goals as goal

pub returns-clause-alike : goal.returns-clause-alike
returns-clause-alike c = λ problem prefix other same one two. alive_alike problem prefix other same one two

pub returns-clause-alive : goal.returns-clause-alive
returns-clause-alive c = λ problem prefix item option e within choice.
    let parts = and_parts (is_live problem prefix option) (names_item problem option item) choice in
    branch_alive problem prefix item option e within parts.0 parts.1
