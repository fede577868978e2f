use Rattle.std.proofs.Common.{[], refl}
use Rattle.implied_clauses.proofs.Implying.{none_found}
use Rattle.implied_clauses.proofs.laws.refuted_problems_have_no_cover.Goals as goal

pub returns-clause-first : goal.returns-clause-first
returns-clause-first c = λ problem refuted. none_found problem refuted (λ cover e. c.first_is_an_exact_cover.ensures.found problem [] cover refl e)
