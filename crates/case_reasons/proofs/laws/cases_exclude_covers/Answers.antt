use Rattle.std.proofs.Common.{[], refl}
use Rattle.case_reasons.proofs.Choices.{no_cover, none_found}
use Rattle.case_reasons.proofs.laws.cases_exclude_covers.Goals as goal

pub returns-clause-cover : goal.returns-clause-cover
returns-clause-cover c = λ problem cases lawful are chosen cover over. no_cover c.reasons_exclude_covers.ensures.cover problem cases chosen lawful are cover

pub returns-clause-first : goal.returns-clause-first
returns-clause-first c = λ problem cases lawful are. none_found c.reasons_exclude_covers.ensures.cover problem cases lawful are (λ cover e. c.first_is_an_exact_cover.ensures.found problem [] cover refl e)
