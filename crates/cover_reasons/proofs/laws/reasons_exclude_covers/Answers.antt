use Rattle.std.proofs.Common.{[], refl}
use Rattle.cover_reasons.proofs.Reasoning.{none, none_found}
use Rattle.cover_reasons.proofs.laws.reasons_exclude_covers.Goals as goal

pub returns-clause-cover : goal.returns-clause-cover
returns-clause-cover c = λ problem reason chosen lawful ok cover. none problem reason chosen lawful ok cover

pub returns-clause-barren : goal.returns-clause-barren
returns-clause-barren c = λ problem reason prefix lawful ok chosen cover over. none problem reason chosen lawful ok cover

pub returns-clause-first : goal.returns-clause-first
returns-clause-first c = λ problem reason lawful ok. none_found problem reason lawful ok (λ cover e. c.first_is_an_exact_cover.ensures.found problem [] cover refl e)
