use Rattle.std.proofs.Common.{[], refl}
use Rattle.cover_reasons.proofs.Weighing.{none, none_found}
use Rattle.cover_reasons.proofs.laws.weights_exclude_covers.Goals as goal

pub returns-clause-cover : goal.returns-clause-cover
returns-clause-cover c = λ problem weights chosen lawful ok cover. none problem weights chosen lawful ok cover

pub returns-clause-barren : goal.returns-clause-barren
returns-clause-barren c = λ problem weights prefix lawful ok chosen cover over. none problem weights chosen lawful ok cover

pub returns-clause-first : goal.returns-clause-first
returns-clause-first c = λ problem weights lawful ok. none_found problem weights lawful ok (λ cover e. c.first_is_an_exact_cover.ensures.found problem [] cover refl e)
