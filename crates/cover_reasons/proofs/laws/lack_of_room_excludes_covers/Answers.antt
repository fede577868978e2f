use Rattle.std.proofs.Common.{[], refl}
use Rattle.cover_reasons.proofs.Rooming.{none, none_found}
use Rattle.cover_reasons.proofs.laws.lack_of_room_excludes_covers.Goals as goal

pub returns-clause-cover : goal.returns-clause-cover
returns-clause-cover c = λ problem room chosen lawful ok cover. none problem room chosen lawful ok cover

pub returns-clause-barren : goal.returns-clause-barren
returns-clause-barren c = λ problem room prefix lawful ok chosen cover over. none problem room chosen lawful ok cover

pub returns-clause-first : goal.returns-clause-first
returns-clause-first c = λ problem room lawful ok. none_found problem room lawful ok (λ cover e. c.first_is_an_exact_cover.ensures.found problem [] cover refl e)
