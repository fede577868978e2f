use Rattle.cover_problem.proofs.Alike.{alike, alike_barren}
use Rattle.cover_problem.proofs.laws.alike_prefixes_are_searched_alike.Goals as goal

pub returns-clause-visits : goal.returns-clause-visits
returns-clause-visits c = λ problem prefix other same. (alike problem prefix other same).visits

pub returns-clause-first : goal.returns-clause-first
returns-clause-first c = λ problem prefix other same.
    let both = alike problem prefix other same in
    (both.rest, both.one, both.other)

pub returns-clause-barren : goal.returns-clause-barren
returns-clause-barren c = λ problem prefix other same none. alike_barren problem prefix other same none
