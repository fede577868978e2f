use Rattle.std.proofs.Common.{[], refl}
use Rattle.used_items.proofs.Nones.{none_too}
use Rattle.used_items.proofs.laws.same_covers_have_the_same_none.Goals as goal

pub returns : goal.returns
returns c = λ problem other same none.
    none_too problem other (λ cover e. c.first_is_an_exact_cover.ensures.found problem [] cover refl e) (c.first_is_an_exact_cover.ensures.barren other [] none) same
