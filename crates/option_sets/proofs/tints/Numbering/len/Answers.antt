use Rattle.std.proofs.Common.{subst}
use Rattle.option_sets.specs.Tints.{AreApart}
use Rattle.option_sets.proofs.Numbers.{apart_by}
use Rattle.option_sets.proofs.tints.Numbering.len.Goals as goal

pub returns-clause-apart : goal.returns-clause-apart
returns-clause-apart c = subst AreApart c.self.view_is (apart_by c.self.inside.keys.items c.self.inside.index c.self.invariant)
