use Rattle.std.proofs.Common.{arith}
use Rattle.brancher.proofs.kept.Kept.build.Goals as goal

pub returns-clause-kept : goal.returns-clause-kept
returns-clause-kept c = record {
  barren = λ key count prefix holds is. absurd (c.in_ok-states.ensures.empty key count holds);
  room = omega (arith, c.in_ok-entered.ensures.len, c.in_ok-entered.entered.ok.0, c.primary-depths.ensures.count);
}
