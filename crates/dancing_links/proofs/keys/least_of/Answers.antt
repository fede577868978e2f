use Rattle.std.proofs.Common.{ℕ, ◌-◌, ◌%◌, length, drop, take, ap, ◌∙◌, arith}
use Rattle.dancing_links.specs.Keys.{least_from}
use Rattle.dancing_links.proofs.Least.{least_both}
use Rattle.dancing_links.proofs.keys.least_of.Goals as goal

pub returns : goal.returns
returns c =
    let count = length c.args.keys.now in
    c.least_after-2.ensures ∙ ap (λ (n : ℕ). least_from n (take (count - (count - 8)) (drop (count - 8) c.args.keys.now))) c.least_after-least.ensures
    ∙ least_both c.args.keys.now 4294967295 (count - count % 8) (count - 8) (count - (count - 8)) (omega (arith, c.if-count-lt-AT_A_TIME.false)) (omega arith) (omega (arith, c.if-count-lt-AT_A_TIME.false))
