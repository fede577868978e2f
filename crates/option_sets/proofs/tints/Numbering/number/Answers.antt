use Rattle.std.proofs.Common.{◌≡◌, ℕ, List, Some, length, sym, subst, rules}
use Rattle.std.specs.BTreeMap.{UpdatesBy}
use Rattle.std.specs.Ordering.{nat_cmp}
use Rattle.option_sets.specs.Tints.{IsNumberOf}
use Rattle.option_sets.proofs.Numbers.{numbered_more, numbering_same}
use Rattle.option_sets.proofs.tints.Numbering.number.Goals as goal

pub returns-in-Some-clause-number : goal.returns-in-Some-clause-number
returns-in-Some-clause-number c =
    subst (λ (ks : List ℕ). IsNumberOf ks c.args.key c.in-Some.number.now) c.self.view_is (c.self.invariant.known c.args.key c.in-Some.number.now (sym c.in-Some.ensures.value))

pub invariant_of-self-in_err-insert : goal.invariant_of-self-in_err-insert
invariant_of-self-in_err-insert c =
    numbering_same c.self.inside.keys.items c.reserve.new.self.items c.self.inside.index c.insert.new.self (sym c.reserve.ensures.items) c.in_err-insert.ensures.err c.self.invariant

pub invariant_of-self-2 : goal.invariant_of-self-2
invariant_of-self-2 c =
    let count : c.len-number.result ≡ length c.self.inside.keys.items = search rules in
    rw (c.push_reserved.ensures.items, c.reserve.ensures.items)
    (numbered_more c.self.inside.keys.items c.self.inside.index c.insert.new.self c.args.key c.self.invariant (sym c.in_default.ensures.value)
    (subst (λ (n : ℕ). UpdatesBy nat_cmp (nat_cmp c.args.key) c.self.inside.index c.insert.new.self (Some n)) count c.in_ok-insert.ensures.updates))
