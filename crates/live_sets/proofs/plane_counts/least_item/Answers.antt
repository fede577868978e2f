use Rattle.std.proofs.Common.{arith, inl, inr, subst}
use Rattle.std.proofs.lemmas.Bool.{cases_lt}
use Rattle.live_sets.specs.Planes.{IsLeastOf}
use Rattle.live_sets.proofs.Halves.{high_item, low_item, no_item, none_open}
use Rattle.live_sets.proofs.plane_counts.least_item.Goals as goal

pub returns-then-less-count : goal.returns-then-less-count
returns-then-less-count c p prefix few low high =
    let one = subst (IsLeastOf p prefix 0) c.in-Some-Some.is-0 low in
    let two = subst (IsLeastOf p prefix 64) c.in-Some-Some.is-1 high in
    high_item p prefix c.in-Some-Some.other c.in-Some-Some.less few two (λ other front o. omega (arith, c.if-less-count.true, one.fewest other (omega arith) (omega (arith, front)) o))

pub returns-else-less-count : goal.returns-else-less-count
returns-else-less-count c p prefix few low high =
    let one = subst (IsLeastOf p prefix 0) c.in-Some-Some.is-0 low in
    let two = subst (IsLeastOf p prefix 64) c.in-Some-Some.is-1 high in
    low_item p prefix c.in-Some-Some.item c.in-Some-Some.count one (λ other back o. omega (arith, c.if-less-count.false, two.fewest other back (omega (arith, o.primary, few)) o))

pub returns-in-Some-None : goal.returns-in-Some-None
returns-in-Some-None c p prefix few low high =
    let one = subst (IsLeastOf p prefix 0) c.in-Some-None.is-0 low in
    let two = subst (IsLeastOf p prefix 64) c.in-Some-None.is-1 high in
    low_item p prefix c.in-Some-None.item _ one (λ other back o. absurd (none_open p prefix 64 other two back (omega (arith, o.primary, few)) o))

pub returns-in-None-Some : goal.returns-in-None-Some
returns-in-None-Some c p prefix few low high =
    let one = subst (IsLeastOf p prefix 0) c.in-None-Some.is-0 low in
    let two = subst (IsLeastOf p prefix 64) c.in-None-Some.is-1 high in
    high_item p prefix c.in-None-Some.item _ few two (λ other front o. absurd (none_open p prefix 0 other one (omega arith) (omega (arith, front)) o))

pub returns-in-None-None : goal.returns-in-None-None
returns-in-None-None c p prefix few low high =
    let one = subst (IsLeastOf p prefix 0) c.in-None-None.is-0 low in
    let two = subst (IsLeastOf p prefix 64) c.in-None-None.is-1 high in
    no_item p prefix (λ other o. elim (cases_lt other 64) [
      | inl front ↦ none_open p prefix 0 other one (omega arith) (omega (arith, front)) o
      | inr back ↦ none_open p prefix 64 other two back (omega (arith, o.primary, few)) o
    ])
