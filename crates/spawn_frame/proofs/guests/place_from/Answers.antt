use Rattle.std.proofs.Common.{get_or, nat_lt, rules, arith}
use Rattle.std.proofs.lemmas.Bool.{ltb-false, ltb-true}
use Rattle.std.proofs.lemmas.List.Sorted.{IsPartitionedBy-ltb, IsPartitionPoint-from_clause}
use Rattle.spawn_frame.proofs.guests.place_from.Goals as goal

pub returns-clause-before : goal.returns-clause-before
returns-clause-before c = λ k l.
    let ps = c.args.places.now in
    let point = IsPartitionPoint-from_clause (λ p. nat_lt p c.args.place) ps c.partition_point.result c.partition_point.ensures.partitioned
    (IsPartitionedBy-ltb (λ x. x) ps c.args.place c.requires) (λ a r q s. search rules) in
    ltb-true (get_or ps k 0) c.args.place (point.0 k 0 (omega arith) l)

pub returns-clause-from : goal.returns-clause-from
returns-clause-from c = λ k le l.
    let ps = c.args.places.now in
    let point = IsPartitionPoint-from_clause (λ p. nat_lt p c.args.place) ps c.partition_point.result c.partition_point.ensures.partitioned
    (IsPartitionedBy-ltb (λ x. x) ps c.args.place c.requires) (λ a r q s. search rules) in
    ltb-false (get_or ps k 0) c.args.place (point.1 k 0 le l)
