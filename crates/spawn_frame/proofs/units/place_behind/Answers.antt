use Rattle.std.proofs.Common.{not, rules}
use Rattle.std.proofs.lemmas.List.Sorted.{IsPartitionPoint-from_clause}
use Rattle.spawn_frame.proofs.Halving.{behind, parted, point_is}
use Rattle.spawn_frame.proofs.units.place_behind.Goals as goal

pub returns-clause-place : goal.returns-clause-place
returns-clause-place c =
    let gs = c.args.guests.now in
    let point = IsPartitionPoint-from_clause (λ g. not (behind c.args.name c.args.attempt g)) gs c.partition_point.result c.partition_point.ensures.partitioned
    (parted gs c.requires c.args.name c.args.attempt) (λ a r q k. search rules) in
    point_is (behind c.args.name c.args.attempt) gs c.partition_point.result c.partition_point.ensures.bound point
