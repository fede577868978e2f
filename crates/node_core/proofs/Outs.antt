-- How many own children are out.
use Rattle.std.proofs.Common.{◌≤◌, List, length}
use Rattle.std.proofs.lemmas.List.Sums.{count_by-le-length}
use Rattle.spawn_frame.specs.Tables.{is_out, outs_of}
use Rattle.spawn_frame.specs.Units.{Entry}

-- no more than there are
pub outs_few : (own : List Entry) → outs_of own ≤ length own
outs_few own = count_by-le-length (λ c. is_out c.status) own
