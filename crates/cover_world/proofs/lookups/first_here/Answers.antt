use Rattle.std.proofs.Common.{◌≡◌, ℕ, Bool, true, List, Option, Some, None, IfSome, slice_get, sym}
use Rattle.std.specs.List.{position_from}
use Rattle.spawn_frame.specs.Tables.{has_status, is_here}
use Rattle.spawn_frame.specs.Units.{Entry}
use Rattle.steal_return.proofs.Scans.{found_first}
use Rattle.cover_world.proofs.lookups.first_here.Goals as goal

-- what is found from the start is here, if it is there
is_found : (own : List Entry) (o : Option ℕ) → o ≡ position_from (λ c. is_here c.status) 0 own → IfSome o (λ k. has_status is_here (slice_get own k) ≡ true)
is_found own None e = tt
is_found own (Some k) e = found_first is_here own k (sym e)

pub returns-clause-here : goal.returns-clause-here
returns-clause-here c = is_found c.args.table.now.own c.next_here.result c.next_here.ensures
