use Rattle.std.proofs.Common.{◌≡◌, ◌++◌}
use Rattle.std.specs.Vec.Iter.{into_iter_items}
use Rattle.crossbeam_queue.specs.Passes.{view, IsPassOf}
use Rattle.run_book.specs.Tickets.{back_of, log_of, IsKeeper}
use Rattle.run_book.proofs.register.Register.take_tokens.Given as goal

abbrev pub invariant-loop-receipt_token : goal.invariant-loop-receipt_token
invariant-loop-receipt_token g l =
    (l.keeper.table_id ≡ g.N.CellName.table) × IsPassOf l.carrier l.keeper × IsKeeper (view l.keeper)
    × (log_of (view l.keeper) ≡ l.fn.self.log)
    × (back_of (view l.keeper) ++ into_iter_items l.receipt_token-iterator ≡ l.fn.self.back ++ l.fn.tokens.items)
