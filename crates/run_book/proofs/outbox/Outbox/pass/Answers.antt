use Rattle.run_book.proofs.Order.{newcomers_come}
use Rattle.run_book.proofs.outbox.Outbox.pass.Goals as goal

pub pass-requires : goal.pass-requires
pass-requires c = newcomers_come
