use Rattle.cover_problem.proofs.Ordered.{in_order_rises}
use Rattle.cover_problem.proofs.laws.in_order_is_in_file_order.Goals as goal

pub returns : goal.returns
returns c = λ problem options. in_order_rises problem options
