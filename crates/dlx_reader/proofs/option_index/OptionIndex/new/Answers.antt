use Rattle.dlx_reader.proofs.Indexed.{nothing_meant}
use Rattle.dlx_reader.proofs.option_index.OptionIndex.new.Goals as goal

pub invariant_of-result : goal.invariant_of-result
invariant_of-result c = (c.requires, c.in_ok-next.ensures.next, rw c.new.ensures.items (nothing_meant c.args.problem.now c.link_options.new.lowest c.in_ok-next.ensures.index))
