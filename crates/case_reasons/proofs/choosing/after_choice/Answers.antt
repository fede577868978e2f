use Rattle.std.proofs.Common.{rules}
use Rattle.case_reasons.proofs.Choices.{items_stand, made_problem}
use Rattle.case_reasons.proofs.choosing.after_choice.Goals as goal

pub from_parts-requires : goal.from_parts-requires
from_parts-requires c =
    made_problem c.args.problem.now c.args.chosen c.in_ok-stand_ins.stand_ins.items _ _ _ _ _
    (c.a_choice_keeps_its_covers.ensures.problem c.args.problem.now c.args.chosen (search rules) (search rules) (search (rules, items_stand)))
    (search rules) (search rules) (search rules) (search rules) (search rules) (search rules)
