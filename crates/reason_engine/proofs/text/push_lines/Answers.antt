use Rattle.reason_engine.specs.ReasonText.{line_text}
use Rattle.reason_engine.proofs.Lines.{lines_more}
use Rattle.reason_engine.proofs.text.push_lines.Goals as goal

pub loop-item-preserved : goal.loop-item-preserved
loop-item-preserved c =
    lines_more (line_text c.args.problem.now c.args.word.now c.args.amounts.now) c.args.text.now.items c.loop-item.text.items c.push_line.new.text.items c.loop-item.item c.loop-item.invariant c.in_ok-push_line.ensures
