use Rattle.dlx_reader.proofs.Determined.{has_problem, has_no_problem, has_first_fault}
use Rattle.dlx_reader.proofs.reading.read_text.Goals as goal

pub returns-clause-problem : goal.returns-clause-problem
returns-clause-problem c = has_problem c.args.text.now c.read_lines.result c.read_lines.ensures.gives

pub returns-clause-refused : goal.returns-clause-refused
returns-clause-refused c = has_no_problem c.args.text.now c.read_lines.result c.read_lines.ensures.gives

pub returns-clause-fault : goal.returns-clause-fault
returns-clause-fault c = has_first_fault c.args.text.now c.read_lines.result c.read_lines.ensures.gives
