use Rattle.std.proofs.lemmas.Result.{err_from_is_err_and}
use Rattle.dlx_reader.proofs.reading.read_problem.Goals as goal

pub returns-in_err-read_text-clause-refused : goal.returns-in_err-read_text-clause-refused
returns-in_err-read_text-clause-refused c =
    let returned = err_from_is_err_and c.from_residual.result c.from_residual.ensures.1 in
    rw (returned.1, returned.2) c.in_err-read_text.ensures.refused
