use Rattle.std.proofs.Common.{arith, ◌∙◌, length-drop}
use Rattle.dlx_reader.proofs.Written.{appends_further}
use Rattle.dlx_reader.proofs.writing.write_bytes.Goals as goal

pub loop-done-preserved : goal.loop-done-preserved
loop-done-preserved g c = (
  omega (arith, c.in-Ok.ensures.bound, length-drop c.loop-done.done c.args.bytes.now),
  appends_further _ _ _ c.args.bytes.now c.loop-done.done c.in-Ok.count c.loop-done.invariant.1 c.in-Ok.ensures.bytes,
  c.in-Ok.ensures.failed ∙ c.loop-done.invariant.2,
)
