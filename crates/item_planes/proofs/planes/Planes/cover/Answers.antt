use Rattle.item_planes.proofs.Binary.{zeros_of}
use Rattle.item_planes.proofs.planes.Planes.cover.Goals as goal

pub returns-clause-uncovered : goal.returns-clause-uncovered
returns-clause-uncovered c i = zeros_of c.args.self.now.uncovered c.args.items i c.ranges.items.fits
