use Rattle.dlx_reader.specs.OptionIndex.{AreKeys}
use Rattle.dlx_reader.proofs.option_index.keys_of.Given as goal

abbrev pub invariant-loop-option : goal.invariant-loop-option
invariant-loop-option l = AreKeys l.problem l.option l.keys.items
