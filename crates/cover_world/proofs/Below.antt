-- What is below what is below.
use Rattle.std.proofs.Common.{ℕ, Bool, List, Some, ap, sym, ◌∙◌}
use Rattle.spawn_frame.specs.Aborts.{IsBelow, child, deeper}
use Rattle.spawn_frame.specs.Names.{same_unit}
use Rattle.spawn_frame.specs.Units.{Entry}
use Rattle.spawn_frame.specs.declared.unit.Unit.{Unit as WorkUnit}
use Rattle.spawn_frame.specs.declared.unit.Unit.TheVariants.{Own}
use Rattle.spawn_frame.proofs.Sames.{unit_path}

pub below_on : (top : WorkUnit → Bool) (own : List Entry) (upper : ℕ) → IsBelow top own upper → (lower : ℕ) → IsBelow (same_unit (Own upper)) own lower → IsBelow top own lower
below_on top own upper up lower (child {unit = unit} is parent passes) = deeper is (parent ∙ ap Some (sym (unit_path (Own upper) unit passes))) up
below_on top own upper up lower (deeper {parent = middle} is parent below) = deeper is parent (below_on top own upper up middle below)
