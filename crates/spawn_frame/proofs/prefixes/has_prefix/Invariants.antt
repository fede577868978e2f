use Rattle.std.proofs.Common.{◌≡◌}
use Rattle.std.specs.Str.{bytes_eq}
use Rattle.spawn_frame.specs.Prefixes.{height, path_of}
use Rattle.spawn_frame.proofs.prefixes.has_prefix.Given as goal

abbrev pub invariant-upwards : goal.invariant-upwards
invariant-upwards l = bytes_eq (path_of l.own l.guests l.fn.unit) l.prefix ≡ bytes_eq (path_of l.own l.guests l.at) l.left

abbrev pub decreases-upwards : goal.decreases-upwards
decreases-upwards l = height l.at
