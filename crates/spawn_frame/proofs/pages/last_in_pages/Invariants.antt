use Rattle.std.proofs.Common.{◌≡◌, ◌-◌, ◌*◌, take}
use Rattle.spawn_frame.specs.Pages.{in_pages}
use Rattle.spawn_frame.specs.Works.{last_wanted}
use Rattle.spawn_frame.proofs.pages.last_in_pages.Given as goal

abbrev pub invariant-loop-behind : goal.invariant-loop-behind
invariant-loop-behind l = last_wanted l.wanted 0 (take ((l.count - l.behind) * 256) (in_pages l.pages)) ≡ last_wanted l.wanted 0 (in_pages l.pages)
