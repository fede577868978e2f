use Rattle.std.proofs.Common.{◌≡◌, ◌*◌, drop}
use Rattle.spawn_frame.specs.Pages.{in_pages, next_wanted}
use Rattle.spawn_frame.proofs.next.next_in_later.Given as goal

abbrev pub invariant-loop-number : goal.invariant-loop-number
invariant-loop-number l = next_wanted l.wanted (l.number * 256) (drop (l.number * 256) (in_pages l.pages)) ≡ next_wanted l.wanted (l.first * 256) (drop (l.first * 256) (in_pages l.pages))
