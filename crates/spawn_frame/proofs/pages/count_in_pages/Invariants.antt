use Rattle.std.proofs.Common.{◌≡◌, take}
use Rattle.spawn_frame.specs.Pages.{in_pages}
use Rattle.spawn_frame.proofs.Paged.{counted}
use Rattle.spawn_frame.proofs.pages.count_in_pages.Given as goal

abbrev pub invariant-loop-page : goal.invariant-loop-page
invariant-loop-page l = l.count ≡ counted l.wanted (in_pages (take l.page-index l.pages))
