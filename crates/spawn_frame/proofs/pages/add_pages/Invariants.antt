use Rattle.std.proofs.Common.{◌≡◌, ◌≤◌, length}
use Rattle.spawn_frame.specs.Pages.{AreFilled, in_pages}
use Rattle.spawn_frame.proofs.pages.add_pages.Given as goal

abbrev pub invariant-loop-page : goal.invariant-loop-page
invariant-loop-page l = record {
  filled : AreFilled l.pages.items;
  kept : in_pages l.pages.items ≡ in_pages l.fn.pages.items;
  length : l._page ≤ length l.pages.items;
}
