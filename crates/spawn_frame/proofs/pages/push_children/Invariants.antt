use Rattle.std.proofs.Common.{◌≡◌, ◌++◌, length, map, take}
use Rattle.spawn_frame.specs.Pages.{AreFilled, in_pages}
use Rattle.spawn_frame.specs.Tables.{longer_prefixes}
use Rattle.spawn_frame.specs.Works.{fresh_child}
use Rattle.spawn_frame.proofs.pages.push_children.Given as goal

abbrev pub invariant-loop-place : goal.invariant-loop-place
invariant-loop-place l = record {
  filled : AreFilled l.pages;
  children : in_pages l.pages ≡ in_pages l.fn.pages ++ map (fresh_child l.unit) (longer_prefixes l.path.options (take l.place l.options));
  length : length l.pages ≡ length l.fn.pages;
}
