-- Incarnations of a node that restarts: the plan of each, and their books.
use Rattle.std.specs.Prelude.{ℕ, suc, ◌/◌, ◌==◌, ◌&&◌, nat_le, Bool, if◌then◌else◌, List, [], ◌∷◌}
use Rattle.run_book.specs.Books.{Book}
use Rattle.site_limits.specs.declared.plan.Plan.{Plan}

-- the plan of each incarnation of a site that restarts so many times: the turns are shared evenly, rounded down; once the search is over in
-- one, a later one gives up after a millisecond without a packet
abbrev pub incarnation_plan : Plan → ℕ → Bool → Plan
incarnation_plan plan restarts is_over = record plan {
  turns = plan.turns / suc restarts;
  timing = record plan.timing { silence_ms = if is_over then 1 else plan.timing.silence_ms };
}

-- the books are those of a node's incarnations in their order: of the node, of rising numbers from `first` on, and below `next`
abbrev pub are_incarnations : ℕ → ℕ → ℕ → List Book → Bool
are_incarnations node first next [] = nat_le first next
are_incarnations node first next (book ∷ books) =
    (book.site.node == node) && nat_le first book.site.incarnation && are_incarnations node (suc book.site.incarnation) next books
