-- The options that are kept.
use Rattle.std.specs.Prelude.{◌≡◌, ℕ, ◌≤◌, List, length}
use Rattle.std.specs.List.{list_any, sum_by}
use Rattle.cover_problem.specs.declared.limits.TheConstants.{MOST_NODES, MOST_OPTIONS}
use Rattle.dlx_reader.specs.Occurrences.{has_colon}
use Rattle.dlx_reader.specs.declared.options.LineItems.{LineItems}

-- the options kept so far with their colours, the names of these, and how many options were ignored
pub record KeptOptions : Type 0 where
  pub options : List (List ℕ)
  pub colours : List (List ℕ)
  pub colour_names : List (List ℕ)
  pub ignored : ℕ

-- These options keep the limits, and have so many items together.
pub record KeepsLimits (options : List (List ℕ)) (nodes : ℕ) : Type 0 where
  pub counted : nodes ≡ sum_by length options
  pub few_nodes : nodes ≤ MOST_NODES
  pub few_options : length options ≤ MOST_OPTIONS

-- as many items as a line has words, and whether one of these has a colon
pub record AreItemsOf (words : List (List ℕ)) (read : LineItems) : Type 0 where
  pub long : length read.items.items ≡ length words
  pub colours : read.has_colours ≡ list_any has_colon words
