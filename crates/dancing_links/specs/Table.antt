-- The nodes of a problem: heads, nodes of items, nodes of options and tails, with the column, the colour and the option of each.
use Rattle.std.specs.Prelude.{ℕ, ◌+◌, List, [], ◌∷◌, ◌++◌, length, map, replicate, slice_index_or, ◌==◌, if◌then◌else◌}
use Rattle.std.specs.List.{range_with_len, concat, sum_by}
use Rattle.cover_problem.specs.Problem.{Problem}
use Rattle.dancing_links.specs.declared.place.Place.{Place}
use Rattle.dancing_links.specs.Columns.{Columns, node_after}

-- where each option begins if the first does at a number, and where the last one ends
abbrev pub starts : ℕ → List (List ℕ) → List ℕ
starts start [] = start ∷ []
starts start (items ∷ options) = start ∷ starts (start + length items) options

-- the number of its option for each item of each option, if the first option has a number
abbrev pub numbered : ℕ → List (List ℕ) → List ℕ
numbered option [] = []
numbered option (items ∷ options) = replicate (length items) option ++ numbered (option + 1) options

-- how many heads there are: one for each item, and one for the column of items
abbrev pub heads_of : Problem → ℕ
heads_of problem = length problem.names + 1

-- where the nodes of options begin
abbrev pub base_of : Problem → ℕ
base_of problem = heads_of problem + length problem.names

-- where the tails begin
abbrev pub tails_of : Problem → ℕ
tails_of problem = base_of problem + sum_by length problem.options

-- the column of each node
unfoldable pub column_list : Problem → List ℕ
column_list problem =
    range_with_len 0 (heads_of problem) ++ (replicate (length problem.names) (length problem.names) ++ (concat problem.options ++ range_with_len 0 (heads_of problem)))

-- the colour of each node
unfoldable pub colour_list : Problem → List ℕ
colour_list problem = replicate (base_of problem) 0 ++ (concat problem.colours ++ replicate (heads_of problem) 0)

-- the option of each node; nodes that belong to none have the number after the last option
unfoldable pub option_list : Problem → List ℕ
option_list problem =
    replicate (base_of problem) (length problem.options) ++ (numbered 0 problem.options ++ replicate (heads_of problem) (length problem.options))

-- where each option begins, and where it ends; the number after the last option has no node
unfoldable pub first_list : Problem → List ℕ
first_list problem = starts (base_of problem) problem.options ++ tails_of problem ∷ []

-- the node to the right in a row, behind the last the first; in a row without a node a node stands alone
abbrev pub right_in : ℕ → ℕ → ℕ → ℕ
right_in begin end node = if begin == end then node else node_after begin end node

-- what stands at a node, by the items, the colours and the options of the nodes and the first node of each option
abbrev pub place_by : List ℕ → List ℕ → List ℕ → List ℕ → ℕ → Place
place_by items colours options first node = record {
  right = right_in (slice_index_or first (slice_index_or options node 0) 0) (slice_index_or first (slice_index_or options node 0 + 1) 0) node;
  item = slice_index_or items node 0;
  colour = slice_index_or colours node 0;
}

-- what stands at each node
unfoldable pub place_list : Problem → List Place
place_list problem = map (place_by (column_list problem) (colour_list problem) (option_list problem) (first_list problem)) (range_with_len 0 (length (column_list problem)))

-- the columns of a problem
abbrev pub table : Problem → Columns
table problem = record {
  heads = heads_of problem;
  tails = tails_of problem;
  column = column_list problem;
  colour = colour_list problem;
  option = option_list problem;
  first = first_list problem;
  places = place_list problem;
}
