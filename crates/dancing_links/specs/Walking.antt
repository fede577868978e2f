-- Walks down a column.
use Rattle.std.specs.Prelude.{ℕ, zero, suc, nat_lt, ◌<◌, ◌≤◌, ◌-◌, List, [], ◌∷◌, if◌then◌else◌}
use Rattle.dancing_links.specs.declared.link.Link.{Link}
use Rattle.dancing_links.specs.Linking.{down_of}
use Rattle.dancing_links.specs.Columns.{Columns, column_of, option_of}

-- the options of the nodes down a column from one on, for at most so many steps
abbrev pub walk : Columns → List Link → ℕ → ℕ → List ℕ
walk c m zero node = []
walk c m (suc steps) node = if nat_lt node c.tails then option_of c node ∷ walk c m steps (down_of m node) else []

-- the options of the nodes down a column from one on, to its tail
abbrev pub options_left : Columns → List Link → ℕ → List ℕ
options_left c m node = walk c m (c.tails - node) node

-- the first node of a range whose item is below a bound, or the end of the range where none is
pub record IsBelowIn (c : Columns) (bound begin end node : ℕ) : Type 0 where
  pub low : begin ≤ node
  pub high : node ≤ end
  pub found : node < end → column_of c node < bound
  pub before : (k : ℕ) → begin ≤ k → k < node → bound ≤ column_of c k
