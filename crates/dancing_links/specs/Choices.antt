-- What is true of the links of a problem in which options are chosen.
use Rattle.std.specs.Prelude.{◌≡◌, ℕ, ◌<◌, ◌≤◌, ◌-◌, List, [], ◌∷◌, ◌++◌, length, true, false, replicate, map}
use Rattle.std.specs.List.{flat_map, All}
use Rattle.cover_problem.specs.Prefix.{is_covered, is_prefix}
use Rattle.cover_problem.specs.Problem.{Problem, IsProblem, names_item}
use Rattle.choices.specs.Choices.{first_primary}
use Rattle.dancing_links.specs.declared.link.Link.{Link}
use Rattle.dancing_links.specs.declared.trail_mark.TrailMark.{TrailMark}
use Rattle.dancing_links.specs.Building.{IsBuilt}
use Rattle.dancing_links.specs.Columns.{Columns, column_of, option_of, IsLinked, IsOptionNode}
use Rattle.dancing_links.specs.Committing.{committed, covering}
use Rattle.dancing_links.specs.Keys.{IsKeyed}
use Rattle.dancing_links.specs.Covering.{links_all, outs_all, nodes_by}
use Rattle.dancing_links.specs.Table.{table}
use Rattle.dancing_links.specs.Trail.{hidden_all}

-- the node of the first primary item of an option
pub record IsPrimary (problem : Problem) (c : Columns) (option node : ℕ) : Type 0 where
  pub in_option : IsOptionNode c node
  pub own : option_of c node ≡ option
  pub primary : column_of c node < problem.primary
  pub named : names_item problem option (column_of c node) ≡ true
  pub first : column_of c node ≡ first_primary problem option

-- the nodes of chosen options in turn, those of each from the node on by which it was chosen
abbrev pub chosen_nodes : Columns → List ℕ → List ℕ
chosen_nodes c entries = flat_map (nodes_by c) entries

-- no item got a colour yet
abbrev pub no_commits : Columns → List ℕ
no_commits c = replicate (c.heads - 1) 0

-- how many of those nodes gave each item a colour
abbrev pub commits_of : Columns → List ℕ → List ℕ
commits_of c entries = committed c (no_commits c) (chosen_nodes c entries)

-- those of them that cover their items
abbrev pub covering_nodes : Columns → List ℕ → List ℕ
covering_nodes c entries = covering c (no_commits c) (chosen_nodes c entries)

-- the nodes that are out once they do
abbrev pub out_of : Columns → List ℕ → List ℕ
out_of c entries = outs_all c [] (covering_nodes c entries)

-- links and keys are as built once nodes cover their items one after the other
pub record IsHistory (c : Columns) (nodes : List ℕ) (links : List Link) (keys : List ℕ) : Type 0 where
  pub before : List Link
  pub built : IsBuilt c before
  pub links_are : links ≡ links_all c [] before nodes
  pub keyed : IsKeyed c (outs_all c [] nodes) keys

-- what those nodes hid, in that order
abbrev pub trail_of : Columns → List ℕ → List ℕ
trail_of c entries = hidden_all c [] (covering_nodes c entries)

-- how long that was before a choice by a node, and once its item was covered
abbrev pub mark_at : Columns → List ℕ → ℕ → TrailMark
mark_at c entries k = record { start = length (trail_of c entries); middle = length (hidden_all c [] (covering_nodes c entries ++ k ∷ [])) }

-- the same for each choice after some
abbrev pub marks_from : Columns → List ℕ → List ℕ → List TrailMark
marks_from c done [] = []
marks_from c done (k ∷ entries) = mark_at c done k ∷ marks_from c (done ++ k ∷ []) entries

-- the trail has what is hidden, and room for all nodes; what is kept of each choice says how long it was
pub record IsTrail (c : Columns) (primary : ℕ) (entries trail : List ℕ) (room : ℕ) (marks : List TrailMark) (space : ℕ) : Type 0 where
  pub trail_is : trail ≡ trail_of c entries
  pub enough : c.tails ≤ room
  pub marks_are : marks ≡ marks_from c [] entries
  pub some : primary ≤ space

-- each choice was by an item that no option chosen before it names
abbrev pub AreFresh : Problem → Columns → List ℕ → List ℕ → Type 0
AreFresh problem c chosen [] = Unit {0}
AreFresh problem c chosen (k ∷ entries) = (is_covered problem chosen (column_of c k) ≡ false) × AreFresh problem c (chosen ++ option_of c k ∷ []) entries

-- The links are those of the problem's columns once the nodes of the chosen options cover their items, from the node on by which each was chosen (TAOCP 7.2.2.1).
pub record IsLinks (problem : Problem) (c : Columns) (chosen entries : List ℕ) (links : List Link) (keys : List ℕ) (room : ℕ) : Type 0 where
  pub is_problem : IsProblem problem
  pub layout : c ≡ table problem
  pub enough : problem.primary ≤ room
  pub prefix : is_prefix problem chosen ≡ true
  pub linked : IsLinked c links
  pub each_node : All (IsOptionNode c) entries
  pub options : map (option_of c) entries ≡ chosen
  pub fresh : AreFresh problem c [] entries
  pub history : IsHistory c (covering_nodes c entries) links keys
