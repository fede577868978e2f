-- What a test of a certificate keeps: sets of items and of options, as lists.
use Rattle.std.specs.Prelude.{◌≡◌, ℕ, List, length, Bool, true, false, slice_index_or, Option, IfSome}
use Rattle.std.specs.List.{All}
use Rattle.cover_problem.specs.Problem.{Problem}
use Rattle.option_sets.specs.Sets.{has, words_of}
use Rattle.cover_certificates.specs.Stuck.{AreStuck}

-- whether an item is in a set, which has a place for each primary item
abbrev pub has_item : List Bool → ℕ → Bool
has_item items item = slice_index_or items item false

-- items that are to be covered, and the options that are live
pub record Case : Type 0 where
  pub items : List Bool
  pub live : List ℕ

-- such sets of a problem
pub record IsCase (problem : Problem) (case : Case) : Type 0 where
  pub items : length case.items ≡ problem.primary
  pub live : length case.live ≡ words_of problem

-- some items of the case, which can't be covered
pub record AreStuckIn (problem : Problem) (case : Case) (items : List Bool) : Type 0 where
  pub long : length items ≡ problem.primary
  pub within : (item : ℕ) → has_item items item ≡ true → has_item case.items item ≡ true
  pub stuck : AreStuck problem (has_item items) (has case.live)

-- a case of a problem, none of whose items can be done without: they can't be covered
pub record IsStuckCase (problem : Problem) (case : Case) : Type 0 where
  pub is_case : IsCase problem case
  pub stuck : AreStuck problem (has_item case.items) (has case.live)

-- what a place of a list of kept cases has, if anything, can't be covered
abbrev pub AreStuckCases : Problem → List (Option Case) → Type 0
AreStuckCases problem list = All (λ slot. IfSome slot (IsStuckCase problem)) list
