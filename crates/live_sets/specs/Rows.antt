-- What live rows are seen as, and what is true of them.
use Rattle.std.specs.Prelude.{◌≡◌, ℕ, ◌+◌, List, length, take, Option, Some, IfSome, slice_get, slice_index, true, nat_le, nat_lt, ◌&&◌, ◌||◌}
use Rattle.cover_problem.specs.Branching.{is_choice}
use Rattle.cover_problem.specs.Onward.{live_options_from}
use Rattle.cover_problem.specs.Prefix.{is_live, is_prefix}
use Rattle.cover_problem.specs.Problem.{Problem, IsProblem}
use Rattle.choices.specs.Choices.{Choices, with_child, with_child_if, IsChild}
use Rattle.option_sets.specs.Sets.{row_has, word_has, words_of}
use Rattle.live_sets.specs.declared.levels.Levels.{Levels}
use Rattle.live_sets.specs.declared.made_choice.MadeChoice.{MadeChoice}
use Rattle.live_sets.specs.declared.untried.Untried.{Untried}
use Rattle.live_sets.specs.Levels.{AreLevels}
use Rattle.live_sets.specs.Trying.{IsTrying}

-- what is left are the live options that name an item, from one on
pub record IsUntried (problem : Problem) (prefix : List ℕ) (item start : ℕ) (untried : Untried) : Type 0 where
  pub trying : IsTrying (words_of problem) untried
  pub left : (x : ℕ) → (word_has untried.place untried.bits x || (row_has untried.later.now x && (nat_lt x (length problem.options) && is_live problem prefix x)))
      ≡ (nat_le start x && (nat_lt x (length problem.options) && is_choice problem prefix item x))

-- what is left in place of a choice
abbrev pub untried_of : MadeChoice → Untried
untried_of mark = record { place = mark.place; bits = mark.bits; later = mark.later }

-- what is left behind each chosen option
pub record AreMarks (problem : Problem) (chosen : List ℕ) (marks : List MadeChoice) : Type 0 where
  pub count : length marks ≡ length chosen
  pub each : (e : ℕ) (mark : MadeChoice) → slice_get marks e ≡ Some mark → IsUntried problem (take e chosen) mark.item (slice_index chosen e + 1) (untried_of mark)

-- a prefix, what is left behind each of its options, and its levels
pub record AreRows (problem : Problem) (chosen : List ℕ) (marks : List MadeChoice) (levels : Levels) : Type 0 where
  pub is_problem : IsProblem problem
  pub prefix : is_prefix problem chosen ≡ true
  pub are_marks : AreMarks problem chosen marks
  pub are_levels : AreLevels problem chosen levels

-- the first of the live options that are left is chosen, if there is one
pub record IsTaken (before : Choices) (item start : ℕ) (option : Option ℕ) (after : Choices) : Type 0 where
  pub first : option ≡ slice_get (live_options_from before.problem before.chosen item start) 0
  pub child : IfSome option (IsChild before.problem before.chosen item)
  pub chosen : after ≡ with_child_if before item option

-- the last choice is taken back
pub record IsPopped (before : Choices) (option : ℕ) (mark : MadeChoice) (after : Choices) : Type 0 where
  pub choice : before ≡ with_child after mark.item option
  pub untried : IsUntried after.problem after.chosen mark.item (option + 1) (untried_of mark)
