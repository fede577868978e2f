-- Keys, one for each primary item: by the least one the branch item is found (TAOCP 7.2.2.1, branching on an item with fewest options).
use Rattle.std.specs.Prelude.{◌≡◌, ℕ, ◌+◌, ◌*◌, ◌%◌, ◌<◌, ◌≤◌, List, length, true, false, nat_lt, ◌&&◌, Option, Some, None, count_by, slice_index, if◌then◌else◌}
use Rattle.std.specs.List.{range_with_len}
use Rattle.cover_problem.specs.Branching.{branch_item, live_options}
use Rattle.cover_problem.specs.Prefix.{is_covered, is_live}
use Rattle.cover_problem.specs.Problem.{Problem}
use Rattle.option_sets.specs.declared.word.Word.{Word}
use Rattle.option_sets.specs.Sets.{has, row_has, words_of}

-- the set of the options that are live at a prefix
pub record IsLive (problem : Problem) (prefix set : List ℕ) : Type 0 where
  pub words : length set ≡ words_of problem
  pub exact : (x : ℕ) → has set x ≡ (nat_lt x (length problem.options) && is_live problem prefix x)

-- how many options of a row are in a set
unfoldable pub count_in : List Word → List ℕ → ℕ
count_in row set = count_by (λ x. row_has row x && has set x) (range_with_len 0 (64 * length set))

-- the item of a key, unless it is that of a covered one
abbrev pub item_of : ℕ → Option ℕ
item_of key = if nat_lt key 2147483648 then Some (key % 65536) else None

-- whether the key of an item says that it is covered
pub record IsMarked (problem : Problem) (prefix : List ℕ) (item key : ℕ) : Type 0 where
  pub covered : is_covered problem prefix item ≡ true → 2147483648 ≤ key
  pub uncovered : is_covered problem prefix item ≡ false → key < 2147483648

-- the keys of all primary items do
pub record AreMarked (problem : Problem) (prefix keys : List ℕ) : Type 0 where
  pub count : length keys ≡ problem.primary
  pub each : (item : ℕ) → item < problem.primary → IsMarked problem prefix item (slice_index keys item)

-- that of an uncovered item counts the live options that name it, from low to high behind the item
abbrev pub IsCounted : Problem → List ℕ → ℕ → ℕ → Type 0
IsCounted problem prefix item key = is_covered problem prefix item ≡ false → key ≡ item + 65536 * length (live_options problem prefix item)

-- the keys of a level and their least, which gives the branch item; where an uncovered item has no live option, they need not count
pub record AreKeys (problem : Problem) (prefix keys : List ℕ) (least : ℕ) : Type 0 where
  pub marked : AreMarked problem prefix keys
  pub counted : 65536 ≤ least → (item : ℕ) → item < problem.primary → IsCounted problem prefix item (slice_index keys item)
  pub branch : branch_item problem prefix ≡ item_of least
