-- Reading a problem word by word, with the first fault: what the code does, as a function on lists.
use Rattle.std.specs.Prelude.{◌≡◌, ℕ, ◌+◌, List, [], ◌∷◌, ◌++◌, length, Option, Some, None, Result, Ok, Err, map, nat_lt, ◌&&◌, ◌||◌, ◌==◌, Bool, false, if◌then◌else◌}
use Rattle.std.specs.List.{sum_by}
use Rattle.cover_problem.specs.Numbers.{is_in, some_below}
use Rattle.cover_problem.specs.Problem.{Problem}
use Rattle.cover_problem.specs.declared.limits.TheConstants.{MOST_COLOURS, MOST_NODES, MOST_OPTIONS}
use Rattle.dlx_reader.specs.Content.{begins_with_bar}
use Rattle.dlx_reader.specs.Items.{name_part, primary_in}
use Rattle.dlx_reader.specs.Options.{KeptOptions}
use Rattle.dlx_reader.specs.Names.{item_named}
use Rattle.dlx_reader.specs.Faults.{part_tests, item_tests}
use Rattle.dlx_reader.specs.Occurrences.{has_colon, item_part, colour_part}
use Rattle.dlx_reader.specs.declared.fault.ReadFault.{ReadFault}
use Rattle.dlx_reader.specs.declared.fault.ReadFault.TheVariants as faults
use Rattle.dlx_reader.specs.declared.text_fault.TextFault.{TextFault}
use Rattle.dlx_reader.specs.Unknown.{plain}

-- one step after another: the first fault ends them
infixl 10 ◌>>=◌
abbrev pub ◌>>=◌ : {A B : Type 0} → Result A ReadFault → (A → Result B ReadFault) → Result B ReadFault
(Ok x) >>= f = f x
(Err e) >>= f = Err e

-- What a function returned, seen by view, is what reading gives, unless memory ran out.
abbrev pub Gives : {X Y : Type 0} → (X → Y) → Result X ReadFault → Result Y ReadFault → Type 0
Gives view (Ok x) read = read ≡ Ok (view x)
Gives view (Err e) read = (e ≡ faults.Memory → ⊥) → read ≡ Err e

-- the same where the fault comes with the name that no item has
abbrev pub GivesPlain : {X Y : Type 0} → (X → Y) → Result X TextFault → Result Y ReadFault → Type 0
GivesPlain view (Ok x) read = read ≡ Ok (view x)
GivesPlain view (Err e) read = (plain e ≡ faults.Memory → ⊥) → read ≡ Err (plain e)

-- a value where no test holds, else the fault of the first that does
abbrev pub after : {A : Type 0} → List (Bool × ReadFault) → A → Result A ReadFault
after [] x = Ok x
after (test ∷ tests) x = if test.0 then Err test.1 else after tests x

-- the names after the name that a word gives, if any
abbrev pub add_name : List (List ℕ) → List ℕ → List (List ℕ)
add_name names name = if length name == 0 then names else names ++ name ∷ []

-- the names, and whether the separator has come, after a further word of the item line
unfoldable pub item_at : ℕ → List (List ℕ) → Bool → List ℕ → Result (List (List ℕ) × Bool) ReadFault
item_at line names divided word = after (item_tests line names divided word) (add_name names (name_part word), divided || begins_with_bar word)

-- the names after further words of the item line
unfoldable pub items_from : ℕ → List (List ℕ) → Bool → List (List ℕ) → Result (List (List ℕ)) ReadFault
items_from line names divided [] = Ok names
items_from line names divided (word ∷ words) = do
  state ← item_at line names divided word
  items_from line state.0 state.1 words

-- the item that a name has, or the fault where none has it
abbrev pub known_item : ℕ → Option ℕ → Result ℕ ReadFault
known_item line None = Err (faults.UnknownItem line)
known_item line (Some item) = Ok item

-- the items of an option after a further word
unfoldable pub option_item_at : ℕ → List (List ℕ) → ℕ → List ℕ → List ℕ → Result (List ℕ) ReadFault
option_item_at line names primary items word = do
  name ← after (part_tests line (has_colon word) (item_part word) (colour_part word)) (item_part word)
  item ← known_item line (item_named names name)
  after ((is_in items item, faults.DuplicateInOption line) ∷ (has_colon word && nat_lt item primary, faults.ColourOnPrimary line) ∷ []) (items ++ item ∷ [])

-- the items of an option after further words
unfoldable pub option_from : ℕ → List (List ℕ) → ℕ → List ℕ → List (List ℕ) → Result (List ℕ) ReadFault
option_from line names primary items [] = Ok items
option_from line names primary items (word ∷ words) = do
  more ← option_item_at line names primary items word
  option_from line names primary more words

-- the names of colours and the number of a colour that is found among them, or is added to them
abbrev pub colour_found : ℕ → List (List ℕ) → List ℕ → Option ℕ → Result (List (List ℕ) × ℕ) ReadFault
colour_found line names colour (Some number) = Ok (names, number + 1)
colour_found line names colour None = after ((nat_lt MOST_COLOURS (length names + 1), faults.TooManyColours line) ∷ []) (names ++ colour ∷ [], length names + 1)

-- the same of the colour that a word has, or has not: no colour has the number 0
unfoldable pub colour_at : ℕ → List (List ℕ) → List ℕ → Result (List (List ℕ) × ℕ) ReadFault
colour_at line names colour = if length colour == 0 then Ok (names, 0) else colour_found line names colour (item_named names colour)

-- the names of colours, and the numbers of the colours of an option, after further ones
unfoldable pub colours_from : ℕ → List (List ℕ) → List ℕ → List (List ℕ) → Result (List (List ℕ) × List ℕ) ReadFault
colours_from line names numbers [] = Ok (names, numbers)
colours_from line names numbers (colour ∷ colours) = do
  state ← colour_at line names colour
  colours_from line state.0 (numbers ++ state.1 ∷ []) colours

-- the tests of the limits where an option with these items is kept, but for that of the colours
abbrev pub room_tests : ℕ → List (List ℕ) → List ℕ → List (Bool × ReadFault)
room_tests line options items =
    (nat_lt MOST_OPTIONS (length options + 1), faults.TooManyOptions line) ∷ (nat_lt MOST_NODES (sum_by length options + length items), faults.TooManyNodes line) ∷ []

-- what is kept with an option of these items and colours, and the names of colours then
abbrev pub more_kept : KeptOptions → List ℕ → List (List ℕ) × List ℕ → KeptOptions
more_kept kept items colours = record kept {
  options = kept.options ++ items ∷ [];
  colours = kept.colours ++ colours.1 ∷ [];
  colour_names = colours.0;
}

-- what is kept where one more option is ignored
abbrev pub more_ignored : KeptOptions → KeptOptions
more_ignored kept = record kept { ignored = kept.ignored + 1 }

-- what is kept after an option with these items and words
unfoldable pub keep_at : ℕ → ℕ → KeptOptions → List ℕ → List (List ℕ) → Result KeptOptions ReadFault
keep_at line primary kept items words =
    if some_below primary items
    then (do
      own ← after (room_tests line kept.options items) items
      colours ← colours_from line kept.colour_names [] (map colour_part words)
      Ok (more_kept kept own colours))
    else Ok (more_ignored kept)

-- what is kept after an option's line
unfoldable pub option_at : List (List ℕ) → ℕ → KeptOptions → ℕ × List (List ℕ) → Result KeptOptions ReadFault
option_at names primary kept line = do
  items ← option_from line.0 names primary [] line.1
  keep_at line.0 primary kept items line.1

-- what is kept after further lines
unfoldable pub options_from : List (List ℕ) → ℕ → KeptOptions → List (ℕ × List (List ℕ)) → Result KeptOptions ReadFault
options_from names primary kept [] = Ok kept
options_from names primary kept (line ∷ lines) = do
  more ← option_at names primary kept line
  options_from names primary more lines

-- before the first line nothing is kept
abbrev pub none_kept : KeptOptions
none_kept = record { options = []; colours = []; colour_names = []; ignored = 0 }

-- what is read: the parts of a problem, and how many options were ignored
pub record Reading : Type 0 where
  pub names : List (List ℕ)
  pub primary : ℕ
  pub kept : KeptOptions

-- what is read in the lines that say something
unfoldable pub reading_of : List (ℕ × List (List ℕ)) → Result Reading ReadFault
reading_of [] = Err faults.NoItems
reading_of (first ∷ others) = do
  names ← items_from first.0 [] false first.1
  kept ← options_from names (primary_in first.1) none_kept others
  Ok (record { names = names; primary = primary_in first.1; kept = kept })

-- a problem and the number of ignored options, as what is read
abbrev pub read_by : Problem → ℕ → Reading
read_by problem ignored = record {
  names = problem.names;
  primary = problem.primary;
  kept = record { options = problem.options; colours = problem.colours; colour_names = problem.colour_names; ignored = ignored };
}
