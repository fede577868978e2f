-- The answer of a text, and the first fault of a text without one.
use Rattle.std.specs.Prelude.{◌≡◌, ◌≢◌, ℕ, ◌<◌, ◌≤◌, ◌⊎◌, List, [], ◌∷◌, ◌++◌, length, take, drop, map, filter, Bool, true, false, not, ◌==◌, Result, Ok, Err, codes, slice_index, slice_index_or}
use Rattle.std.specs.List.{enumerate_from, list_all}
use Rattle.std.specs.Char.{is_ascii_digit}
use Rattle.std.specs.Str.Parse.{digits_value}
use Rattle.cover_problem.specs.Problem.{Problem}
use Rattle.cover_problem.specs.Numbers.{is_in}
use Rattle.cover_problem.specs.declared.answer.Answer.{Answer}
use Rattle.cover_problem.specs.declared.answer.Answer.TheVariants.{Cover, NoCover}
use Rattle.dlx_reader.specs.Lines.{lines_of, words_of}
use Rattle.dlx_reader.specs.Writing.{option_words}
use Rattle.dlx_reader.specs.declared.answer_fault.AnswerFault.{AnswerFault}
use Rattle.dlx_reader.specs.declared.answer_fault.AnswerFault.TheVariants.{BadHead, WrongCount, UnknownOption, Memory}

-- ---- the lines

-- whether a line, given by its number and its words, isn't blank
abbrev pub has_words : ℕ × List (List ℕ) → Bool
has_words line = not (length line.1 == 0)

-- the lines that aren't blank, numbered from a number on over all lines, each with its words
unfoldable pub worded_lines : ℕ → List (List ℕ) → List (ℕ × List (List ℕ))
worded_lines number lines = filter has_words (enumerate_from number (map words_of lines))

-- the words of the first line that isn't blank; no words where each line is blank
abbrev pub head_words : List ℕ → List (List ℕ)
head_words text = (slice_index_or (worded_lines 1 (lines_of text)) 0 (0, [])).1

-- the lines behind it that aren't blank
abbrev pub further_lines : List ℕ → List (ℕ × List (List ℕ))
further_lines text = drop 1 (worded_lines 1 (lines_of text))

-- ---- the head

-- one to five decimal digits, and the number that they write
pub record IsCount (digits : List ℕ) (count : ℕ) : Type 0 where
  pub some : 1 ≤ length digits
  pub few : length digits ≤ 5
  pub decimal : list_all is_ascii_digit digits ≡ true
  pub value : digits_value 10 digits ≡ count

-- the one word `none`
abbrev pub IsNoneHead : List (List ℕ) → Type 0
IsNoneHead words = words ≡ codes "none" ∷ []

-- the two words `cover` and a count
abbrev pub IsCoverHead : List (List ℕ) → ℕ → Type 0
IsCoverHead words count = (digits : List ℕ) × (words ≡ codes "cover" ∷ digits ∷ []) × IsCount digits count

-- the words of a first line after which so many lines follow: none after `none`, and k after `cover k`
abbrev pub IsHead : List (List ℕ) → ℕ → Type 0
IsHead words count = (IsNoneHead words × (count ≡ 0)) ⊎ IsCoverHead words count

-- ---- the options

-- an option that isn't used, and whose items with their colours, in its order, are the words
pub record IsFree (problem : Problem) (used : List ℕ) (words : List (List ℕ)) (option : ℕ) : Type 0 where
  pub in_range : option < length problem.options
  pub unused : is_in used option ≡ false
  pub named : option_words problem option ≡ words

-- the one of these of lowest number
pub record IsLowestFree (problem : Problem) (used : List ℕ) (words : List (List ℕ)) (option : ℕ) : Type 0 where
  pub free : IsFree problem used words option
  pub lowest : (other : ℕ) → IsFree problem used words other → option ≤ other

-- the options of lines, in their order: for each line the lowest free one, where those of the lines before it are used
pub record AreOptionsOf (problem : Problem) (lines : List (ℕ × List (List ℕ))) (options : List ℕ) : Type 0 where
  pub count : length options ≡ length lines
  pub each : (k : ℕ) → k < length lines →
      IsLowestFree problem (take k options) (slice_index_or lines k (0, [])).1 (slice_index options k)

-- the number of the first line for which no option is free, where those of the lines before it are used
pub record IsFirstUnknown (problem : Problem) (lines : List (ℕ × List (List ℕ))) (number : ℕ) : Type 0 where
  pub words : List (List ℕ)
  pub before : List (ℕ × List (List ℕ))
  pub after : List (ℕ × List (List ℕ))
  pub place : lines ≡ before ++ (number, words) ∷ after
  pub used : List ℕ
  pub options : AreOptionsOf problem before used
  pub missing : (option : ℕ) → IsFree problem used words option → ⊥

-- ---- the answer, and the fault

-- the answer of a text: `none` and no further line, or `cover k` and the lines of k options
abbrev pub IsAnswerOf : List ℕ → Problem → Answer → Type 0
IsAnswerOf text problem NoCover = IsNoneHead (head_words text) × (further_lines text ≡ [])
IsAnswerOf text problem (Cover options) =
    IsCoverHead (head_words text) (length (further_lines text)) × AreOptionsOf problem (further_lines text) options

-- the first fault of a text: no such head, else another number of lines than it says, else a line without an option
abbrev pub IsFaultOf : List ℕ → Problem → AnswerFault → Type 0
IsFaultOf text problem BadHead = (count : ℕ) → IsHead (head_words text) count → ⊥
IsFaultOf text problem WrongCount = (count : ℕ) × IsHead (head_words text) count × (length (further_lines text) ≢ count)
IsFaultOf text problem (UnknownOption number) =
    IsHead (head_words text) (length (further_lines text)) × IsFirstUnknown problem (further_lines text) number
IsFaultOf text problem Memory = ⊥

-- what a text gives: its answer, or its first fault
abbrev pub IsReadOf : List ℕ → Problem → Result Answer AnswerFault → Type 0
IsReadOf text problem (Ok answer) = IsAnswerOf text problem answer
IsReadOf text problem (Err fault) = IsFaultOf text problem fault
