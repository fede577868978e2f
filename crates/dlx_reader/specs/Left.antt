-- What is left of a text, line by line.
use Rattle.std.specs.Prelude.{◌≡◌, ℕ, ◌+◌, ◌<◌, List, [], ◌∷◌, length, Option, Some, None}
use Rattle.std.specs.Borrow.{Bor}
use Rattle.dlx_reader.specs.Answers.{worded_lines}
use Rattle.dlx_reader.specs.Content.{content_from}
use Rattle.dlx_reader.specs.Lines.{lines_of, words_of}
use Rattle.dlx_reader.specs.declared.lines.Line.{Line}

-- the lines that are left, behind so many that were taken
pub record Lines : Type 0 where
  pub before : ℕ
  pub lines : List (List ℕ)

-- the lines of bytes, if there are any bytes to have lines
abbrev pub lines_in : Option (Bor (List ℕ)) → List (List ℕ)
lines_in None = []
lines_in (Some text) = lines_of text.now

-- at most so many lines are in bytes
abbrev pub most_in : Option (Bor (List ℕ)) → ℕ
most_in None = 0
most_in (Some text) = length text.now + 1

-- those of the lines left that say something
abbrev pub content_left : Lines → List (ℕ × List (List ℕ))
content_left left = content_from (left.before + 1) left.lines

-- those of the lines left that aren't blank
abbrev pub worded_left : Lines → List (ℕ × List (List ℕ))
worded_left left = worded_lines (left.before + 1) left.lines

-- a line's number and its words
abbrev pub line_of : Line → ℕ × List (List ℕ)
line_of line = (line.number, words_of line.text.now)

-- the first of the lines left, and what is left behind it
pub record IsFirstOf (old new : Lines) (line : Line) : Type 0 where
  pub lines : old.lines ≡ line.text.now ∷ new.lines
  pub number : line.number ≡ old.before + 1
  pub before : new.before ≡ line.number

-- the first of the lines of a kind, and what is left behind it
pub record IsFirstIn (kind : Lines → List (ℕ × List (List ℕ))) (old new : Lines) (line : Line) : Type 0 where
  pub lines : kind old ≡ line_of line ∷ kind new
  pub behind : old.before < line.number
  pub before : new.before ≡ line.number
