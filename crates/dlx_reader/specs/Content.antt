-- The lines of a text that say something: neither blank nor comments (the general form of the input of Knuth's DLX1).
use Rattle.std.specs.Prelude.{ℕ, List, [], ◌∷◌, map, filter, slice_index, length, ◌==◌, ◌&&◌, ◌||◌, Bool, false, not}
use Rattle.std.specs.List.{enumerate_from, list_all}
use Rattle.dlx_reader.specs.Lines.{is_white, lines_of, words_of}

-- whether a word begins with `|`
abbrev pub begins_with_bar : List ℕ → Bool
begins_with_bar word = slice_index word 0 == 124

-- whether a line with these words says something: it has a word, and the first does not begin with `|`
abbrev pub is_content : List (List ℕ) → Bool
is_content [] = false
is_content (word ∷ words) = not (begins_with_bar word)

-- those lines that say something, each as its words, beside its number
unfoldable pub content_from : ℕ → List (List ℕ) → List (ℕ × List (List ℕ))
content_from number lines = filter (λ line. is_content line.1) (enumerate_from number (map words_of lines))

-- the lines of a text that say something, numbered from 1 among all its lines
abbrev pub content_of : List ℕ → List (ℕ × List (List ℕ))
content_of text = content_from 1 (lines_of text)

-- whether the bytes could be a word of a line: some, none of them white space or the end of a line
abbrev pub is_word : List ℕ → Bool
is_word word = not (length word == 0) && list_all (λ byte. not (is_white byte || byte == 10)) word
