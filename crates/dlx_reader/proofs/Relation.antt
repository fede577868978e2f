-- What is read has the relation to the text, and nothing else has it.
use Rattle.std.proofs.Common.{◌≡◌, ℕ, List, [], ◌∷◌, Ok, Err, true, false, refl, ap, ◌∙◌, arith, count_by, not, take, drop, get_or, map, ◌&&◌, subst, sym}
use Rattle.std.specs.List.{list_all}
use Rattle.std.proofs.lemmas.Bool.{and_parts}
use Rattle.cover_problem.specs.Problem.{Problem, problem_by}
use Rattle.dlx_reader.specs.Content.{is_content, content_of}
use Rattle.dlx_reader.specs.Items.{names_in, primary_in, primary_names}
use Rattle.dlx_reader.specs.Content.{is_word}
use Rattle.dlx_reader.specs.Options.{KeptOptions}
use Rattle.dlx_reader.specs.Occurrences.{item_part, colour_part}
use Rattle.dlx_reader.specs.ProblemOf.{IsProblemIn, IsProblemOf}
use Rattle.dlx_reader.specs.OptionLines.{names_primary, is_option_line, kept_lines, colours_in}
use Rattle.dlx_reader.specs.Reading.{◌>>=◌, Reading, items_from, options_from, none_kept, reading_of, read_by}
use Rattle.dlx_reader.proofs.ItemLines.{items_read}
use Rattle.dlx_reader.proofs.OptionLines.{words_in, none_stands, options_stand}
use Rattle.dlx_reader.proofs.Problems.{lines_words, read_is_problem}
use Rattle.dlx_reader.proofs.WordTexts.{content_words, each_words}

-- the problem of parts that are read
abbrev pub problem_read : List (List ℕ) → ℕ → KeptOptions → Problem
problem_read names primary kept = problem_by names primary kept.options kept.colours kept.colour_names

-- parts that are read
parts_related : (line : ℕ) (words : List (List ℕ)) (others : List (ℕ × List (List ℕ))) (names : List (List ℕ)) (kept : KeptOptions) → is_content words ≡ true → list_all is_word words ≡ true → list_all (λ line. list_all is_word line.1) others ≡ true → items_from line [] false words ≡ Ok names → options_from names (primary_in words) none_kept others ≡ Ok kept → IsProblemIn words (words_in others) (problem_read names (primary_in words) kept) kept.ignored
parts_related line words others names kept content each lines_each items options =
    let primary = primary_in words in
    let item_line = items_read line [] false words names items in
    let stands = options_stand names primary [] others none_kept kept (item_line.differ refl) (none_stands names primary) options in
    let same : names ≡ names_in words = item_line.whole in
    let first : take primary names ≡ primary_names words = ap (take primary) same in
    record {
      lawful = read_is_problem line words others names kept content each lines_each items options;
      names = same;
      separator = omega (arith, item_line.bars);
      primary = refl;
      each_line = ap (λ pn. list_all (is_option_line names pn) (words_in others)) (sym first) ∙ stands.lawful (lines_words others lines_each);
      options = stands.options ∙ ap (λ pn. map (map item_part) (kept_lines pn (words_in others))) first;
      colours = stands.colours ∙ ap (λ pn. map (map colour_part) (kept_lines pn (words_in others))) first;
      colour_names = stands.colour_names ∙ ap (λ pn. colours_in (kept_lines pn (words_in others))) first;
      others = stands.total ∙ ap (λ pn. count_by (λ ws. not (names_primary pn ws)) (words_in others)) first;
    }

-- lines that are read
content_related : (lines : List (ℕ × List (List ℕ))) (problem : Problem) (ignored : ℕ) → list_all (λ line. is_content line.1 && list_all is_word line.1) lines ≡ true → reading_of lines ≡ Ok (read_by problem ignored) → IsProblemIn (get_or lines 0 (0, [])).1 (words_in (drop 1 lines)) problem ignored
unfolding reading_of
content_related [] problem ignored each h = absurd (cc)
content_related (first ∷ others) problem ignored each h =
    let primary = primary_in first.1 in
    let made : List (List ℕ) → KeptOptions → Reading = λ names kept. record { names = names; primary = primary; kept = kept } in
    let parts = and_parts (is_content first.1 && list_all is_word first.1) (list_all (λ (line : ℕ × List (List ℕ)). is_content line.1 && list_all is_word line.1) others) each in
    let lawful = and_parts (is_content first.1) (list_all is_word first.1) parts.0 in
    (elim (items_from first.0 [] false first.1) as (λ r. items_from first.0 [] false first.1 ≡ r → (r >>= (λ names. options_from names primary none_kept others >>= (λ kept. Ok (made names kept)))) ≡ Ok (read_by problem ignored) → IsProblemIn first.1 (words_in others) problem ignored) [
      | Ok names ↦ λ items g.
          (elim (options_from names primary none_kept others) as (λ r. options_from names primary none_kept others ≡ r → (r >>= (λ kept. Ok (made names kept))) ≡ Ok (read_by problem ignored) → IsProblemIn first.1 (words_in others) problem ignored) [
            | Ok kept ↦ λ options whole.
                let same : made names kept ≡ read_by problem ignored = cc in
                let related = parts_related first.0 first.1 others names kept lawful.0 lawful.1 (each_words others parts.1) items options in
                subst (λ (r : Reading). IsProblemIn first.1 (words_in others) (problem_read r.names r.primary r.kept) r.kept.ignored) same related
            | Err fault ↦ λ options whole. absurd (cc)
          ]) refl g
      | Err fault ↦ λ items g. absurd (cc)
    ]) refl h

pub text_related : (text : List ℕ) (problem : Problem) (ignored : ℕ) → reading_of (content_of text) ≡ Ok (read_by problem ignored) → IsProblemOf text problem ignored
text_related text problem ignored h = content_related (content_of text) problem ignored (content_words text) h
