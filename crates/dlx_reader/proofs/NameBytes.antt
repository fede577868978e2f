-- The names of a problem are words, and no two of them are equal.
use Rattle.std.proofs.Common.{◌≡◌, ◌+◌, ℕ, zero, suc, ◌<◌, List, [], ◌∷◌, length, get_or, map, Bool, true, false, not, ◌==◌, ◌∙◌, sym, ap, refl, arith, All, nat_le, nat_lt, ◌&&◌, ◌≤◌, length-append}
use Rattle.std.proofs.lemmas.Bool.{both_ways, not-true, and_parts, or_from, ne_eqb, leb-true, ltb-true}
use Rattle.std.proofs.lemmas.List.Elements.{All-nil, All-cons, All-head, All-tail, All-weaker, All-map, All-append}
use Rattle.std.specs.List.{list_all, zip}
use Rattle.std.proofs.Math.Dec.{eqb-suc-zero}
use Rattle.std.specs.Int.{IsInRange}
use Rattle.cover_problem.specs.Problem.{Problem, IsProblem, items_of, colours_of, forbidden, is_name}
use Rattle.cover_problem.proofs.Colours.{colours_long, colours_below}
use Rattle.cover_problem.specs.Numbers.{is_in, some_below}
use Rattle.dlx_reader.specs.Lines.{is_white}
use Rattle.dlx_reader.specs.Occurrences.{has_colon}
use Rattle.dlx_reader.specs.Writing.{name_text, colour_behind, word_text, occurrences_of, option_words}
use Rattle.cover_problem.proofs.Named.{option_named}

-- a byte that is neither white space nor the end of a line
pub record IsPlain (byte : ℕ) : Type 0 where
  pub no_white : is_white byte ≡ false
  pub no_end : (byte == 10) ≡ false

-- a word: at least one byte, each of them plain
pub record IsWord (word : List ℕ) : Type 0 where
  pub some : 0 < length word
  pub plain : All IsPlain word

pub All-from_test : {X : Type 0} (test : X → Bool) (xs : List X) → list_all test xs ≡ true → All (λ x. test x ≡ true) xs
All-from_test test [] all = All-nil (λ x. test x ≡ true)
All-from_test test (x ∷ xs) all = let parts = and_parts (test x) (list_all test xs) all in All-cons (λ x. test x ≡ true) x xs parts.0 (All-from_test test xs parts.1)

-- a byte that isn't these six is plain
pub plain_by : (b : ℕ) → (b ≡ 9 → ⊥) → (b ≡ 10 → ⊥) → (b ≡ 11 → ⊥) → (b ≡ 12 → ⊥) → (b ≡ 13 → ⊥) → (b ≡ 32 → ⊥) → IsPlain b
plain_by b n9 n10 n11 n12 n13 n32 = record {
  no_white = rw (ne_eqb b 9 n9, ne_eqb b 11 n11, ne_eqb b 12 n12, ne_eqb b 13 n13, ne_eqb b 32 n32) refl;
  no_end = ne_eqb b 10 n10;
}

lawful_other : (b c : ℕ) → not (is_in forbidden b) ≡ true → is_in forbidden c ≡ true → b ≡ c → ⊥
lawful_other b c lawful barred same = both_ways (is_in forbidden c) (ap (is_in forbidden) (sym same) ∙ not-true (is_in forbidden b) lawful) barred

pub plain_lawful : (b : ℕ) → not (is_in forbidden b) ≡ true → IsPlain b
plain_lawful b lawful =
    plain_by b (lawful_other b 9 lawful refl) (lawful_other b 10 lawful refl) (lawful_other b 11 lawful refl) (lawful_other b 12 lawful refl) (lawful_other b 13 lawful refl) (lawful_other b 32 lawful refl)

pub plain_digit : (b : ℕ) → IsInRange 48 57 b → IsPlain b
plain_digit b digit =
    plain_by b (λ same. omega (arith, digit)) (λ same. omega (arith, digit)) (λ same. omega (arith, digit)) (λ same. omega (arith, digit)) (λ same. omega (arith, digit)) (λ same. omega (arith, digit))

pub word_from_name : (name : List ℕ) → is_name name ≡ true → IsWord name
word_from_name name is =
    let parts = and_parts (nat_le 1 (length name) && nat_le (length name) 32) (list_all (λ byte. not (is_in forbidden byte)) name) is in
    let long = and_parts (nat_le 1 (length name)) (nat_le (length name) 32) parts.0 in
    record {
      some = leb-true 1 (length name) long.0;
      plain = All-weaker (λ b. not (is_in forbidden b) ≡ true) IsPlain plain_lawful name (All-from_test (λ byte. not (is_in forbidden byte)) name parts.1);
    }

-- the colours of an option are colours of the problem, or none
pub option_coloured : (p : Problem) (o : ℕ) → IsProblem p → o < length p.options → All (λ c. c ≤ length p.colour_names) (colours_of p o)
option_coloured p o is inside =
    All-weaker (λ c. nat_lt c (length p.colour_names + 1) ≡ true) (λ c. c ≤ length p.colour_names)
    (λ c below.
    let under = ltb-true c (length p.colour_names + 1) below in
    omega (arith, under))
    (colours_of p o) (All-from_test (λ c. nat_lt c (length p.colour_names + 1)) (colours_of p o) (colours_below p o is inside))

-- no name has a colon
pub name_no_colon : (name : List ℕ) → is_name name ≡ true → has_colon name ≡ false
name_no_colon name is =
    let parts = and_parts (nat_le 1 (length name) && nat_le (length name) 32) (list_all (λ byte. not (is_in forbidden byte)) name) is in
    no_colon_in name parts.1
  where
    no_colon_in : (bytes : List ℕ) → list_all (λ byte. not (is_in forbidden byte)) bytes ≡ true → has_colon bytes ≡ false
    no_colon_in [] h = refl
    no_colon_in (byte ∷ bytes) h =
        let parts = and_parts (not (is_in forbidden byte)) (list_all (λ b. not (is_in forbidden b)) bytes) h in
        or_from (byte == 58) (has_colon bytes) (ne_eqb byte 58 (lawful_other byte 58 parts.0 refl)) (no_colon_in bytes parts.1)

-- what stands behind a name is plain
behind_plain : (p : Problem) (colour : ℕ) → IsProblem p → colour ≤ length p.colour_names → All IsPlain (colour_behind p colour)
behind_plain p zero is named = All-nil IsPlain
behind_plain p (suc colour) is named =
    let name = word_from_name (get_or p.colour_names colour []) (is.each_colour_name colour [] (omega arith)) in
    rw (eqb-suc-zero colour) (All-cons IsPlain 58 (get_or p.colour_names colour []) (plain_by 58 (λ e. omega arith) (λ e. omega arith) (λ e. omega arith) (λ e. omega arith) (λ e. omega arith) (λ e. omega arith)) name.plain)

-- an item and a colour that the problem has
pub record IsOccurrence (p : Problem) (occurrence : ℕ × ℕ) : Type 0 where
  pub item : occurrence.0 < length p.names
  pub colour : occurrence.1 ≤ length p.colour_names

occurrence_word : (p : Problem) (occurrence : ℕ × ℕ) → IsProblem p → IsOccurrence p occurrence → IsWord (word_text p occurrence)
occurrence_word p occurrence is here =
    let name = word_from_name (name_text p occurrence.0) (is.each_name occurrence.0 [] here.item) in
    record {
      some = omega (arith, name.some, length-append (name_text p occurrence.0) (colour_behind p occurrence.1));
      plain = All-append IsPlain (name_text p occurrence.0) (colour_behind p occurrence.1) name.plain (behind_plain p occurrence.1 is here.colour);
    }

both_occur : (p : Problem) (items colours : List ℕ) → All (λ i. i < length p.names) items → All (λ c. c ≤ length p.colour_names) colours → All (IsOccurrence p) (zip items colours)
both_occur p [] colours all_items all_colours = All-nil (IsOccurrence p)
both_occur p (i ∷ is) [] all_items all_colours = All-nil (IsOccurrence p)
both_occur p (i ∷ is) (c ∷ cs) all_items all_colours =
    All-cons (IsOccurrence p) (i, c) (zip is cs)
    (record { item = All-head (λ x. x < length p.names) i is all_items; colour = All-head (λ x. x ≤ length p.colour_names) c cs all_colours })
    (both_occur p is cs (All-tail (λ x. x < length p.names) i is all_items) (All-tail (λ x. x ≤ length p.colour_names) c cs all_colours))

-- the words of an option are words
pub words_words : (p : Problem) (o : ℕ) → IsProblem p → o < length p.options → All IsWord (option_words p o)
words_words p o is inside =
    All-map IsWord (word_text p) (occurrences_of p o)
    (All-weaker (IsOccurrence p) (λ occurrence. IsWord (word_text p occurrence)) (λ occurrence here. occurrence_word p occurrence is here) (occurrences_of p o) (both_occur p (items_of p o) (colours_of p o) (option_named p o is inside) (option_coloured p o is inside)))

some_items : (n : ℕ) (items : List ℕ) → some_below n items ≡ true → 0 < length items
some_items n [] some = absurd (both_ways false refl some)
some_items n (i ∷ is) some = omega arith

some_words : (p : Problem) (items colours : List ℕ) → 0 < length items → length colours ≡ length items → 0 < length (map (word_text p) (zip items colours))
some_words p [] colours some long = absurd (omega arith)
some_words p (i ∷ is) [] some long = absurd (omega (arith, long))
some_words p (i ∷ is) (c ∷ cs) some long = omega arith

-- there is a word at least
pub words_some : (p : Problem) (o : ℕ) → IsProblem p → o < length p.options → 0 < length (option_words p o)
words_some p o is inside = some_words p (items_of p o) (colours_of p o) (some_items p.primary (items_of p o) (is.each_primary o [] inside)) (colours_long p o is)
