-- What the item line gives.
use Rattle.std.proofs.Common.{◌≡◌, ℕ, ◌+◌, ◌≤◌, List, [], ◌∷◌, ◌++◌, length, Ok, Err, Bool, true, false, nat_eq, not, ◌&&◌, ◌||◌, ◌==◌, cond, refl, sym, ◌∙◌, arith, append_assoc, append-nil, length-append, count_by}
use Rattle.std.specs.List.{list_any, list_all}
use Rattle.std.specs.Cmp.Lexicographic.{pointwise}
use Rattle.std.proofs.lemmas.Bool.{true≢false, and_parts, and_from, ltb-false}
use Rattle.std.proofs.lemmas.List.Folds.{list_all-append}
use Rattle.std.proofs.lemmas.List.Sums.{sum_by-cons}
use Rattle.cover_problem.specs.Problem.{is_name, names_differ}
use Rattle.dlx_reader.specs.Content.{begins_with_bar}
use Rattle.dlx_reader.specs.Faults.{item_tests}
use Rattle.dlx_reader.specs.Items.{name_part, names_in}
use Rattle.dlx_reader.specs.Content.{is_word}
use Rattle.dlx_reader.specs.Reading.{◌>>=◌, add_name, item_at, items_from}
use Rattle.dlx_reader.proofs.Differing.{names_differ-push}
use Rattle.dlx_reader.proofs.Firsts.{Fails, after_ok}
use Rattle.dlx_reader.proofs.Lawful.{is_inner, part_inner, is_name_from}

-- what words of the item line add to the names before them, where they are read
pub record ReadsItems (names : List (List ℕ)) (divided : Bool) (words read : List (List ℕ)) : Type 0 where
  pub whole : read ≡ names ++ names_in words
  pub lawful : list_all is_word words ≡ true → list_all is_name names ≡ true → list_all is_name read ≡ true
  pub differ : names_differ names ≡ true → names_differ read ≡ true
  pub room : length names ≤ 1000 → length read ≤ 1000
  pub bars : count_by begins_with_bar words + cond divided 1 0 ≤ 1

-- one word
pub item_read : (line : ℕ) (names : List (List ℕ)) (divided : Bool) (word : List ℕ) (state : List (List ℕ) × Bool) → item_at line names divided word ≡ Ok state → (state ≡ (add_name names (name_part word), divided || begins_with_bar word)) × Fails (item_tests line names divided word)
unfolding item_at
item_read line names divided word state h = let two = after_ok (item_tests line names divided word) (add_name names (name_part word), divided || begins_with_bar word) state h in (sym two.0, two.1)

pub add_names : (names rest : List (List ℕ)) (name : List ℕ) → add_name names name ++ rest ≡ names ++ cond (not (length name == 0)) (name ∷ rest) rest
add_names names rest name =
    elim (length name == 0) as (λ b. cond b names (names ++ name ∷ []) ++ rest ≡ names ++ cond (not b) (name ∷ rest) rest) [
      | true ↦ refl
      | false ↦ append_assoc names (name ∷ []) rest
    ]

add_lawful : (names : List (List ℕ)) (name : List ℕ) → ((length name == 0) ≡ false → is_name name ≡ true) → list_all is_name names ≡ true → list_all is_name (add_name names name) ≡ true
add_lawful names name lawful h =
    (elim (length name == 0) as (λ b. (b ≡ false → is_name name ≡ true) → list_all is_name (cond b names (names ++ name ∷ [])) ≡ true) [
      | true ↦ λ l. h
      | false ↦ λ l. list_all-append is_name names (name ∷ []) ∙ and_from (list_all is_name names) (is_name name && true) h (and_from (is_name name) true (l refl) refl)
    ]) lawful

add_differ : (names : List (List ℕ)) (name : List ℕ) → list_any (λ n. pointwise nat_eq n name) names ≡ false → names_differ names ≡ true → names_differ (add_name names name) ≡ true
add_differ names name fresh h =
    elim (length name == 0) as (λ b. names_differ (cond b names (names ++ name ∷ [])) ≡ true) [
      | true ↦ h
      | false ↦ names_differ-push names name h fresh
    ]

pub length-add : (names : List (List ℕ)) (name : List ℕ) → length (add_name names name) ≡ length names + length (cond (not (length name == 0)) (name ∷ []) [])
length-add names name =
    elim (length name == 0) as (λ b. length (cond b names (names ++ name ∷ [])) ≡ length names + length (cond (not b) (name ∷ []) [])) [
      | true ↦ omega arith
      | false ↦ length-append names (name ∷ [])
    ]

more_bars : (divided bar : Bool) (count : ℕ) → (divided && bar) ≡ false → count + cond (divided || bar) 1 0 ≤ 1 → cond bar 1 0 + count + cond divided 1 0 ≤ 1
more_bars true true count e h = absurd (true≢false e)
more_bars true false count e h = omega arith
more_bars false true count e h = omega arith
more_bars false false count e h = omega arith

-- further words after one
items_more : (line : ℕ) (names : List (List ℕ)) (divided : Bool) (word : List ℕ) (words read : List (List ℕ)) → Fails (item_tests line names divided word) → ReadsItems (add_name names (name_part word)) (divided || begins_with_bar word) words read → ReadsItems names divided (word ∷ words) read
items_more line names divided word words read fails rest = record {
  whole = rest.whole ∙ add_names names (names_in words) (name_part word);
  lawful = λ each before.
      let parts = and_parts (is_word word) (list_all is_word words) each in
      rest.lawful parts.1 (add_lawful names (name_part word) (λ some. is_name_from (name_part word) some fails.0 fails.1.0 (part_inner word (and_parts (not (length word == 0)) (list_all is_inner word) parts.0).1)) before);
  differ = λ before. rest.differ (add_differ names (name_part word) fails.1.1.0 before);
  room = λ before. rest.room (omega (arith, length-add names (name_part word), ltb-false 1000 (length names + length (names_in (word ∷ []))) fails.1.1.1.1.0));
  bars = rw (sum_by-cons (λ w. cond (begins_with_bar w) 1 0) word words) (more_bars divided (begins_with_bar word) (count_by begins_with_bar words) fails.1.1.1.0 rest.bars);
}

pub items_read : (line : ℕ) (names : List (List ℕ)) (divided : Bool) (words read : List (List ℕ)) → items_from line names divided words ≡ Ok read → ReadsItems names divided words read
unfolding items_from
items_read line names divided [] read h = record {
  whole = let same : names ≡ read = cc in sym same ∙ sym (append-nil names);
  lawful = λ each before. let same : names ≡ read = cc in rw (← same) before;
  differ = λ before. let same : names ≡ read = cc in rw (← same) before;
  room = λ before. let same : names ≡ read = cc in rw (← same) before;
  bars = elim divided as (λ b. 0 + cond b 1 0 ≤ 1) [ true ↦ omega arith | false ↦ omega arith ];
}
items_read line names divided (word ∷ words) read h =
    (elim (item_at line names divided word) as (λ r. item_at line names divided word ≡ r → (r >>= (λ state. items_from line state.0 state.1 words)) ≡ Ok read → ReadsItems names divided (word ∷ words) read) [
      | Ok state ↦ λ e g.
          let one = item_read line names divided word state e in
          items_more line names divided word words read one.1 (items_read line (add_name names (name_part word)) (divided || begins_with_bar word) words read (rw one.0 at g))
      | Err fault ↦ λ e g. absurd (cc)
    ]) refl h
