-- Each text gives an answer or a fault.
use Rattle.std.proofs.Common.{◌≡◌, ℕ, zero, suc, ◌+◌, ◌<◌, ◌≤◌, ◌⊎◌, List, [], ◌∷◌, ◌++◌, length, take, get_or, Bool, true, ◌&&◌, nat_le, Result, Ok, Err, codes, sym, ap, refl, arith, inl, inr, subst}
use Rattle.std.proofs.lemmas.Bool.{cases_Bool, cases_eq, both_ways, and_parts, and_from, leb-true, le-leb}
use Rattle.std.proofs.lemmas.List.{take_all}
use Rattle.std.proofs.lemmas.Slice.Eq.{bytes_eq-Decides, slice_eq-Decides}
use Rattle.std.specs.Str.{bytes_eq}
use Rattle.std.specs.List.{list_all}
use Rattle.std.specs.Char.{is_ascii_digit}
use Rattle.std.specs.Str.Parse.{digits_value}
use Rattle.std.specs.Cmp.Lexicographic.{pointwise}
use Rattle.cover_problem.specs.Problem.{Problem}
use Rattle.cover_problem.specs.declared.answer.Answer.{Answer}
use Rattle.cover_problem.specs.declared.answer.Answer.TheVariants.{Cover, NoCover}
use Rattle.dlx_reader.specs.Answers.{IsCount, IsNoneHead, IsCoverHead, IsHead, AreOptionsOf, IsFirstUnknown, IsReadOf, head_words, further_lines}
use Rattle.dlx_reader.specs.declared.answer_fault.AnswerFault.{AnswerFault}
use Rattle.dlx_reader.specs.declared.answer_fault.AnswerFault.TheVariants.{BadHead, WrongCount, UnknownOption}
use Rattle.dlx_reader.proofs.AnswerFree.{lowest_or_none}
use Rattle.dlx_reader.proofs.AnswerOptions.{AreOptionsOf-none, AreOptionsOf-more, unknown_at}

-- ---- heads

abbrev is_count : List ℕ → Bool
is_count digits = nat_le 1 (length digits) && nat_le (length digits) 5 && list_all is_ascii_digit digits

count_by_test : (digits : List ℕ) → is_count digits ≡ true → IsCount digits (digits_value 10 digits)
count_by_test digits passes =
    let parts = and_parts (nat_le 1 (length digits) && nat_le (length digits) 5) (list_all is_ascii_digit digits) passes in
    let long = and_parts (nat_le 1 (length digits)) (nat_le (length digits) 5) parts.0 in
    record { some = leb-true 1 (length digits) long.0; few = leb-true (length digits) 5 long.1; decimal = parts.1; value = refl }

test_by_count : (digits : List ℕ) (count : ℕ) → IsCount digits count → is_count digits ≡ true
test_by_count digits count is =
    and_from (nat_le 1 (length digits) && nat_le (length digits) 5) (list_all is_ascii_digit digits)
    (and_from (nat_le 1 (length digits)) (nat_le (length digits) 5) (le-leb 1 (length digits) is.some) (le-leb (length digits) 5 is.few)) is.decimal

count_or_none : (digits : List ℕ) → ((c : ℕ) × IsCount digits c) ⊎ ((c : ℕ) → IsCount digits c → ⊥)
count_or_none digits =
    elim (cases_Bool (is_count digits)) [
      | inl passes ↦ inl (digits_value 10 digits, count_by_test digits passes)
      | inr fails ↦ inr (λ c is. both_ways (is_count digits) fails (test_by_count digits c is))
    ]

two_words : (w d : List ℕ) (count : ℕ) → IsCoverHead (w ∷ d ∷ []) count → (w ≡ codes "cover") × IsCount d count
two_words w d count is =
    let both : w ∷ d ∷ [] ≡ codes "cover" ∷ is.0 ∷ [] = is.1 in
    let first : w ≡ codes "cover" = cc in
    let second : is.0 ≡ d = cc in
    let P : List ℕ → Type 0 = λ digits. IsCount digits count in
    (first, subst P second is.2)

cover_or_none : (words : List (List ℕ)) → ((c : ℕ) × IsCoverHead words c) ⊎ ((c : ℕ) → IsCoverHead words c → ⊥)
cover_or_none [] = inr (λ c is. let clash : [] ≡ codes "cover" ∷ is.0 ∷ [] = is.1 in cc)
cover_or_none (w ∷ []) = inr (λ c is. let clash : w ∷ [] ≡ codes "cover" ∷ is.0 ∷ [] = is.1 in cc)
cover_or_none (w ∷ d ∷ e ∷ ws) = inr (λ c is. let clash : w ∷ d ∷ e ∷ ws ≡ codes "cover" ∷ is.0 ∷ [] = is.1 in cc)
cover_or_none (w ∷ d ∷ []) =
    elim (cases_Bool (bytes_eq w (codes "cover"))) [
      | inl same ↦
          elim (count_or_none d) [
            | inl count ↦ inl (count.0, (d, ap (λ word. word ∷ d ∷ []) ((bytes_eq-Decides w (codes "cover")).0 same), count.1))
            | inr none ↦ inr (λ c is. none c (two_words w d c is).1)
          ]
      | inr other ↦ inr (λ c is. both_ways (bytes_eq w (codes "cover")) other ((bytes_eq-Decides w (codes "cover")).1 (two_words w d c is).0))
    ]

no_head : (words : List (List ℕ)) → (IsNoneHead words → ⊥) → ((c : ℕ) → IsCoverHead words c → ⊥) → (count : ℕ) → IsHead words count → ⊥
no_head words no_none no_cover count (inl none) = no_none none.0
no_head words no_none no_cover count (inr cover) = no_cover count cover

-- words are a head, or no count makes them one
pub head_or_none : (words : List (List ℕ)) → ((c : ℕ) × IsHead words c) ⊎ ((c : ℕ) → IsHead words c → ⊥)
head_or_none words =
    let decides = slice_eq-Decides bytes_eq-Decides words (codes "none" ∷ []) (pointwise bytes_eq words (codes "none" ∷ [])) refl in
    elim (cases_Bool (pointwise bytes_eq words (codes "none" ∷ []))) [
      | inl same ↦ inl (0, inl (decides.0 same, refl))
      | inr other ↦
          elim (cover_or_none words) [
            | inl cover ↦ inl (cover.0, inr cover.1)
            | inr none ↦ inr (no_head words (λ is. both_ways _ other (decides.1 is)) none)
          ]
    ]

-- ---- options

-- the first lines have options, or there is a first unknown line
options_or_unknown : (p : Problem) (lines : List (ℕ × List (List ℕ))) (n : ℕ) → n ≤ length lines → ((os : List ℕ) × AreOptionsOf p (take n lines) os) ⊎ ((number : ℕ) × IsFirstUnknown p lines number)
options_or_unknown p lines zero h = inl ([], AreOptionsOf-none p)
options_or_unknown p lines (suc n) h =
    let inside : n < length lines = omega arith in
    let line = get_or lines n (0, []) in
    elim (options_or_unknown p lines n (omega arith)) [
      | inl found ↦
          elim (lowest_or_none p found.0 line.1) [
            | inl lowest ↦
                let more = found.0 ++ lowest.0 ∷ [] in
                let next : n + 1 ≡ suc n = omega arith in
                let P : ℕ → Type 0 = λ k. AreOptionsOf p (take k lines) more in
                inl (more, subst P next (AreOptionsOf-more p lines n line found.0 more lowest.0 inside refl refl found.1 lowest.1))
            | inr missing ↦ inr (line.0, unknown_at p lines n line found.0 inside refl found.1 missing)
          ]
      | inr unknown ↦ inr unknown
    ]

all_options_or_unknown : (p : Problem) (lines : List (ℕ × List (List ℕ))) → ((os : List ℕ) × AreOptionsOf p lines os) ⊎ ((number : ℕ) × IsFirstUnknown p lines number)
all_options_or_unknown p lines =
    let whole : take (length lines) lines ≡ lines = take_all (length lines) lines (omega arith) in
    elim (options_or_unknown p lines (length lines) (omega arith)) [
      | inl found ↦ let P : List (ℕ × List (List ℕ)) → Type 0 = λ ls. AreOptionsOf p ls found.0 in inl (found.0, subst P whole found.1)
      | inr unknown ↦ inr unknown
    ]

-- ---- whole texts

no_lines : (lines : List (ℕ × List (List ℕ))) → length lines ≡ 0 → lines ≡ []
no_lines [] none = refl
no_lines (line ∷ lines) none = absurd (omega arith)

-- a head that says the number of lines
read_behind : (text : List ℕ) (p : Problem) → IsHead (head_words text) (length (further_lines text)) → (r : Result Answer AnswerFault) × IsReadOf text p r
read_behind text p (inl none) = (Ok NoCover, (none.0, no_lines (further_lines text) none.1))
read_behind text p (inr cover) =
    elim (all_options_or_unknown p (further_lines text)) [
      | inl found ↦ (Ok (Cover found.0), (cover, found.1))
      | inr unknown ↦ (Err (UnknownOption unknown.0), (inr cover, unknown.1))
    ]

-- each text gives an answer or a fault
pub read_given : (text : List ℕ) (p : Problem) → (r : Result Answer AnswerFault) × IsReadOf text p r
read_given text p =
    elim (head_or_none (head_words text)) [
      | inr none ↦ (Err BadHead, none)
      | inl head ↦
          elim (cases_eq (length (further_lines text)) head.0) [
            | inl same ↦ let P : ℕ → Type 0 = λ k. IsHead (head_words text) k in read_behind text p (subst P (sym same) head.1)
            | inr other ↦ (Err WrongCount, (head.0, head.1, other))
          ]
    ]
