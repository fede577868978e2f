-- The lines of options in file order have options: for each line the option itself is free, since those found so far are lower.
use Rattle.std.proofs.Common.{◌≡◌, ℕ, zero, suc, ◌+◌, ◌-◌, ◌<◌, ◌≤◌, List, [], ◌∷◌, ◌++◌, length, take, get_or, map, false, ◌==◌, ◌∙◌, sym, ap, refl, arith, inl, inr, length-append, subst}
use Rattle.std.proofs.lemmas.Bool.{cases_lt, ne_eqb}
use Rattle.std.proofs.lemmas.List.{take_all, get_or_append_left, get_or_push, get_or-map, length-map, ext_get_or}
use Rattle.std.proofs.lemmas.List.FromFn.{length-enumerate_from, get_or-enumerate_from}
use Rattle.std.proofs.lemmas.List.Folds.{list_any_none}
use Rattle.std.proofs.lemmas.List.Kept.{AllPairs-from_increasing}
use Rattle.std.proofs.lemmas.List.Elements.{All-from_get_or}
use Rattle.std.specs.List.{enumerate_from}
use Rattle.std.specs.List.Sorted.{IsStrictlyIncreasing}
use Rattle.cover_problem.specs.Problem.{Problem, IsProblem}
use Rattle.cover_problem.specs.Numbers.{is_in}
use Rattle.cover_problem.specs.Prefix.{InFileOrder}
use Rattle.dlx_reader.specs.Writing.{occurrences_of, option_words}
use Rattle.dlx_reader.specs.Answers.{AreOptionsOf}
use Rattle.dlx_reader.proofs.AnswerOptions.{AreOptionsOf-none, AreOptionsOf-more}
use Rattle.dlx_reader.proofs.AnswerFree.{lowest_of}
use Rattle.dlx_reader.proofs.KeyNames.{same_occurrences}

-- ---- the options of the lines

-- the lines of options, each with its words
abbrev pub lines_named : Problem → List ℕ → List (ℕ × List (List ℕ))
lines_named p os = enumerate_from 2 (map (option_words p) os)

length-lines_named : (p : Problem) (os : List ℕ) → length (lines_named p os) ≡ length os
length-lines_named p os = length-enumerate_from 2 (map (option_words p) os) ∙ length-map os (option_words p)

line_named : (p : Problem) (os : List ℕ) (i : ℕ) → i < length os → get_or (lines_named p os) i (0, []) ≡ (2 + i, option_words p (get_or os i 0))
line_named p os i inside =
    let mapped : i < length (map (option_words p) os) = omega (arith, length-map os (option_words p)) in
    get_or-enumerate_from 2 (map (option_words p) os) i (0, []) mapped ∙ ap (λ names. (2 + i, names)) (get_or-map (option_words p) os i 0 [] inside)

-- an option that stands for another: it is no higher, and has the same items and colours
record StandsFor (p : Problem) (found option : ℕ) : Type 0 where
  lower : found ≤ option
  same : occurrences_of p found ≡ occurrences_of p option

-- the options that were found for the first lines
record Matched (p : Problem) (os : List ℕ) (n : ℕ) : Type 0 where
  found : List ℕ
  options : AreOptionsOf p (take n (lines_named p os)) found
  long : length found ≡ n
  each : (k : ℕ) → k < n → StandsFor p (get_or found k 0) (get_or os k 0)

-- those found so far are below the next option
next_is_unused : (p : Problem) (os : List ℕ) (n : ℕ) → IsStrictlyIncreasing os → n < length os → (m : Matched p os n) → is_in m.found (get_or os n 0) ≡ false
next_is_unused p os n ordered inside m =
    list_any_none (λ y. y == get_or os n 0) m.found
    (All-from_get_or (λ y. (y == get_or os n 0) ≡ false) m.found 0
    (λ i within.
    let before : i < n = omega (arith, m.long) in
    let below : get_or os i 0 < get_or os n 0 = AllPairs-from_increasing os ordered i n 0 before inside in
    ne_eqb (get_or m.found i 0) (get_or os n 0) (λ same. omega (arith, (m.each i before).lower))))

matched_more : (p : Problem) (os : List ℕ) (n : ℕ) → IsProblem p → InFileOrder p os → n < length os → Matched p os n → Matched p os (n + 1)
matched_more p os n is ordered inside m =
    let option = get_or os n 0 in
    let in_range : get_or os n 0 < length p.options = ordered.0 n 0 inside in
    let lowest = lowest_of p m.found (option_words p option) option (record { in_range = in_range; unused = next_is_unused p os n ordered.1 inside m; named = refl }) in
    let stands : StandsFor p lowest.0 option = record { lower = lowest.1; same = same_occurrences p lowest.0 option is lowest.2.free.in_range in_range lowest.2.free.named } in
    let line : n < length (lines_named p os) = omega (arith, length-lines_named p os) in
    let more = m.found ++ lowest.0 ∷ [] in
    record {
      found = more;
      options = AreOptionsOf-more p (lines_named p os) n (2 + n, option_words p option) m.found more lowest.0 line (line_named p os n inside) refl m.options lowest.2;
      long = omega (arith, m.long, length-append m.found (lowest.0 ∷ []));
      each = λ k h.
          elim (cases_lt k n) [
            | inl before ↦
                let P : ℕ → Type 0 = λ y. StandsFor p y (get_or os k 0) in
                let within : k < length m.found = omega (arith, m.long) in
                subst P (sym (get_or_append_left m.found (lowest.0 ∷ []) 0 k within)) (m.each k before)
            | inr after ↦
                let here : n ≡ k = omega arith in
                let P : ℕ → Type 0 = λ y. StandsFor p y option in
                let Q : ℕ → Type 0 = λ j. StandsFor p (get_or more j 0) (get_or os j 0) in
                subst Q here (subst P (sym (get_or_push m.found lowest.0 0 n m.long)) stands)
          ];
    }

matched : (p : Problem) (os : List ℕ) → IsProblem p → InFileOrder p os → (n : ℕ) → n ≤ length os → Matched p os n
matched p os is ordered zero h = record { found = []; options = AreOptionsOf-none p; long = refl; each = λ k below. absurd (omega arith) }
matched p os is ordered (suc n) h =
    let next : n + 1 ≡ suc n = omega arith in
    let P : ℕ → Type 0 = λ j. Matched p os j in
    subst P next (matched_more p os n is ordered (omega arith) (matched p os is ordered n (omega arith)))

-- the lines of options in file order have options with the same items and colours
pub lines_have_options : (p : Problem) (os : List ℕ) → IsProblem p → InFileOrder p os → (found : List ℕ) × AreOptionsOf p (lines_named p os) found × (map (occurrences_of p) found ≡ map (occurrences_of p) os)
lines_have_options p os is ordered =
    let m = matched p os is ordered (length os) (omega arith) in
    let whole : take (length os) (lines_named p os) ≡ lines_named p os = take_all (length os) (lines_named p os) (omega (arith, length-lines_named p os)) in
    let P : List (ℕ × List (List ℕ)) → Type 0 = λ lines. AreOptionsOf p lines m.found in
    let long : length (map (occurrences_of p) m.found) ≡ length (map (occurrences_of p) os) = length-map m.found (occurrences_of p) ∙ m.long ∙ sym (length-map os (occurrences_of p)) in (
      m.found,
      subst P whole m.options,
      ext_get_or [] (map (occurrences_of p) m.found) (map (occurrences_of p) os) long
          (λ i inside.
          let in_os : i < length os = omega (arith, long, length-map os (occurrences_of p)) in
          let in_found : i < length m.found = omega (arith, m.long) in
          get_or-map (occurrences_of p) m.found i 0 [] in_found ∙ (m.each i in_os).same ∙ sym (get_or-map (occurrences_of p) os i 0 [] in_os)),
    )

-- ---- how many options stand in file order

place_le : (os : List ℕ) → IsStrictlyIncreasing os → (k : ℕ) → k < length os → k ≤ get_or os k 0
place_le os ordered zero h = omega arith
place_le os ordered (suc k) h =
    let before : k < length os = omega arith in
    let next : k + 1 ≡ suc k = omega arith in
    let inside : k + 1 < length os = omega arith in
    let step : get_or os k 0 < get_or os (suc k) 0 = let P : ℕ → Type 0 = λ j. get_or os k 0 < get_or os j 0 in subst P next (ordered k inside) in
    omega (arith, place_le os ordered k before)

pub file_order_short : (p : Problem) (os : List ℕ) → InFileOrder p os → length os ≤ length p.options
file_order_short p os ordered =
    elim (cases_lt 0 (length os)) [
      | inl some ↦
          let last : length os - 1 < length os = omega arith in
          omega (arith, place_le os ordered.1 (length os - 1) last, ordered.0 (length os - 1) 0 last)
      | inr none ↦ omega arith
    ]
