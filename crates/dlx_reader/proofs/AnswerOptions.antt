-- The options of lines: how a reader comes to them, and that there is one list of them.
use Rattle.std.proofs.Common.{◌≡◌, ℕ, ◌+◌, ◌<◌, ◌≤◌, List, [], ◌∷◌, ◌++◌, length, take, drop, get_or, zero, suc, inl, inr, take-append-drop, length-take, ◌∙◌, sym, ap, subst, arith, refl, length-append}
use Rattle.std.proofs.lemmas.List.{get_or_append_left, get_or_push, get_or-take, get_or_at, take_all, take-take, take_at, take-append-le, take_more_same, take_more, drop_more}
use Rattle.std.proofs.lemmas.Bool.{cases_lt}
use Rattle.cover_problem.specs.Problem.{Problem}
use Rattle.dlx_reader.specs.Answers.{IsFree, IsLowestFree, AreOptionsOf, IsFirstUnknown}

-- ---- lists of options

pub AreOptionsOf-none : (p : Problem) → AreOptionsOf p [] []
AreOptionsOf-none p = record { count = refl; each = λ k h. absurd (omega arith) }

-- the same fact of equal lists, words and options
pub lowest_moved : (p : Problem) (used used' : List ℕ) (words words' : List (List ℕ)) (o o' : ℕ) → IsLowestFree p used words o → used' ≡ used → words' ≡ words → o' ≡ o → IsLowestFree p used' words' o'
lowest_moved p used used' words words' o o' h same_used same_words same =
    let P : List ℕ → Type 0 = λ us. IsLowestFree p us words o in
    let Q : List (List ℕ) → Type 0 = λ ws. IsLowestFree p used' ws o in
    let R : ℕ → Type 0 = λ k. IsLowestFree p used' words' k in
    subst R (sym same) (subst Q (sym same_words) (subst P (sym same_used) h))

abbrev nothing : ℕ × List (List ℕ)
nothing = (0, [])

abbrev words_at : List (ℕ × List (List ℕ)) → ℕ → List (List ℕ)
words_at lines k = (get_or lines k nothing).1

words_same : (a b : ℕ × List (List ℕ)) → a ≡ b → a.1 ≡ b.1
words_same a b e = ap (λ (line : ℕ × List (List ℕ)). line.1) e

-- one more line
pub AreOptionsOf-push : (p : Problem) (lines : List (ℕ × List (List ℕ))) (options : List ℕ) (line : ℕ × List (List ℕ)) (o : ℕ) → AreOptionsOf p lines options → IsLowestFree p options line.1 o → AreOptionsOf p (lines ++ line ∷ []) (options ++ o ∷ [])
AreOptionsOf-push p lines options line o are free = record {
  count = omega (arith, are.count, length-append lines (line ∷ []), length-append options (o ∷ []));
  each = λ k h. elim (cases_lt k (length lines)) [
    | inl before ↦
        let fits : k < length options = omega (arith, are.count) in
        let part : k ≤ length options = omega arith in
        lowest_moved p (take k options) _ (words_at lines k) _ (get_or options k 0) _ (are.each k before)
        (take-append-le k options (o ∷ []) part) (words_same _ _ (get_or_append_left lines (line ∷ []) nothing k before)) (get_or_append_left options (o ∷ []) 0 k fits)
    | inr after ↦
        let last : length lines ≡ k = omega (arith, h, length-append lines (line ∷ [])) in
        let end : length options ≡ k = omega (arith, are.count) in
        lowest_moved p options _ line.1 _ o _ free (take_at options (o ∷ []) k end) (words_same _ _ (get_or_push lines line nothing k last)) (get_or_push options o 0 k end)
  ];
}

-- the line at a place
pub AreOptionsOf-more : (p : Problem) (lines : List (ℕ × List (List ℕ))) (i : ℕ) (line : ℕ × List (List ℕ)) (options more : List ℕ) (o : ℕ) → i < length lines → get_or lines i nothing ≡ line → more ≡ options ++ o ∷ []
    → AreOptionsOf p (take i lines) options → IsLowestFree p options line.1 o → AreOptionsOf p (take (i + 1) lines) more
AreOptionsOf-more p lines i line options more o inside here is are free =
    let front : take (i + 1) lines ≡ take i lines ++ line ∷ [] = take_more lines i nothing inside ∙ ap (λ l. take i lines ++ l ∷ []) here in
    rw (front, is) (AreOptionsOf-push p (take i lines) options line o are free)

-- the lines before a place
pub AreOptionsOf-take : (p : Problem) (lines : List (ℕ × List (List ℕ))) (options : List ℕ) (n : ℕ) → AreOptionsOf p lines options → AreOptionsOf p (take n lines) (take n options)
AreOptionsOf-take p lines options n are = record {
  count = omega (arith, are.count, length-take n lines, length-take n options);
  each = λ k h.
      let below : k < n = omega (arith, h, length-take n lines) in
      let inside : k < length lines = omega (arith, h, length-take n lines) in
      let part : k ≤ n = omega arith in
      lowest_moved p (take k options) _ (words_at lines k) _ (get_or options k 0) _ (are.each k inside)
      (take-take k n options part) (words_same _ _ (get_or-take n lines k nothing below)) (get_or-take n options k 0 below);
}

-- two options that are the lowest free ones of the same words
pub lowest_same : (p : Problem) (used : List ℕ) (words : List (List ℕ)) (o k : ℕ) → IsLowestFree p used words o → IsLowestFree p used words k → o ≡ k
lowest_same p used words o k a b = omega (arith, a.lowest k b.free, b.lowest o a.free)

front_same : (p : Problem) (lines : List (ℕ × List (List ℕ))) (a b : List ℕ) → AreOptionsOf p lines a → AreOptionsOf p lines b → (n : ℕ) → n ≤ length lines → take n a ≡ take n b
front_same p lines a b are bre zero h = refl
front_same p lines a b are bre (suc n) h =
    let inside : n < length lines = omega arith in
    let part : n ≤ length lines = omega arith in
    let in_a : n < length a = omega (arith, are.count) in
    let in_b : n < length b = omega (arith, bre.count) in
    let front = front_same p lines a b are bre n part in
    let same = lowest_same p (take n a) (words_at lines n) (get_or a n 0) (get_or b n 0) (are.each n inside)
    (lowest_moved p (take n b) (take n a) (words_at lines n) (words_at lines n) (get_or b n 0) (get_or b n 0) (bre.each n inside) front refl refl) in
    let next : suc n ≡ n + 1 = omega arith in
    rw next (take_more_same a b n 0 in_a in_b front same)

-- lines have one list of options
pub AreOptionsOf-same : (p : Problem) (lines : List (ℕ × List (List ℕ))) (a b : List ℕ) → AreOptionsOf p lines a → AreOptionsOf p lines b → a ≡ b
AreOptionsOf-same p lines a b are bre =
    let all_a : length a ≤ length lines = omega (arith, are.count) in
    let all_b : length b ≤ length lines = omega (arith, bre.count) in
    let whole : length lines ≤ length lines = omega arith in
    sym (take_all (length lines) a all_a) ∙ front_same p lines a b are bre (length lines) whole ∙ take_all (length lines) b all_b

-- ---- the first line without an option

-- lines that have options have a free one at each place
pub known_at : (p : Problem) (lines : List (ℕ × List (List ℕ))) (options used : List ℕ) (k : ℕ) → AreOptionsOf p lines options → k < length lines → AreOptionsOf p (take k lines) used → IsFree p used (words_at lines k) (get_or options k 0)
known_at p lines options used k are inside before =
    let same = AreOptionsOf-same p (take k lines) used (take k options) before (AreOptionsOf-take p lines options k are) in
    (lowest_moved p (take k options) used (words_at lines k) (words_at lines k) (get_or options k 0) (get_or options k 0) (are.each k inside) same refl refl).free

-- where a list of lines begins as another up to its first unknown line, it has no options
pub unknown_before : (p : Problem) (lines more : List (ℕ × List (List ℕ))) (n : ℕ) (u : IsFirstUnknown p more n) (options : List ℕ) → AreOptionsOf p lines options → length u.before < length lines
    → take (length u.before) lines ≡ u.before → get_or lines (length u.before) nothing ≡ (n, u.words) → ⊥
unknown_before p lines more n u options are inside front here =
    let P : List (ℕ × List (List ℕ)) → Type 0 = λ ls. AreOptionsOf p ls u.used in
    let free = known_at p lines options u.used (length u.before) are inside (subst P (sym front) u.options) in
    let Q : List (List ℕ) → Type 0 = λ ws. IsFree p u.used ws (get_or options (length u.before) 0) in
    u.missing (get_or options (length u.before) 0) (subst Q (words_same _ _ here) free)

-- lines with a first unknown one have no options
pub unknown_has_none : (p : Problem) (lines : List (ℕ × List (List ℕ))) (n : ℕ) (options : List ℕ) → IsFirstUnknown p lines n → AreOptionsOf p lines options → ⊥
unknown_has_none p lines n options u are =
    let k = length u.before in
    let inside : length u.before < length lines = omega (arith, ap length u.place, length-append u.before ((n, u.words) ∷ u.after)) in
    unknown_before p lines lines n u options are inside
    (ap (take (length u.before)) u.place ∙ take_at u.before ((n, u.words) ∷ u.after) (length u.before) refl)
    (ap (λ ls. get_or ls (length u.before) nothing) u.place ∙ get_or_at u.before (n, u.words) u.after nothing (length u.before) refl)

-- of two first unknown lines none is before the other
unknown_order : (p : Problem) (lines : List (ℕ × List (List ℕ))) (n m : ℕ) (u : IsFirstUnknown p lines n) (v : IsFirstUnknown p lines m) → length u.before < length v.before → ⊥
unknown_order p lines n m u v less =
    let part : length u.before ≤ length v.before = omega arith in
    let parts : v.before ++ (m, v.words) ∷ v.after ≡ u.before ++ (n, u.words) ∷ u.after = sym v.place ∙ u.place in
    unknown_before p v.before lines n u v.used v.options less
    (sym (take-append-le (length u.before) v.before ((m, v.words) ∷ v.after) part) ∙ ap (take (length u.before)) parts ∙ take_at u.before ((n, u.words) ∷ u.after) (length u.before) refl)
    (sym (get_or_append_left v.before ((m, v.words) ∷ v.after) nothing (length u.before) less) ∙ ap (λ ls. get_or ls (length u.before) nothing) parts ∙ get_or_at u.before (n, u.words) u.after nothing (length u.before) refl)

-- lines have one first unknown line
pub unknown_same : (p : Problem) (lines : List (ℕ × List (List ℕ))) (n m : ℕ) → IsFirstUnknown p lines n → IsFirstUnknown p lines m → n ≡ m
unknown_same p lines n m u v =
    elim (cases_lt (length u.before) (length v.before)) [
      | inl less ↦ absurd (unknown_order p lines n m u v less)
      | inr rest ↦
          elim (cases_lt (length v.before) (length u.before)) [
            | inl more ↦ absurd (unknown_order p lines m n v u more)
            | inr same ↦
                let long : length v.before ≡ length u.before = omega arith in
                let at_u = get_or_at u.before (n, u.words) u.after nothing (length u.before) refl in
                let at_v = get_or_at v.before (m, v.words) v.after nothing (length u.before) long in
                ap (λ (line : ℕ × List (List ℕ)). line.0) (sym at_u ∙ ap (λ ls. get_or ls (length u.before) nothing) (sym u.place ∙ v.place) ∙ at_v)
          ]
    ]

-- a line for which no option is free, after lines that have options
pub unknown_at : (p : Problem) (lines : List (ℕ × List (List ℕ))) (i : ℕ) (line : ℕ × List (List ℕ)) (used : List ℕ) → i < length lines → get_or lines i nothing ≡ line → AreOptionsOf p (take i lines) used
    → ((o : ℕ) → IsFree p used line.1 o → ⊥) → IsFirstUnknown p lines line.0
unknown_at p lines i line used inside here are missing = record {
  words = line.1;
  before = take i lines;
  after = drop (i + 1) lines;
  place = sym (take-append-drop i lines) ∙ ap (λ rest. take i lines ++ rest) (drop_more lines i nothing inside ∙ ap (λ l. l ∷ drop (i + 1) lines) here);
  used = used;
  options = are;
  missing = missing;
}
