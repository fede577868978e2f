-- Serials, and the marks of them.
use Rattle.std.proofs.Common.{◌++◌, ◌∷◌, [], zero, suc, ◌≡◌, nat_cmp, eqb, ◌-◌, ℕ, ◌+◌, ◌<◌, ◌≤◌, Bool, true, false, List, length, get_or, slice_get, Some, sym, ap, subst, ◌∙◌, ◌==◌, arith, ⊎_elim}
use Rattle.std.specs.List.{Contains, dedup, list_any, range_with_len}
use Rattle.std.specs.List.Sorted.{IsPermutation, IsSorted}
use Rattle.std.proofs.lemmas.Bool.{eqb-true, eq-eqb, false_from_ne_true, true≢false, cases_lt}
use Rattle.std.proofs.lemmas.List.{get_or_default, get_or_past}
use Rattle.std.proofs.lemmas.List.Elements.{Contains-get_or}
use Rattle.std.proofs.lemmas.List.Folds.{Any-from_list_any, list_any_at}
use Rattle.std.proofs.lemmas.List.FromFn.{get_or-map-range_with_len, get_or-range_with_len, length-map-range_with_len, length-range_with_len}
use Rattle.std.proofs.lemmas.List.Kept.{AllPairs-from_increasing, Contains-dedup_nat, Contains-from_dedup}
use Rattle.std.proofs.lemmas.List.Sorted.{Contains-permutation, IsPermutation-sym}
use Rattle.std.proofs.lemmas.Map.Keys.{IsStrictlyIncreasing-dedup}
use Rattle.std.proofs.lemmas.Option.{same_Some, slice_get-get_or, slice_get_within}
use Rattle.spawn_frame.specs.Aborts.{IsBelow, child, deeper}
use Rattle.spawn_frame.specs.Units.{Entry}
use Rattle.spawn_frame.specs.declared.unit.Unit.{Unit as WorkUnit}
use Rattle.abort_tree.specs.Below.{AreBelow, AreSerials, MarksBelow, marks_of}

-- ---- one of the serials, as a test and as an element

pub is_one : (serials : List ℕ) (k : ℕ) → Contains serials k → list_any (λ s. s == k) serials ≡ true
is_one serials k h = list_any_at (λ s. s == k) serials h.0 k h.1 (eq-eqb (get_or serials h.0 k) k h.2)

pub has_one : (serials : List ℕ) (k : ℕ) → list_any (λ s. s == k) serials ≡ true → Contains serials k
has_one serials k h =
    let found = Any-from_list_any (λ s. s == k) serials h in
    let same : found.1 ≡ k = eqb-true found.1 k found.4 in
    (found.0, found.2, subst (λ x. get_or serials found.0 x ≡ x) same found.3)

-- numbers that follow one another
pub in_range : (a n k : ℕ) → a ≤ k → k < a + n → Contains (range_with_len a n) k
in_range a n k l r =
    let lt : k - a < n = omega (arith, l, r) in
    (k - a, omega (arith, lt, length-range_with_len a n), get_or-range_with_len a n (k - a) k lt ∙ omega (arith, l))

pub of_range : (a n k : ℕ) → Contains (range_with_len a n) k → (a ≤ k) × (k < a + n)
of_range a n k h =
    let lt : h.0 < n = omega (arith, h.1, length-range_with_len a n) in
    let is : a + h.0 ≡ k = sym (get_or-range_with_len a n h.0 k lt) ∙ h.2 in
    (omega (arith, is), omega (arith, is, lt))

range_more : (a n : ℕ) → range_with_len a (suc n) ≡ range_with_len a n ++ (a + n) ∷ []
range_more a zero = let same : a ≡ a + 0 = omega arith in ap (λ k. k ∷ []) same
range_more a (suc n) = let same : a + 1 + n ≡ a + suc n = omega arith in ap (λ l. a ∷ l) (range_more (a + 1) n ∙ ap (λ k. range_with_len (a + 1) n ++ k ∷ []) same)

pub range_next : (a k : ℕ) → a ≤ k → range_with_len a (k + 1 - a) ≡ range_with_len a (k - a) ++ k ∷ []
range_next a k le =
    let count : k + 1 - a ≡ suc (k - a) = omega (arith, le) in
    let last : a + (k - a) ≡ k = omega (arith, le) in
    ap (range_with_len a) count ∙ range_more a (k - a) ∙ ap (λ n. range_with_len a (k - a) ++ n ∷ []) last

-- ---- marks

pub marks_length : (count : ℕ) (serials : List ℕ) → length (marks_of count serials) ≡ count
marks_length count serials = length-map-range_with_len (λ k. list_any (λ s. s == k) serials) 0 count

pub mark_is : (count : ℕ) (serials : List ℕ) (k : ℕ) → k < count → slice_get (marks_of count serials) k ≡ Some (list_any (λ s. s == k) serials)
mark_is count serials k lt =
    slice_get-get_or (marks_of count serials) k false (omega (arith, lt, marks_length count serials))
    ∙ ap Some (get_or-map-range_with_len (λ j. list_any (λ s. s == j) serials) 0 count k k false lt (omega arith))

pub below_within : (top : WorkUnit → Bool) (own : List Entry) (k : ℕ) → IsBelow top own k → k < length own
below_within top own k (child {entry = c} at is t) = slice_get_within own k c at
below_within top own k (deeper {entry = c} at is below) = slice_get_within own k c at

pub marks_below : (top : WorkUnit → Bool) (own : List Entry) (serials : List ℕ) → AreBelow top own serials → MarksBelow top own (marks_of (length own) serials)
marks_below top own serials are = record {
  one_each = marks_length (length own) serials;
  marked = λ k mark.
      let lt : k < length own = omega (arith, slice_get_within (marks_of (length own) serials) k true mark, marks_length (length own) serials) in
      are.only k (has_one serials k (same_Some (list_any (λ s. s == k) serials) true (sym (mark_is (length own) serials k lt) ∙ mark)));
  unmarked = λ k mark below.
      let lt = below_within top own k below in
      let none = same_Some (list_any (λ s. s == k) serials) false (sym (mark_is (length own) serials k lt) ∙ mark) in
      true≢false (sym (is_one serials k (are.all k below)) ∙ none);
}

-- ---- serials in order

module _ (top : WorkUnit → Bool) (own : List Entry) (found sorted : List ℕ) (moved : IsPermutation found sorted) (are : AreBelow top own found) where
  pub below_once : AreBelow top own (dedup eqb sorted)
  below_once = record {
    all = λ k below. Contains-dedup_nat sorted k (Contains-permutation found sorted k moved (are.all k below));
    only = λ k here. are.only k (Contains-permutation sorted found k (IsPermutation-sym found sorted moved) (Contains-from_dedup eqb sorted k here));
  }

  pub serials_once : IsSorted nat_cmp sorted → AreSerials (length own) (dedup eqb sorted)
  serials_once up = record {
    ascending = IsStrictlyIncreasing-dedup sorted up;
    within = λ k here. below_within top own k (below_once.only k here);
  }

-- Serials of which these are the marks.
pub record HasMarks (marks : List Bool) (serials : List ℕ) : Type 0 where
  pub serials_are : AreSerials (length marks) serials
  pub marks_are : marks_of (length marks) serials ≡ marks

pub has_marks : (count : ℕ) (kept serials : List ℕ) (marks : List Bool) → AreSerials count kept → marks_of count kept ≡ marks → serials ≡ kept → HasMarks marks serials
has_marks count kept serials marks are view same =
    let counted : count ≡ length marks = sym (marks_length count kept) ∙ ap length view in
    record {
      serials_are = subst (AreSerials (length marks)) (sym same) (subst (λ n. AreSerials n kept) counted are);
      marks_are = (λ i. marks_of (sym counted i) (same i)) ∙ view;
    }

-- the serial at a place, or where all end
abbrev pub next_serial : ℕ → List ℕ → ℕ → ℕ
next_serial count serials i = get_or serials i count

module _ (count : ℕ) (serials : List ℕ) (are : AreSerials count serials) where
  pub next_within : (i : ℕ) → next_serial count serials i ≤ count
  next_within i = ⊎_elim
      (λ (l : i < length serials). let lt = are.within (get_or serials i count) (Contains-get_or serials i count l) in omega (arith, lt))
      (λ (l : length serials ≤ i). omega (arith, get_or_past serials i count l))
      (cases_lt i (length serials))

  pub serial_within : (i : ℕ) → i < length serials → get_or serials i 0 < count
  serial_within i l = are.within (get_or serials i 0) (Contains-get_or serials i 0 l)

  -- each serial before the place is lower than those at it and behind
  pub lower : (i j : ℕ) → i < j → j < length serials → get_or serials i 0 < get_or serials j 0
  lower i j l r = AllPairs-from_increasing serials are.ascending i j 0 l r

  -- between two that follow one another there is none
  pub none_between : (i k : ℕ) → ((j : ℕ) → j < i → j < length serials → get_or serials j 0 < k) → k < next_serial count serials i → slice_get (marks_of count serials) k ≡ Some false
  none_between i k before behind =
      let lt : k < count = omega (arith, behind, next_within i) in
      mark_is count serials k lt ∙ ap Some (false_from_ne_true (list_any (λ s. s == k) serials) (λ one.
      let here = has_one serials k one in
      let is : get_or serials here.0 0 ≡ k = get_or_default serials here.0 0 k here.1 ∙ here.2 in
      ⊎_elim
      (λ (l : here.0 < i). omega (arith, before here.0 l here.1, is))
      (λ (l : i ≤ here.0).
      let within : i < length serials = omega (arith, l, here.1) in
      let at : get_or serials i count ≡ get_or serials i 0 = get_or_default serials i count 0 within in
      ⊎_elim
      (λ (m : i < here.0). omega (arith, lower i here.0 m here.1, is, at, behind))
      (λ (m : here.0 ≤ i). let same : here.0 ≡ i = omega (arith, l, m) in omega (arith, ap (λ j. get_or serials j 0) same, is, at, behind))
      (cases_lt i here.0))
      (cases_lt here.0 i)))

  pub none_first : (k : ℕ) → k < next_serial count serials 0 → slice_get (marks_of count serials) k ≡ Some false
  none_first k behind = none_between 0 k (λ j l r. absurd (omega (arith, l))) behind

  pub none_next : (i k : ℕ) → i < length serials → get_or serials i 0 < k → k < next_serial count serials (i + 1) → slice_get (marks_of count serials) k ≡ Some false
  none_next i k within past behind = none_between (i + 1) k (λ j l r. earlier j l r) behind
    where
      earlier : (j : ℕ) → j < i + 1 → j < length serials → get_or serials j 0 < k
      earlier j l r = ⊎_elim
          (λ (m : j < i). omega (arith, lower j i m within, past))
          (λ (m : i ≤ j). let same : j ≡ i = omega (arith, l, m) in omega (arith, ap (λ n. get_or serials n 0) same, past))
          (cases_lt j i)

  pub is_marked : (i : ℕ) → i < length serials → slice_get (marks_of count serials) (get_or serials i 0) ≡ Some true
  is_marked i l = mark_is count serials (get_or serials i 0) (serial_within i l) ∙ ap Some (is_one serials (get_or serials i 0) (Contains-get_or serials i 0 l))
