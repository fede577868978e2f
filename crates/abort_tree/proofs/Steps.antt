-- The steps of a pass through the serials of some own children.
use Rattle.std.proofs.Common.{◌≡◌, ℕ, suc, ◌+◌, ◌<◌, ◌≤◌, Bool, true, false, List, [], ◌++◌, length, drop, get_or, slice_get, Some, sym, ap, ◌∙◌, ⊎_elim, arith}
use Rattle.std.proofs.lemmas.Bool.{cases_lt}
use Rattle.std.proofs.lemmas.List.{get_or_default, get_or_past}
use Rattle.spawn_frame.specs.Units.{Entry, change_at}
use Rattle.abort_tree.specs.Below.{abort_if, aborted, out_of, outs_from}
use Rattle.abort_tree.proofs.Aborting.{far_all, far_next, far_step, outs_end, outs_step, so_far}
use Rattle.abort_tree.proofs.Gaps.{far_gap, outs_gap}
use Rattle.abort_tree.proofs.Lists.{HasMarks, is_marked, lower, next_serial, none_first, none_next, serial_within}

module _ (marks : List Bool) (serials : List ℕ) (has : HasMarks marks serials) (own : List Entry) (even : length marks ≡ length own) where
  abbrev next : ℕ → ℕ
  next i = next_serial (length marks) serials i

  next_is : (i : ℕ) → i < length serials → next i ≡ get_or serials i 0
  next_is i l = get_or_default serials i (length marks) 0 l

  next_end : (i : ℕ) → length serials ≤ i → next i ≡ length own
  next_end i l = get_or_past serials i (length marks) l ∙ even

  next_later : (i : ℕ) → i < length serials → get_or serials i 0 < next (i + 1)
  next_later i l = ⊎_elim
      (λ (m : i + 1 < length serials). omega (arith, next_is (i + 1) m, lower (length marks) serials has.serials_are i (i + 1) (omega arith) m))
      (λ (m : length serials ≤ i + 1). omega (arith, next_end (i + 1) m, even, serial_within (length marks) serials has.serials_are i l))
      (cases_lt (i + 1) (length serials))

  unmarked_first : (k : ℕ) → 0 ≤ k → k < next 0 → slice_get marks k ≡ Some false
  unmarked_first k l r = ap (λ ms. slice_get ms k) (sym has.marks_are) ∙ none_first (length marks) serials has.serials_are k r

  unmarked_next : (i : ℕ) → i < length serials → (k : ℕ) → suc (get_or serials i 0) ≤ k → k < next (i + 1) → slice_get marks k ≡ Some false
  unmarked_next i within k l r = ap (λ ms. slice_get ms k) (sym has.marks_are) ∙ none_next (length marks) serials has.serials_are i k within (omega (arith, l)) r

  marked : (i : ℕ) → i < length serials → slice_get marks (get_or serials i 0) ≡ Some true
  marked i l = ap (λ ms. slice_get ms (get_or serials i 0)) (sym has.marks_are) ∙ is_marked (length marks) serials has.serials_are i l

  -- ---- what is aborted so far

  pub far_first : own ≡ so_far (next 0) marks own
  far_first = far_gap marks own 0 (next 0) (omega arith) unmarked_first

  pub far_later : (i : ℕ) → i < length serials → change_at (abort_if true) (so_far (next i) marks own) (get_or serials i 0) ≡ so_far (next (i + 1)) marks own
  far_later i l =
      let k = get_or serials i 0 in
      ap (λ n. change_at (abort_if true) (so_far n marks own) k) (next_is i l)
      ∙ far_step k marks own true (marked i l)
      ∙ far_gap marks own (suc k) (next (i + 1)) (omega (arith, next_later i l)) (unmarked_next i l)

  pub far_last : (i : ℕ) → length serials ≤ i → so_far (next i) marks own ≡ aborted marks own
  far_last i l = ap (λ n. so_far n marks own) (next_end i l) ∙ far_all marks own even

  -- the one at the place is as it was
  pub far_there : (i : ℕ) → i < length serials → slice_get (so_far (next i) marks own) (get_or serials i 0) ≡ slice_get own (get_or serials i 0)
  far_there i l = ap (λ n. slice_get (so_far n marks own) (get_or serials i 0)) (next_is i l) ∙ far_next (get_or serials i 0) marks own

  -- ---- what is still to be reached

  pub outs_first : outs_from (next 0) (drop (next 0) marks) (drop (next 0) own) ≡ outs_from 0 marks own
  outs_first = sym (outs_gap marks own even 0 (next 0) (omega arith) unmarked_first)

  pub outs_later : (i : ℕ) → i < length serials
      → outs_from (next i) (drop (next i) marks) (drop (next i) own) ≡ out_of true (get_or serials i 0) (slice_get own (get_or serials i 0)) ++ outs_from (next (i + 1)) (drop (next (i + 1)) marks) (drop (next (i + 1)) own)
  outs_later i l =
      let k = get_or serials i 0 in
      ap (λ n. outs_from n (drop n marks) (drop n own)) (next_is i l)
      ∙ outs_step k k marks own true even (marked i l)
      ∙ ap (λ outs. out_of true k (slice_get own k) ++ outs) (outs_gap marks own even (suc k) (next (i + 1)) (omega (arith, next_later i l)) (unmarked_next i l))

  pub outs_last : (i : ℕ) → length serials ≤ i → outs_from (next i) (drop (next i) marks) (drop (next i) own) ≡ []
  outs_last i l = outs_end (next i) marks own (next i) even (next_end i l)
