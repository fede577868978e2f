-- Where no child is marked, none is aborted and none reached.
use Rattle.std.proofs.Common.{◌≡◌, ◌-◌, ℕ, zero, suc, ◌+◌, ◌<◌, ◌≤◌, Bool, false, List, [], ◌∷◌, ◌++◌, length, drop, Option, Some, None, slice_get, refl, sym, ap, ◌∙◌, arith}
use Rattle.spawn_frame.specs.Units.{Entry, change_at}
use Rattle.abort_tree.specs.Below.{abort_if, out_of, outs_from}
use Rattle.abort_tree.proofs.Aborting.{far_step, outs_step, so_far}

changes_none : (own : List Entry) (k : ℕ) → change_at (abort_if false) own k ≡ own
changes_none [] k = refl
changes_none (c ∷ cs) zero = refl
changes_none (c ∷ cs) (suc k) = ap (λ own. c ∷ own) (changes_none cs k)

reaches_none : (serial : ℕ) (o : Option Entry) → out_of false serial o ≡ []
reaches_none serial None = refl
reaches_none serial (Some c) = refl

module _ (marks : List Bool) (own : List Entry) where
  far_count : (n s : ℕ) → ((k : ℕ) → s ≤ k → k < s + n → slice_get marks k ≡ Some false) → so_far s marks own ≡ so_far (s + n) marks own
  far_count zero s none = let same : s ≡ s + 0 = omega arith in ap (λ k. so_far k marks own) same
  far_count (suc n) s none =
      let same : suc s + n ≡ s + suc n = omega arith in
      sym (changes_none (so_far s marks own) s) ∙ far_step s marks own false (none s (omega arith) (omega arith))
      ∙ far_count n (suc s) (λ k l r. none k (omega (arith, l)) (omega (arith, r)))
      ∙ ap (λ k. so_far k marks own) same

  pub far_gap : (s t : ℕ) → s ≤ t → ((k : ℕ) → s ≤ k → k < t → slice_get marks k ≡ Some false) → so_far s marks own ≡ so_far t marks own
  far_gap s t le none =
      let same : s + (t - s) ≡ t = omega (arith, le) in
      far_count (t - s) s (λ k l r. none k l (omega (arith, r, same))) ∙ ap (λ k. so_far k marks own) same

  module _ (even : length marks ≡ length own) where
    outs_count : (n s : ℕ) → ((k : ℕ) → s ≤ k → k < s + n → slice_get marks k ≡ Some false) → outs_from s (drop s marks) (drop s own) ≡ outs_from (s + n) (drop (s + n) marks) (drop (s + n) own)
    outs_count zero s none = let same : s ≡ s + 0 = omega arith in ap (λ k. outs_from k (drop k marks) (drop k own)) same
    outs_count (suc n) s none =
        let same : suc s + n ≡ s + suc n = omega arith in
        outs_step s s marks own false even (none s (omega arith) (omega arith))
        ∙ ap (λ outs. outs ++ outs_from (suc s) (drop (suc s) marks) (drop (suc s) own)) (reaches_none s (slice_get own s))
        ∙ outs_count n (suc s) (λ k l r. none k (omega (arith, l)) (omega (arith, r)))
        ∙ ap (λ k. outs_from k (drop k marks) (drop k own)) same

    pub outs_gap : (s t : ℕ) → s ≤ t → ((k : ℕ) → s ≤ k → k < t → slice_get marks k ≡ Some false) → outs_from s (drop s marks) (drop s own) ≡ outs_from t (drop t marks) (drop t own)
    outs_gap s t le none =
        let same : s + (t - s) ≡ t = omega (arith, le) in
        outs_count (t - s) s (λ k l r. none k l (omega (arith, r, same))) ∙ ap (λ k. outs_from k (drop k marks) (drop k own)) same
