-- The other nodes of an option take back what they gave their items, on the way round the row.
-- The items are different ones, so the order does not matter.
use Rattle.std.proofs.Common.{◌≡◌, ℕ, ◌+◌, ◌%◌, ◌<◌, ◌≤◌, List, [], ◌∷◌, ◌++◌, true, false, not, ◌==◌, ◌&&◌, if◌then◌else◌, get_or, set, refl, arith, sym, ap, ◌∙◌, subst, inl, inr, append_assoc, append-nil}
use Rattle.std.proofs.lemmas.Bool.{cases_eq, eq-eqb, eqb-true, both_ways, or_cases, or_left, or_right}
use Rattle.std.proofs.lemmas.List.{get_or-set_other}
use Rattle.dancing_links.specs.Columns.{among, Columns, column_of, colour_at, begin_of, end_of, IsOptionNode, IsTable}
use Rattle.dancing_links.specs.Committing.{IsCommits, commit, uncommit, committed, covering}
use Rattle.dancing_links.specs.Covering.{others}
use Rattle.dancing_links.specs.Keys.{with_mark, turned}
use Rattle.dancing_links.proofs.Others.{ahead, to_come, IsRound, IsOnWay, round_end}
use Rattle.dancing_links.proofs.Round.{among-append}
use Rattle.dancing_links.proofs.Commits.{commit_plain, commit_coloured, covering_one}
use Rattle.dancing_links.proofs.Choose.{IsBackTo, turned-append, back_start, back_step}
use Rattle.dancing_links.proofs.Trail.{change_twice}

-- ---- the nodes that were passed

-- the other nodes of a row up to one: from each of them the way round is longer
pub record IsPassed (c : Columns) (node other : ℕ) (done : List ℕ) : Type 0 where
  pub all : others c node ≡ done ++ to_come c node other
  pub each : (d : ℕ) → among done d ≡ true → (begin_of c node ≤ d) × (d < end_of c node) × (ahead (begin_of c node) (end_of c node) node other < ahead (begin_of c node) (end_of c node) node d)

in_row : (c : Columns) (node other : ℕ) → IsRound c node other → (other ≡ node → ⊥) → IsOptionNode c node × (begin_of c node ≤ other) × (other < end_of c node)
in_row c node other round ne = elim round [ inl same ↦ absurd (ne same) | inr at ↦ at ]

passed_start : (c : Columns) (node other : ℕ) → to_come c node other ≡ others c node → IsPassed c node other []
passed_start c node other e = record { all = sym e; each = λ d h. absurd (both_ways false refl h) }

passed_step : (c : Columns) (node other next : ℕ) (done : List ℕ) → IsRound c node other → (other ≡ node → ⊥) → IsOnWay c node other next → IsPassed c node other done → IsPassed c node next (done ++ other ∷ [])
passed_step c node other next done round ne on is =
    let row = in_row c node other round ne in
    record {
      all = is.all ∙ ap (λ (ks : List ℕ). done ++ ks) on.come ∙ sym (append_assoc done (other ∷ []) (to_come c node next));
      each = λ d h. elim (or_cases (among done d) (among (other ∷ []) d) (sym (among-append done (other ∷ []) d) ∙ h)) [
        | inl before ↦ let at = is.each d before in (at.0, at.1, omega (arith, at.2, on.fewer))
        | inr here ↦ elim (or_cases (other == d) false here) [
          | inl t ↦
              let e : other ≡ d = eqb-true other d t in
              (omega (arith, e, row.1), omega (arith, e, row.2), omega (arith, on.fewer, ap (ahead (begin_of c node) (end_of c node) node) e))
          | inr f ↦ absurd (both_ways false refl f)
        ]
      ];
    }

-- they stand for other items
passed_apart : (c : Columns) (node other : ℕ) (done : List ℕ) → IsTable c → IsRound c node other → (other ≡ node → ⊥) → IsOptionNode c other → IsPassed c node other done → (d : ℕ) → among done d ≡ true → column_of c d ≡ column_of c other → ⊥
passed_apart c node other done t round ne option is d h column =
    let row = in_row c node other round ne in
    let same = t.same node other row.0.0 row.0.1 row.1 row.2 in
    let at = is.each d h in
    let e : d ≡ other = t.apart other d option.0 option.1 (omega (arith, same.0, at.0)) (omega (arith, same.1, at.1)) column in
    omega (arith, at.2, ap (ahead (begin_of c node) (end_of c node) node) e)

-- ---- two nodes in either order

-- marks are turned in either order
marks_turned : (keys : List ℕ) (i j : ℕ) → with_mark (with_mark keys i) j ≡ with_mark (with_mark keys j) i
unfolding with_mark
marks_turned keys i j = change_twice (λ n. (n + 2147483648) % 4294967296) (λ n. (n + 2147483648) % 4294967296) keys i j (λ n. refl)

turned_mark : (c : Columns) (keys : List ℕ) (i : ℕ) (ks : List ℕ) → turned c (with_mark keys i) ks ≡ with_mark (turned c keys ks) i
turned_mark c keys i [] = refl
turned_mark c keys i (k ∷ ks) = ap (λ (n : List ℕ). with_mark n (column_of c k)) (turned_mark c keys i ks) ∙ marks_turned (turned c keys ks) i (column_of c k)

turned_both : (c : Columns) (keys xs ys : List ℕ) → turned c (turned c keys xs) ys ≡ turned c (turned c keys ys) xs
turned_both c keys [] ys = refl
turned_both c keys (x ∷ xs) ys = turned_mark c (turned c keys xs) (column_of c x) ys ∙ ap (λ (n : List ℕ). with_mark n (column_of c x)) (turned_both c keys xs ys)

-- colours are given in either order
commit_both : (c : Columns) (commits : List ℕ) (k j : ℕ) → commit c (commit c commits k) j ≡ commit c (commit c commits j) k
commit_both c commits k j = elim (cases_eq (colour_at c k) 0) [
  | inl plain ↦ ap (λ (held : List ℕ). commit c held j) (commit_plain c commits k plain) ∙ sym (commit_plain c (commit c commits j) k plain)
  | inr some ↦ elim (cases_eq (colour_at c j) 0) [
    | inl plain ↦ commit_plain c (commit c commits k) j plain ∙ ap (λ (held : List ℕ). commit c held k) (sym (commit_plain c commits j plain))
    | inr also ↦
        commit_coloured c (commit c commits k) j also
        ∙ ap (λ (xs : List ℕ). set xs (column_of c j) ((get_or xs (column_of c j) 0 + 1) % 4294967296)) (commit_coloured c commits k some)
        ∙ change_twice (λ n. (n + 1) % 4294967296) (λ n. (n + 1) % 4294967296) commits (column_of c k) (column_of c j) (λ n. refl)
        ∙ ap (λ (xs : List ℕ). set xs (column_of c k) ((get_or xs (column_of c k) 0 + 1) % 4294967296)) (sym (commit_coloured c commits j also))
        ∙ sym (commit_coloured c (commit c commits j) k some)
  ]
]

count_aside : (c : Columns) (commits : List ℕ) (k j : ℕ) → (column_of c j ≡ column_of c k → ⊥) → get_or (commit c commits k) (column_of c j) 0 ≡ get_or commits (column_of c j) 0
count_aside c commits k j ne = elim (cases_eq (colour_at c k) 0) [
  | inl plain ↦ ap (λ (held : List ℕ). get_or held (column_of c j) 0) (commit_plain c commits k plain)
  | inr some ↦ ap (λ (held : List ℕ). get_or held (column_of c j) 0) (commit_coloured c commits k some) ∙ get_or-set_other commits (column_of c k) (column_of c j) ((get_or commits (column_of c k) 0 + 1) % 4294967296) 0 ne
]

-- a node covers its item or not, whatever colour another item gets
covering_aside : (c : Columns) (commits : List ℕ) (k j : ℕ) → (column_of c j ≡ column_of c k → ⊥) → covering c (commit c commits k) (j ∷ []) ≡ covering c commits (j ∷ [])
covering_aside c commits k j ne = ap (λ n. if not (colour_at c j == 0) && not (n == 0) then [] else j ∷ []) (count_aside c commits k j ne)

-- ---- the last node first

turned_first : (c : Columns) (keys commits : List ℕ) (k : ℕ) (ks : List ℕ) → turned c keys (covering c commits (k ∷ ks)) ≡ turned c (turned c keys (covering c (commit c commits k) ks)) (covering c commits (k ∷ []))
turned_first c keys commits k ks = ap (turned c keys) (covering_one c commits k ks) ∙ turned-append c keys (covering c commits (k ∷ [])) (covering c (commit c commits k) ks)

turned_last : (c : Columns) (keys commits ks : List ℕ) (k : ℕ) → ((d : ℕ) → among ks d ≡ true → column_of c d ≡ column_of c k → ⊥) → turned c keys (covering c commits (ks ++ k ∷ [])) ≡ turned c keys (covering c commits (k ∷ ks))
turned_last c keys commits [] k apart = refl
turned_last c keys commits (d ∷ ds) k apart =
    let ne = apart d (or_left (d == d) (among ds d) (eq-eqb d d refl)) in
    let at_d : List ℕ = covering c commits (d ∷ []) in
    let at_k : List ℕ = covering c commits (k ∷ []) in
    let rest : List ℕ = turned c keys (covering c (commit c (commit c commits k) d) ds) in
    turned_first c keys commits d (ds ++ k ∷ [])
    ∙ ap (λ (n : List ℕ). turned c n at_d) (turned_last c keys (commit c commits d) ds k (λ z h. apart z (or_right (d == z) (among ds z) h)) ∙ turned_first c keys (commit c commits d) k ds)
    ∙ ap (λ (ks : List ℕ). turned c (turned c (turned c keys (covering c (commit c (commit c commits d) k) ds)) ks) at_d) (covering_aside c commits d k (λ e. ne (sym e)))
    ∙ ap (λ (held : List ℕ). turned c (turned c (turned c keys (covering c held ds)) at_k) at_d) (commit_both c commits d k)
    ∙ turned_both c rest at_k at_d
    ∙ ap (λ (ks : List ℕ). turned c (turned c rest ks) at_k) (sym (covering_aside c commits k d ne))
    ∙ ap (λ (n : List ℕ). turned c n at_k) (sym (turned_first c keys (commit c commits k) d ds))
    ∙ sym (turned_first c keys commits k (d ∷ ds))

committed_last : (c : Columns) (commits ks : List ℕ) (k : ℕ) → committed c commits (ks ++ k ∷ []) ≡ committed c commits (k ∷ ks)
committed_last c commits [] k = refl
committed_last c commits (d ∷ ds) k = committed_last c (commit c commits d) ds k ∙ ap (λ (held : List ℕ). committed c held ds) (commit_both c commits d k)

back_last : (c : Columns) (done was is held holds : List ℕ) (k : ℕ) → ((d : ℕ) → among done d ≡ true → column_of c d ≡ column_of c k → ⊥) → IsBackTo c (k ∷ done) was is held holds → IsBackTo c (done ++ k ∷ []) was is held holds
back_last c done was is held holds k apart at = record {
  kept = at.kept;
  keys = at.keys ∙ sym (turned_last c was holds done k apart);
  commits = committed_last c holds done k ∙ at.commits;
}

-- ---- on the way round

-- the nodes that were passed have taken back what they gave
pub record IsTakenBack (c : Columns) (node other : ℕ) (was is held holds : List ℕ) : Type 0 where
  pub done : List ℕ
  pub passed : IsPassed c node other done
  pub back : IsBackTo c done was is held holds

pub taken_start : (c : Columns) (node other : ℕ) (was held : List ℕ) → IsCommits c held → to_come c node other ≡ others c node → IsTakenBack c node other was was held held
taken_start c node other was held kept e = record { done = []; passed = passed_start c node other e; back = back_start c was held kept }

pub taken_step : (c : Columns) (node other next : ℕ) (was is grown held holds : List ℕ) → IsTable c → IsRound c node other → (other ≡ node → ⊥) → IsOnWay c node other next → grown ≡ turned c is (covering c (uncommit c holds other) (other ∷ [])) → IsTakenBack c node other was is held holds → IsTakenBack c node next was grown held (uncommit c holds other)
taken_step c node other next was is grown held holds t round ne on keys at = record {
  done = at.done ++ other ∷ [];
  passed = passed_step c node other next at.done round ne on at.passed;
  back = back_last c at.done was grown held (uncommit c holds other) other (passed_apart c node other at.done t round ne on.option at.passed)
      (back_step c at.done was is grown held holds other (t.option_columns other on.option.0 on.option.1) keys at.back);
}

-- and at the end all others have
pub taken_end : (c : Columns) (node other : ℕ) (was is held holds : List ℕ) → other ≡ node → IsTakenBack c node other was is held holds → IsBackTo c (others c node) was is held holds
taken_end c node other was is held holds e at =
    let all : others c node ≡ at.done = at.passed.all ∙ ap (λ (ks : List ℕ). at.done ++ ks) (round_end c node other e) ∙ append-nil at.done in
    let P : List ℕ → Type 0 = λ ks. IsBackTo c ks was is held holds in
    subst P (sym all) at.back
