-- What is kept of the colours that items got, and which nodes cover their items by it.
use Rattle.std.proofs.Common.{◌≡◌, ℕ, zero, suc, ◌+◌, ◌-◌, ◌%◌, ◌<◌, List, [], ◌∷◌, ◌++◌, length, true, false, ◌==◌, get_or, set, refl, arith, sym, ap, ◌∙◌, inl, inr}
use Rattle.std.specs.List.{All}
use Rattle.std.proofs.lemmas.Bool.{cases_Bool, cases_eq, eq-eqb, ne_eqb, or_left, or_right}
use Rattle.std.proofs.lemmas.List.{length-set, get_or-set_same, get_or-replicate, set-get_or, length-replicate}
use Rattle.std.proofs.lemmas.List.Elements.{All-set, All-from_get_or}
use Rattle.dancing_links.specs.Choices.{no_commits}
use Rattle.dancing_links.specs.Columns.{Columns, among, column_of, colour_at, IsTable}
use Rattle.dancing_links.specs.Committing.{IsCommits, with_commits, commit, uncommit, committed, is_repeated, covering}

-- ---- one node

pub commit_plain : (c : Columns) (commits : List ℕ) (k : ℕ) → colour_at c k ≡ 0 → commit c commits k ≡ commits
unfolding commit
commit_plain c commits k h = rw (eq-eqb (colour_at c k) 0 h) refl

pub commit_coloured : (c : Columns) (commits : List ℕ) (k : ℕ) → (colour_at c k ≡ 0 → ⊥) → commit c commits k ≡ set commits (column_of c k) ((get_or commits (column_of c k) 0 + 1) % 4294967296)
unfolding commit with_commits
commit_coloured c commits k ne = rw (ne_eqb (colour_at c k) 0 ne) refl

pub uncommit_plain : (c : Columns) (commits : List ℕ) (k : ℕ) → colour_at c k ≡ 0 → uncommit c commits k ≡ commits
unfolding uncommit
uncommit_plain c commits k h = rw (eq-eqb (colour_at c k) 0 h) refl

pub uncommit_coloured : (c : Columns) (commits : List ℕ) (k : ℕ) → (colour_at c k ≡ 0 → ⊥) → uncommit c commits k ≡ set commits (column_of c k) ((get_or commits (column_of c k) 0 + 4294967295) % 4294967296)
unfolding uncommit with_commits
uncommit_coloured c commits k ne = rw (ne_eqb (colour_at c k) 0 ne) refl

with_kept : (c : Columns) (commits : List ℕ) (i v : ℕ) → v < 4294967296 → IsCommits c commits → IsCommits c (set commits i v)
with_kept c commits i v small is = record {
  columns = omega (arith, length-set commits i v, is.columns);
  small = All-set (λ n. n < 4294967296) commits i v small is.small;
}

pub commit_kept : (c : Columns) (commits : List ℕ) (k : ℕ) → IsCommits c commits → IsCommits c (commit c commits k)
commit_kept c commits k is = elim (cases_eq (colour_at c k) 0) [
  | inl h ↦ rw (commit_plain c commits k h) is
  | inr ne ↦ rw (commit_coloured c commits k ne) (with_kept c commits (column_of c k) ((get_or commits (column_of c k) 0 + 1) % 4294967296) (omega arith) is)
]

pub uncommit_kept : (c : Columns) (commits : List ℕ) (k : ℕ) → IsCommits c commits → IsCommits c (uncommit c commits k)
uncommit_kept c commits k is = elim (cases_eq (colour_at c k) 0) [
  | inl h ↦ rw (uncommit_plain c commits k h) is
  | inr ne ↦ rw (uncommit_coloured c commits k ne) (with_kept c commits (column_of c k) ((get_or commits (column_of c k) 0 + 4294967295) % 4294967296) (omega arith) is)
]

set_twice : (xs : List ℕ) (i a b : ℕ) → set (set xs i a) i b ≡ set xs i b
set_twice [] i a b = refl
set_twice (x ∷ xs) zero a b = refl
set_twice (x ∷ xs) (suc i) a b = ap (λ ys. x ∷ ys) (set_twice xs i a b)

-- a number that goes once round is as it was
round : (xs : List ℕ) (i m n : ℕ) → i < length xs → All (λ v. v < 4294967296) xs → m + n ≡ 4294967296 → set (set xs i ((get_or xs i 0 + m) % 4294967296)) i ((get_or (set xs i ((get_or xs i 0 + m) % 4294967296)) i 0 + n) % 4294967296) ≡ xs
round xs i m n inside small e =
    let v : ℕ = (get_or xs i 0 + m) % 4294967296 in
    let at = get_or-set_same xs i v 0 inside in
    let bound : get_or xs i 0 < 4294967296 = small i 0 inside in
    let back : (get_or (set xs i ((get_or xs i 0 + m) % 4294967296)) i 0 + n) % 4294967296 ≡ get_or xs i 0 = omega (arith, at, bound, e) in
    ap (set (set xs i v) i) back ∙ set_twice xs i v (get_or xs i 0) ∙ set-get_or xs i 0

pub uncommit_commit : (c : Columns) (commits : List ℕ) (k : ℕ) → column_of c k + 1 < c.heads → IsCommits c commits → uncommit c (commit c commits k) k ≡ commits
uncommit_commit c commits k item is = elim (cases_eq (colour_at c k) 0) [
  | inl h ↦ uncommit_plain c (commit c commits k) k h ∙ commit_plain c commits k h
  | inr ne ↦
      uncommit_coloured c (commit c commits k) k ne
      ∙ ap (λ (xs : List ℕ). set xs (column_of c k) ((get_or xs (column_of c k) 0 + 4294967295) % 4294967296)) (commit_coloured c commits k ne)
      ∙ round commits (column_of c k) 1 4294967295 (omega (arith, is.columns, item)) is.small refl
]

pub commit_uncommit : (c : Columns) (commits : List ℕ) (k : ℕ) → column_of c k + 1 < c.heads → IsCommits c commits → commit c (uncommit c commits k) k ≡ commits
commit_uncommit c commits k item is = elim (cases_eq (colour_at c k) 0) [
  | inl h ↦ commit_plain c (uncommit c commits k) k h ∙ uncommit_plain c commits k h
  | inr ne ↦
      commit_coloured c (uncommit c commits k) k ne
      ∙ ap (λ (xs : List ℕ). set xs (column_of c k) ((get_or xs (column_of c k) 0 + 1) % 4294967296)) (uncommit_coloured c commits k ne)
      ∙ round commits (column_of c k) 4294967295 1 (omega (arith, is.columns, item)) is.small refl
]

-- ---- which nodes are repeated

pub repeated_plain : (c : Columns) (commits : List ℕ) (k : ℕ) → colour_at c k ≡ 0 → is_repeated c commits k ≡ false
repeated_plain c commits k h = rw (eq-eqb (colour_at c k) 0 h) refl

pub repeated_none : (c : Columns) (commits : List ℕ) (k : ℕ) → get_or commits (column_of c k) 0 ≡ 0 → is_repeated c commits k ≡ false
repeated_none c commits k h = elim (cases_Bool (colour_at c k == 0)) [
  | inl t ↦ rw t refl
  | inr f ↦ rw (f, eq-eqb (get_or commits (column_of c k) 0) 0 h) refl
]

pub repeated_some : (c : Columns) (commits : List ℕ) (k : ℕ) → (colour_at c k ≡ 0 → ⊥) → (get_or commits (column_of c k) 0 ≡ 0 → ⊥) → is_repeated c commits k ≡ true
repeated_some c commits k coloured some = rw (ne_eqb (colour_at c k) 0 coloured, ne_eqb (get_or commits (column_of c k) 0) 0 some) refl

-- ---- which nodes cover

pub covering_repeated : (c : Columns) (commits : List ℕ) (k : ℕ) (ks : List ℕ) → is_repeated c commits k ≡ true → covering c commits (k ∷ ks) ≡ covering c (commit c commits k) ks
covering_repeated c commits k ks h = rw h refl

pub covering_new : (c : Columns) (commits : List ℕ) (k : ℕ) (ks : List ℕ) → is_repeated c commits k ≡ false → covering c commits (k ∷ ks) ≡ k ∷ covering c (commit c commits k) ks
covering_new c commits k ks h = rw h refl

pub covering_one : (c : Columns) (commits : List ℕ) (k : ℕ) (ks : List ℕ) → covering c commits (k ∷ ks) ≡ covering c commits (k ∷ []) ++ covering c (commit c commits k) ks
covering_one c commits k ks = elim (cases_Bool (is_repeated c commits k)) [
  | inl t ↦ rw t refl
  | inr f ↦ rw f refl
]

pub covering_append : (c : Columns) (commits xs ys : List ℕ) → covering c commits (xs ++ ys) ≡ covering c commits xs ++ covering c (committed c commits xs) ys
covering_append c commits [] ys = refl
covering_append c commits (x ∷ xs) ys =
    let rest = covering_append c (commit c commits x) xs ys in
    elim (cases_Bool (is_repeated c commits x)) [
      | inl t ↦ rw t rest
      | inr f ↦ rw f (ap (λ ks. x ∷ ks) rest)
    ]

pub committed_append : (c : Columns) (commits xs ys : List ℕ) → committed c commits (xs ++ ys) ≡ committed c (committed c commits xs) ys
committed_append c commits [] ys = refl
committed_append c commits (x ∷ xs) ys = committed_append c (commit c commits x) xs ys

pub committed_kept : (c : Columns) (commits ks : List ℕ) → IsCommits c commits → IsCommits c (committed c commits ks)
committed_kept c commits [] is = is
committed_kept c commits (k ∷ ks) is = committed_kept c (commit c commits k) ks (commit_kept c commits k is)

commit_same : (c : Columns) (xs ys : List ℕ) (k : ℕ) → column_of c k + 1 < c.heads → IsCommits c xs → IsCommits c ys → commit c xs k ≡ commit c ys k → xs ≡ ys
commit_same c xs ys k item is also e = sym (uncommit_commit c xs k item is) ∙ ap (λ (commits : List ℕ). uncommit c commits k) e ∙ uncommit_commit c ys k item also

-- what is kept before some nodes is known by what is kept after them
pub committed_same : (c : Columns) (xs ys ks : List ℕ) → ((z : ℕ) → among ks z ≡ true → column_of c z + 1 < c.heads) → IsCommits c xs → IsCommits c ys → committed c xs ks ≡ committed c ys ks → xs ≡ ys
committed_same c xs ys [] items is also e = e
committed_same c xs ys (k ∷ ks) items is also e =
    commit_same c xs ys k (items k (or_left (k == k) (among ks k) (eq-eqb k k refl))) is also
    (committed_same c (commit c xs k) (commit c ys k) ks (λ z h. items z (or_right (k == z) (among ks z) h)) (commit_kept c xs k is) (commit_kept c ys k also) e)

-- ---- at the beginning

pub no_commits_kept : (c : Columns) → IsTable c → IsCommits c (no_commits c)
no_commits_kept c t = record {
  columns = omega (arith, length-replicate {A = ℕ} (c.heads - 1) 0, t.some);
  small = All-from_get_or (λ n. n < 4294967296) (no_commits c) 0 (λ i h. omega (arith, get_or-replicate {A = ℕ} (c.heads - 1) i 0 0 (omega (arith, h, length-replicate {A = ℕ} (c.heads - 1) 0))));
}
