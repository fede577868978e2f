-- Of nodes that agree where they stand in one column, those that cover: each covers an item that none before it covers.
use Rattle.std.proofs.Common.{◌≡◌, ℕ, zero, suc, ◌+◌, ◌-◌, ◌%◌, ◌<◌, ◌≤◌, List, [], ◌∷◌, length, true, false, ◌==◌, get_or, set, replicate, refl, arith, sym, ap, ◌∙◌, inl, inr, subst}
use Rattle.std.proofs.lemmas.Bool.{eq-eqb, eqb-true, cases_Bool, cases_eq, both_ways, or_cases, or_left, or_right, false_from_ne_true}
use Rattle.std.proofs.lemmas.List.{get_or-set_same, get_or-set_other}
use Rattle.dancing_links.specs.Choices.{no_commits}
use Rattle.dancing_links.specs.Columns.{among, Columns, column_of, colour_at, IsTable}
use Rattle.dancing_links.specs.Committing.{IsCommits, commit, committed, is_repeated, covering}
use Rattle.dancing_links.proofs.Commits.{commit_plain, commit_coloured, commit_kept, no_commits_kept, repeated_none, repeated_some, covering_repeated, covering_new}
use Rattle.dancing_links.proofs.Present.{covers, AreNew, with_all}

-- a node has a colour, and each of some nodes in its column has the same
abbrev pub Agrees : Columns → List ℕ → ℕ → Type 0
Agrees c seen k = (z : ℕ) → among seen z ≡ true → column_of c z ≡ column_of c k → (colour_at c k ≡ 0 → ⊥) × (colour_at c z ≡ colour_at c k)

-- nodes of items, each of which agrees with those before it
abbrev pub AreAgreed : Columns → List ℕ → List ℕ → Type 0
AreAgreed c seen [] = Unit {0}
AreAgreed c seen (k ∷ ks) = ((column_of c k + 1 < c.heads) × Agrees c seen k) × AreAgreed c (k ∷ seen) ks

-- a node among some that stands in a column, in a colour
pub record IsAmong (c : Columns) (nodes : List ℕ) (i a : ℕ) : Type 0 where
  pub node : ℕ
  pub here : among nodes node ≡ true
  pub column : column_of c node ≡ i
  pub colour : colour_at c node ≡ a

-- a node among some that stands in a column, and has a colour
pub record IsColoured (c : Columns) (nodes : List ℕ) (i : ℕ) : Type 0 where
  pub node : ℕ
  pub here : among nodes node ≡ true
  pub column : column_of c node ≡ i
  pub colour : colour_at c node ≡ 0 → ⊥

-- of the nodes that were seen these cover, and so many gave each item a colour
pub record IsCovering (c : Columns) (seen nodes commits : List ℕ) : Type 0 where
  pub kept : IsCommits c commits
  pub subset : (x : ℕ) → among nodes x ≡ true → among seen x ≡ true
  pub each : (z : ℕ) → among seen z ≡ true → IsAmong c nodes (column_of c z) (colour_at c z)
  pub few : (i : ℕ) → get_or commits i 0 ≤ length seen
  pub none : (i z : ℕ) → i + 1 < c.heads → get_or commits i 0 ≡ 0 → among seen z ≡ true → column_of c z ≡ i → colour_at c z ≡ 0
  pub some : (i : ℕ) → (get_or commits i 0 ≡ 0 → ⊥) → IsColoured c seen i

pub covers_some : (c : Columns) (nodes : List ℕ) (i : ℕ) → covers c nodes i ≡ true → (x : ℕ) × (among nodes x ≡ true) × (column_of c x ≡ i)
covers_some c [] i h = absurd (both_ways false refl h)
covers_some c (x ∷ xs) i h = elim (or_cases (column_of c x == i) (covers c xs i) h) [
  | inl e ↦ (x, or_left (x == x) (among xs x) (eq-eqb x x refl), eqb-true (column_of c x) i e)
  | inr r ↦ let rest = covers_some c xs i r in (rest.0, or_right (x == rest.0) (among xs rest.0) rest.1, rest.2)
]

pub covers_by : (c : Columns) (nodes : List ℕ) (x : ℕ) → among nodes x ≡ true → covers c nodes (column_of c x) ≡ true
covers_by c [] x h = absurd (both_ways false refl h)
covers_by c (y ∷ ys) x h = elim (or_cases (y == x) (among ys x) h) [
  | inl e ↦ or_left (column_of c y == column_of c x) (covers c ys (column_of c x)) (eq-eqb (column_of c y) (column_of c x) (ap (column_of c) (eqb-true y x e)))
  | inr r ↦ or_right (column_of c y == column_of c x) (covers c ys (column_of c x)) (covers_by c ys x r)
]

nothing : (n i : ℕ) → get_or (replicate {A = ℕ} n 0) i 0 ≡ 0
nothing zero i = refl
nothing (suc n) zero = refl
nothing (suc n) (suc i) = nothing n i

pub covering_start : (c : Columns) → IsTable c → IsCovering c [] [] (no_commits c)
covering_start c t = record {
  kept = no_commits_kept c t;
  subset = λ x h. h;
  each = λ z h. absurd (both_ways false refl h);
  few = λ i. omega (arith, nothing (c.heads - 1) i);
  none = λ i z item h here. absurd (both_ways false refl here);
  some = λ i some. absurd (some (nothing (c.heads - 1) i));
}

-- what is kept of the colours once another node is seen
seen_few : (c : Columns) (seen nodes commits : List ℕ) (k : ℕ) → column_of c k + 1 < c.heads → length seen + 1 < 4294967296 → IsCovering c seen nodes commits → (i : ℕ) → get_or (commit c commits k) i 0 ≤ length seen + 1
seen_few c seen nodes commits k item bound at i = elim (cases_eq (colour_at c k) 0) [
  | inl plain ↦ omega (arith, ap (λ (xs : List ℕ). get_or xs i 0) (commit_plain c commits k plain), at.few i)
  | inr coloured ↦
      let v : ℕ = (get_or commits (column_of c k) 0 + 1) % 4294967296 in
      let new = ap (λ (xs : List ℕ). get_or xs i 0) (commit_coloured c commits k coloured) in
      elim (cases_eq i (column_of c k)) [
        | inl e ↦
            let here : get_or (set commits (column_of c k) v) i 0 ≡ v = ap (λ j. get_or (set commits (column_of c k) v) j 0) e ∙ get_or-set_same commits (column_of c k) v 0 (omega (arith, at.kept.columns, item)) in
            omega (arith, new, here, at.few (column_of c k), bound)
        | inr ne ↦ omega (arith, new, get_or-set_other commits (column_of c k) i v 0 ne, at.few i)
      ]
]

seen_none : (c : Columns) (seen nodes commits : List ℕ) (k : ℕ) → column_of c k + 1 < c.heads → length seen + 1 < 4294967296 → IsCovering c seen nodes commits → (i z : ℕ) → i + 1 < c.heads → get_or (commit c commits k) i 0 ≡ 0 → among (k ∷ seen) z ≡ true → column_of c z ≡ i → colour_at c z ≡ 0
seen_none c seen nodes commits k item bound at i z inside h here own = elim (cases_eq (colour_at c k) 0) [
  | inl plain ↦ elim (or_cases (k == z) (among seen z) here) [
    | inl e ↦ ap (colour_at c) (sym (eqb-true k z e)) ∙ plain
    | inr r ↦ at.none i z inside (sym (ap (λ (xs : List ℕ). get_or xs i 0) (commit_plain c commits k plain)) ∙ h) r own
  ]
  | inr coloured ↦
      let v : ℕ = (get_or commits (column_of c k) 0 + 1) % 4294967296 in
      let new = ap (λ (xs : List ℕ). get_or xs i 0) (commit_coloured c commits k coloured) in
      elim (cases_eq i (column_of c k)) [
        | inl e ↦
            let there : get_or (set commits (column_of c k) v) i 0 ≡ v = ap (λ j. get_or (set commits (column_of c k) v) j 0) e ∙ get_or-set_same commits (column_of c k) v 0 (omega (arith, at.kept.columns, item)) in
            absurd (omega (arith, new, there, h, at.few (column_of c k), bound))
        | inr ne ↦ elim (or_cases (k == z) (among seen z) here) [
          | inl e ↦ absurd (ne (sym own ∙ ap (column_of c) (sym (eqb-true k z e))))
          | inr r ↦ at.none i z inside (sym (get_or-set_other commits (column_of c k) i v 0 ne) ∙ sym new ∙ h) r own
        ]
      ]
]

seen_some : (c : Columns) (seen nodes commits : List ℕ) (k : ℕ) → IsCovering c seen nodes commits → (i : ℕ) → (get_or (commit c commits k) i 0 ≡ 0 → ⊥) → IsColoured c (k ∷ seen) i
seen_some c seen nodes commits k at i some =
    let later : (get_or commits i 0 ≡ 0 → ⊥) → IsColoured c (k ∷ seen) i = (λ more.
    let was = at.some i more in
    record { node = was.node; here = or_right (k == was.node) (among seen was.node) was.here; column = was.column; colour = was.colour }) in
    elim (cases_eq (colour_at c k) 0) [
      | inl plain ↦ later (λ e. some (ap (λ (xs : List ℕ). get_or xs i 0) (commit_plain c commits k plain) ∙ e))
      | inr coloured ↦ elim (cases_eq i (column_of c k)) [
        | inl e ↦ record { node = k; here = or_left (k == k) (among seen k) (eq-eqb k k refl); column = sym e; colour = coloured }
        | inr ne ↦ later (λ e. some (ap (λ (xs : List ℕ). get_or xs i 0) (commit_coloured c commits k coloured) ∙ get_or-set_other commits (column_of c k) i ((get_or commits (column_of c k) 0 + 1) % 4294967296) 0 ne ∙ e))
      ]
    ]

-- a node that is repeated: one that covers its item has its colour
step_repeated : (c : Columns) (seen nodes commits : List ℕ) (k : ℕ) → column_of c k + 1 < c.heads → Agrees c seen k → length seen + 1 < 4294967296 → is_repeated c commits k ≡ true → IsCovering c seen nodes commits → IsCovering c (k ∷ seen) nodes (commit c commits k)
step_repeated c seen nodes commits k item agrees bound h at = record {
  kept = commit_kept c commits k at.kept;
  subset = λ x here. or_right (k == x) (among seen x) (at.subset x here);
  each = λ z here. elim (or_cases (k == z) (among seen z) here) [
    | inl e ↦
        let some : get_or commits (column_of c k) 0 ≡ 0 → ⊥ = (λ zero. both_ways (is_repeated c commits k) (repeated_none c commits k zero) h) in
        let was = at.some (column_of c k) some in
        let same = agrees was.node was.here was.column in
        let by = at.each was.node was.here in
        let one = eqb-true k z e in
        record { node = by.node; here = by.here; column = by.column ∙ was.column ∙ ap (column_of c) one; colour = by.colour ∙ same.1 ∙ ap (colour_at c) one }
    | inr r ↦ at.each z r
  ];
  few = λ i. let more = seen_few c seen nodes commits k item bound at i in omega (arith, more);
  none = seen_none c seen nodes commits k item bound at;
  some = seen_some c seen nodes commits k at;
}

-- and one that is not: it covers its item, which none before it covers
step_new : (c : Columns) (seen nodes commits : List ℕ) (k : ℕ) → column_of c k + 1 < c.heads → Agrees c seen k → length seen + 1 < 4294967296 → is_repeated c commits k ≡ false → IsCovering c seen nodes commits → (covers c nodes (column_of c k) ≡ false) × IsCovering c (k ∷ seen) (k ∷ nodes) (commit c commits k)
step_new c seen nodes commits k item agrees bound h at = (
  false_from_ne_true (covers c nodes (column_of c k)) (λ hit.
      let x = covers_some c nodes (column_of c k) hit in
      let in_seen = at.subset x.0 x.1 in
      let same = agrees x.0 in_seen x.2 in
      let some : get_or commits (column_of c k) 0 ≡ 0 → ⊥ = (λ zero. same.0 (sym same.1 ∙ at.none (column_of c k) x.0 item zero in_seen x.2)) in
      both_ways (is_repeated c commits k) h (repeated_some c commits k same.0 some)),
  record {
    kept = commit_kept c commits k at.kept;
    subset = λ x here. elim (or_cases (k == x) (among nodes x) here) [
      | inl e ↦ or_left (k == x) (among seen x) e
      | inr r ↦ or_right (k == x) (among seen x) (at.subset x r)
    ];
    each = λ z here. elim (or_cases (k == z) (among seen z) here) [
      | inl e ↦ record { node = z; here = or_left (k == z) (among nodes z) e; column = refl; colour = refl }
      | inr r ↦ let was = at.each z r in record { node = was.node; here = or_right (k == was.node) (among nodes was.node) was.here; column = was.column; colour = was.colour }
    ];
    few = λ i. let more = seen_few c seen nodes commits k item bound at i in omega (arith, more);
    none = seen_none c seen nodes commits k item bound at;
    some = seen_some c seen nodes commits k at;
  },
)

-- what the nodes that cover are, once all nodes are seen
pub record IsCovered (c : Columns) (seen nodes commits ks : List ℕ) : Type 0 where
  pub new : AreNew c nodes (covering c commits ks)
  pub after : IsCovering c (with_all seen ks) (with_all nodes (covering c commits ks)) (committed c commits ks)

pub covering_all : (c : Columns) (seen nodes commits ks : List ℕ) → IsCovering c seen nodes commits → AreAgreed c seen ks → length seen + length ks < 4294967296 → IsCovered c seen nodes commits ks
covering_all c seen nodes commits [] at agreed bound = record { new = tt; after = at }
covering_all c seen nodes commits (k ∷ ks) at agreed bound = elim (cases_Bool (is_repeated c commits k)) [
  | inl t ↦
      let rest = covering_all c (k ∷ seen) nodes (commit c commits k) ks (step_repeated c seen nodes commits k agreed.0.0 agreed.0.1 (omega (arith, bound)) t at) agreed.1 (omega (arith, bound)) in
      let P : List ℕ → Type 0 = λ xs. AreNew c nodes xs in
      let Q : List ℕ → Type 0 = λ xs. IsCovering c (with_all (k ∷ seen) ks) (with_all nodes xs) (committed c (commit c commits k) ks) in
      record { new = subst P (sym (covering_repeated c commits k ks t)) rest.new; after = subst Q (sym (covering_repeated c commits k ks t)) rest.after }
  | inr f ↦
      let one = step_new c seen nodes commits k agreed.0.0 agreed.0.1 (omega (arith, bound)) f at in
      let rest = covering_all c (k ∷ seen) (k ∷ nodes) (commit c commits k) ks one.1 agreed.1 (omega (arith, bound)) in
      let P : List ℕ → Type 0 = λ xs. AreNew c nodes xs in
      let Q : List ℕ → Type 0 = λ xs. IsCovering c (with_all (k ∷ seen) ks) (with_all nodes xs) (committed c (commit c commits k) ks) in
      record { new = subst P (sym (covering_new c commits k ks f)) ((agreed.0.0, one.0), rest.new); after = subst Q (sym (covering_new c commits k ks f)) rest.after }
]
