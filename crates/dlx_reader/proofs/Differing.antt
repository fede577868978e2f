-- Names that differ.
use Rattle.std.proofs.Common.{◌≡◌, ℕ, ◌<◌, zero, suc, List, [], ◌∷◌, ◌++◌, length, take, true, false, nat_eq, nat_lt, not, refl, sym, ◌∙◌, arith, get_or, ⊎_elim}
use Rattle.std.specs.List.{list_any}
use Rattle.std.specs.Cmp.Lexicographic.{pointwise, bytes_decides}
use Rattle.std.proofs.lemmas.Bool.{and_parts, and_from, not-true, not_from_false, or_parts, or_from, cases_lt, lt-ltb, le-ltb}
use Rattle.std.proofs.lemmas.Cmp.{nat_list_eq_equiv}
use Rattle.std.proofs.Math.Dec.{eqb-suc-suc, eqb-suc-zero, eqb-zero-suc}
use Rattle.cover_problem.specs.Problem.{names_differ}
use Rattle.dlx_reader.specs.Names.{is_among}

pub same_self : (name : List ℕ) → pointwise nat_eq name name ≡ true
same_self name = (bytes_decides name name).1 refl

-- a further name that is new
pub names_differ-push : (names : List (List ℕ)) (name : List ℕ) → names_differ names ≡ true → is_among names name ≡ false → names_differ (names ++ name ∷ []) ≡ true
names_differ-push [] name h fresh = refl
names_differ-push (first ∷ names) name h fresh =
    let parts = and_parts (not (list_any (pointwise nat_eq first) names)) (names_differ names) h in
    let apart = or_parts (pointwise nat_eq first name) (is_among names name) fresh in
    and_from (not (list_any (pointwise nat_eq first) (names ++ name ∷ []))) (names_differ (names ++ name ∷ []))
    (not_from_false (list_any (pointwise nat_eq first) (names ++ name ∷ [])) (none_more names (not-true (list_any (pointwise nat_eq first) names) parts.0) apart.0))
    (names_differ-push names name parts.1 apart.1)
  where
    none_more : (others : List (List ℕ)) → list_any (pointwise nat_eq first) others ≡ false → pointwise nat_eq first name ≡ false → list_any (pointwise nat_eq first) (others ++ name ∷ []) ≡ false
    none_more [] e ne = or_from (pointwise nat_eq first name) false ne refl
    none_more (other ∷ others) e ne =
        let two = or_parts (pointwise nat_eq first other) (list_any (pointwise nat_eq first) others) e in
        or_from (pointwise nat_eq first other) (list_any (pointwise nat_eq first) (others ++ name ∷ [])) two.0 (none_more others two.1 ne)

-- a name that none of the others is, at each place
pub none_at : (first : List ℕ) (names : List (List ℕ)) (item : ℕ) → list_any (pointwise nat_eq first) names ≡ false → item < length names → pointwise nat_eq first (get_or names item []) ≡ false
none_at first [] item e h = absurd (omega arith)
none_at first (name ∷ names) zero e h = (or_parts (pointwise nat_eq first name) (list_any (pointwise nat_eq first) names) e).0
none_at first (name ∷ names) (suc item) e h = none_at first names item (or_parts (pointwise nat_eq first name) (list_any (pointwise nat_eq first) names) e).1 (omega arith)

-- two of the names are equal where they are one
pub same_name : (names : List (List ℕ)) (i j : ℕ) → names_differ names ≡ true → i < length names → j < length names → pointwise nat_eq (get_or names i []) (get_or names j []) ≡ nat_eq i j
same_name [] i j h p q = absurd (omega arith)
same_name (name ∷ names) zero zero h p q = same_self name
same_name (name ∷ names) zero (suc j) h p q =
    none_at name names j (not-true (list_any (pointwise nat_eq name) names) (and_parts (not (list_any (pointwise nat_eq name) names)) (names_differ names) h).0) (omega arith) ∙ sym (eqb-zero-suc j)
same_name (name ∷ names) (suc i) zero h p q =
    nat_list_eq_equiv.symm (get_or names i []) name ∙ none_at name names i (not-true (list_any (pointwise nat_eq name) names) (and_parts (not (list_any (pointwise nat_eq name) names)) (names_differ names) h).0) (omega arith) ∙ sym (eqb-suc-zero i)
same_name (name ∷ names) (suc i) (suc j) h p q = same_name names i j (and_parts (not (list_any (pointwise nat_eq name) names)) (names_differ names) h).1 (omega arith) (omega arith) ∙ sym (eqb-suc-suc i j)

-- a name is among the first names where its number is below theirs
pub among_first : (names : List (List ℕ)) (count item : ℕ) → names_differ names ≡ true → item < length names → is_among (take count names) (get_or names item []) ≡ nat_lt item count
among_first [] count item h p = absurd (omega arith)
among_first (name ∷ names) zero item h p = sym (le-ltb item zero (omega arith))
among_first (name ∷ names) (suc count) zero h p = rw (same_self name) (sym (lt-ltb zero (suc count) (omega arith)))
among_first (name ∷ names) (suc count) (suc item) h p =
    let parts = and_parts (not (list_any (pointwise nat_eq name) names)) (names_differ names) h in
    let apart = none_at name names item (not-true (list_any (pointwise nat_eq name) names) parts.0) (omega arith) in
    rw apart (among_first names count item parts.1 (omega arith) ∙ ltb_suc)
  where
    ltb_suc : nat_lt item count ≡ nat_lt (suc item) (suc count)
    ltb_suc = ⊎_elim (λ below. lt-ltb item count below ∙ sym (lt-ltb (suc item) (suc count) (omega arith))) (λ above. le-ltb item count above ∙ sym (le-ltb (suc item) (suc count) (omega arith))) (cases_lt item count)
