-- The index of the lowest options that no line means.
use Rattle.std.proofs.Common.{◌≡◌, ℕ, ◌+◌, ◌<◌, ◌≤◌, List, [], ◌∷◌, ◌++◌, length, Option, Some, Bool, true, false, cond, nat_eq, nat_lt, inl, inr, refl, sym, ap, ◌∙◌, subst, arith}
use Rattle.std.proofs.lemmas.Bool.{cases_Bool, cases_lt, cases_eq, lt-ltb, le-ltb, both_ways}
use Rattle.std.proofs.lemmas.Map.Text.{btree_map_updates_str}
use Rattle.std.specs.BTreeMap.{UpdatesBy, get_by, IsEmpty}
use Rattle.std.specs.Borrow.{Bor}
use Rattle.std.specs.Cmp.Lexicographic.{pointwise, bytes_decides, slice_cmp}
use Rattle.std.specs.Option.{unwrap_or}
use Rattle.std.specs.Ordering.{nat_cmp}
use Rattle.cover_problem.specs.Numbers.{is_in}
use Rattle.cover_problem.specs.Problem.{Problem}
use Rattle.cover_problem.proofs.Repeats.{push_same, push_other}
use Rattle.dlx_reader.specs.OptionIndex.{Index, key_of, entry_at, IsLowestFrom, IsIndexFrom, IsNext, IsEntry, IsIndex, IsUnmeant, IsLowestUnmeant}

-- ---- entries after a change

-- at the key of the change there is the new entry, and at other keys the old one
pub record IsChanged (p : Problem) (old new : Index) (key : List ℕ) (option : ℕ) : Type 0 where
  pub here : entry_at p new key ≡ option
  pub others : (own : List ℕ) → (key ≡ own → ⊥) → entry_at p new own ≡ entry_at p old own

entry_change : (b : Bool) (found : Option ℕ) (option count : ℕ) → unwrap_or (cond b (Some option) found) count ≡ cond b option (unwrap_or found count)
entry_change true found option count = refl
entry_change false found option count = refl

pub changed : (p : Problem) (old new : Index) (key : List ℕ) (option : ℕ) → UpdatesBy (λ (x y : Bor (List ℕ)). slice_cmp nat_cmp x.now y.now) (λ own. slice_cmp nat_cmp key own.now) old new (Some option) → IsChanged p old new key option
changed p old new key option updates =
    let step : (own : List ℕ) → entry_at p new own ≡ cond (pointwise nat_eq key own) option (entry_at p old own) =
    λ own. ap (λ found. unwrap_or found (length p.options)) (btree_map_updates_str key old new (Some option) updates own)
    ∙ entry_change (pointwise nat_eq key own) (get_by (λ key. slice_cmp nat_cmp own key.now) old) option (length p.options) in
    record {
      here = step key ∙ ap (λ b. cond b option (entry_at p old key)) ((bytes_decides key key).1 refl);
      others = λ own other. step own ∙ (elim (cases_Bool (pointwise nat_eq key own)) [
        | inl same ↦ absurd (other ((bytes_decides key own).0 same))
        | inr apart ↦ ap (λ b. cond b option (entry_at p old own)) apart
      ]);
    }

-- ---- the index of all options

pub empty_index : (p : Problem) (index : Index) → IsEmpty index → IsIndexFrom p (length p.options) index
empty_index p index empty key =
    let none : entry_at p index key ≡ length p.options = rw empty refl in
    record {
      at_least = omega (arith, none);
      at_most = omega (arith, none);
      has = λ below. absurd (omega (arith, none, below));
      lowest = λ other from below same. absurd (omega (arith, from, below));
    }

-- one more option, before the others
pub index_more : (p : Problem) (old new : Index) (option : ℕ) → option < length p.options → IsIndexFrom p (option + 1) old → IsChanged p old new (key_of p option) option → IsIndexFrom p option new
index_more p old new option inside behind change key =
    elim (cases_Bool (pointwise nat_eq (key_of p option) key)) [
      | inl equal ↦
          let same = (bytes_decides (key_of p option) key).0 equal in
          let P : List ℕ → Type 0 = λ own. IsLowestFrom p option own (entry_at p new own) in
          let here = change.here in
          subst P same (record {
            at_least = omega (arith, here);
            at_most = omega (arith, here, inside);
            has = λ below. ap (key_of p) here;
            lowest = λ other from below has. omega (arith, here, from);
          })
      | inr apart ↦
          let other_items : key_of p option ≡ key → ⊥ = λ same. both_ways (pointwise nat_eq (key_of p option) key) apart ((bytes_decides (key_of p option) key).1 same) in
          let as_before = change.others key other_items in
          let old_at = behind key in
          record {
            at_least = omega (arith, as_before, old_at.at_least);
            at_most = omega (arith, as_before, old_at.at_most);
            has = λ below. ap (key_of p) as_before ∙ old_at.has (omega (arith, as_before, below));
            lowest = λ other from below has.
                elim (cases_eq other option) [
                  | inl this ↦ absurd (other_items (ap (key_of p) (sym this) ∙ has))
                  | inr later ↦ let behind_it : option + 1 ≤ other = omega (arith, from, later) in omega (arith, as_before, old_at.lowest other behind_it below has)
                ];
          }
    ]

-- ---- the index of the options that no line means

pub nothing_meant : (p : Problem) (index : Index) → IsIndexFrom p 0 index → IsIndex p [] index
nothing_meant p index all key =
    let here = all key in
    record {
      at_most = here.at_most;
      has = here.has;
      below = λ other inside has. sym (le-ltb other (entry_at p index key) (here.lowest other (omega arith) inside has));
    }

-- the entry at a key is the lowest option with it that no line means
pub lowest_unmeant : (p : Problem) (meant key : List ℕ) (option : ℕ) → IsEntry p meant key option → option < length p.options → IsLowestUnmeant p meant key option
lowest_unmeant p meant key option entry inside = record {
  free = record { in_range = inside; unmeant = entry.below option inside (entry.has inside) ∙ le-ltb option option (omega arith); has = entry.has inside };
  lowest = λ other free.
      elim (cases_lt other option) [
        | inl less ↦ absurd (both_ways (is_in meant other) free.unmeant (entry.below other free.in_range free.has ∙ lt-ltb other option less))
        | inr rest ↦ rest
      ];
}

pub none_unmeant : (p : Problem) (meant key : List ℕ) (option : ℕ) → IsEntry p meant key option → length p.options ≤ option → (other : ℕ) → IsUnmeant p meant key other → ⊥
none_unmeant p meant key option entry beyond other free =
    both_ways (is_in meant other) free.unmeant (entry.below other free.in_range free.has ∙ lt-ltb other option (omega (arith, free.in_range, beyond)))

-- one more option is meant, and its key leads to the next one
pub index_taken : (p : Problem) (old new : Index) (meant : List ℕ) (key : List ℕ) (option next : ℕ) → option < length p.options → IsIndex p meant old → entry_at p old key ≡ option → IsNext p option next → IsChanged p old new (key_of p option) next → IsIndex p (meant ++ option ∷ []) new
index_taken p old new meant key option next inside index here following change own =
    let was = index key in
    let named : key_of p option ≡ key = ap (key_of p) (sym here) ∙ was.has (omega (arith, here, inside)) in
    elim (cases_Bool (pointwise nat_eq (key_of p option) own)) [
      | inl equal ↦
          let same = (bytes_decides (key_of p option) own).0 equal in
          let now = change.here in
          let P : List ℕ → Type 0 = λ its. IsEntry p (meant ++ option ∷ []) its (entry_at p new its) in
          subst P same (record {
            at_most = omega (arith, now, following.at_most);
            has = λ below. ap (key_of p) now ∙ following.has (omega (arith, now, below));
            below = λ other within has.
                elim (cases_eq option other) [
                  | inl this ↦
                      ap (is_in (meant ++ option ∷ [])) (sym this) ∙ push_same meant option ∙ sym (lt-ltb other (entry_at p new (key_of p option)) (omega (arith, this, now, following.at_least)))
                  | inr apart ↦
                      push_other meant option other apart ∙ was.below other within (has ∙ named) ∙ ap (nat_lt other) here ∙ (elim (cases_lt other option) [
                        | inl less ↦ lt-ltb other option less ∙ sym (lt-ltb other (entry_at p new (key_of p option)) (omega (arith, less, now, following.at_least)))
                        | inr more ↦
                            let behind : option + 1 ≤ other = omega (arith, more, apart) in
                            le-ltb other option more ∙ sym (le-ltb other (entry_at p new (key_of p option)) (omega (arith, now, following.lowest other behind within has)))
                      ])
                ];
          })
      | inr apart ↦
          let other_items : key_of p option ≡ own → ⊥ = λ same. both_ways (pointwise nat_eq (key_of p option) own) apart ((bytes_decides (key_of p option) own).1 same) in
          let as_before = change.others own other_items in
          let then_at = index own in
          record {
            at_most = omega (arith, as_before, then_at.at_most);
            has = λ below. ap (key_of p) as_before ∙ then_at.has (omega (arith, as_before, below));
            below = λ other within has.
                let differ : option ≡ other → ⊥ = λ same. other_items (ap (key_of p) same ∙ has) in
                push_other meant option other differ ∙ then_at.below other within has ∙ ap (nat_lt other) (sym as_before);
          }
    ]
