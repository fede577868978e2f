-- Numbers of keys, while keys are added.
use Rattle.std.proofs.Common.{◌≡◌, ℕ, ◌+◌, ◌<◌, false, List, [], ◌∷◌, ◌++◌, length, get_or, take, Some, None, refl, sym, ap, ◌∙◌, inl, inr, arith, subst}
use Rattle.std.specs.BTreeMap.{BTreeMap, get, UpdatesBy, is_at}
use Rattle.std.specs.Map.{lookup}
use Rattle.std.specs.Ordering.{nat_cmp}
use Rattle.std.specs.Option.{unwrap_or}
use Rattle.std.proofs.lemmas.Bool.{cases_eq, cases_lt, ne_eqb, lt-ltb, le-ltb}
use Rattle.std.proofs.lemmas.List.{length_push, get_or_push, get_or_append_left, get_or-take, length-take-le}
use Rattle.std.proofs.lemmas.Option.{none-some}
use Rattle.cover_problem.specs.Problem.{Problem, items_of, colours_of}
use Rattle.option_sets.specs.Tints.{key_of, key_at, AreApart, IsNumbering, Extends, IsNumberOf, AreNumbers}

other_key : (k q : ℕ) → (q ≡ k → ⊥) → is_at (nat_cmp k) q ≡ false
other_key k q ne = elim (cases_lt k q) [
  | inl low ↦ rw (lt-ltb k q low) refl
  | inr high ↦ rw (le-ltb k q high, ne_eqb k q (λ e. ne (sym e))) refl
]

some_same : {m n : ℕ} → Some m ≡ Some n → m ≡ n
some_same {m} {n} e = ap (λ o. unwrap_or o 0) e

pub apart_by : (keys : List ℕ) (index : BTreeMap ℕ ℕ) → IsNumbering keys index → AreApart keys
apart_by keys index by m n low high same =
    some_same (sym (by.found m low) ∙ ap (get nat_cmp index) same ∙ by.found n high)

-- a map of which the entries stayed
pub numbering_same : (keys keys' : List ℕ) (index after : BTreeMap ℕ ℕ) → keys ≡ keys' → after.entries ≡ index.entries → IsNumbering keys index → IsNumbering keys' after
numbering_same keys keys' index after e f by =
    let same : (q : ℕ) → get nat_cmp after q ≡ get nat_cmp index q = λ q. ap (λ es. lookup (is_at (nat_cmp q)) es) f in
    rw (← e) (record {
      known = λ q n h. by.known q n (sym (same q) ∙ h);
      found = λ n low. same (key_at keys n) ∙ by.found n low;
      some = by.some;
      plain = by.plain;
    })

module _ (keys : List ℕ) (index after : BTreeMap ℕ ℕ) (key : ℕ) (by : IsNumbering keys index) (fresh : get nat_cmp index key ≡ None)
    (updates : UpdatesBy nat_cmp (nat_cmp key) index after (Some (length keys))) where
  stays : (q : ℕ) → (q ≡ key → ⊥) → get nat_cmp after q ≡ get nat_cmp index q
  stays q ne = updates.2 q (other_key key q ne)

  pub numbered_more : IsNumbering (keys ++ key ∷ []) after
  numbered_more =
      let long = length_push keys key in
      let last : key_at (keys ++ key ∷ []) (length keys) ≡ key = get_or_push keys key 0 (length keys) refl in
      record {
        known = λ q n h. elim (cases_eq q key) [
          | inl e ↦
              let is : n ≡ length keys = some_same (sym (rw e at h) ∙ updates.1) in
              rw (is, e) (omega (arith, long), last)
          | inr d ↦
              let old = by.known q n (sym (stays q d) ∙ h) in
              (omega (arith, long, old.0), get_or_append_left keys (key ∷ []) 0 n old.0 ∙ old.1)
        ];
        found = λ n low. elim (cases_lt n (length keys)) [
          | inl inside ↦
              let same : key_at (keys ++ key ∷ []) n ≡ key_at keys n = get_or_append_left keys (key ∷ []) 0 n inside in
              let old = by.found n inside in
              rw same (stays (key_at keys n) (λ e. none-some n (sym fresh ∙ ap (get nat_cmp index) (sym e) ∙ old)) ∙ old)
          | inr past ↦
              let is : n ≡ length keys = omega (arith, long, low, past) in
              rw (is, last) updates.1
        ];
        some = omega (arith, long);
        plain = get_or_append_left keys (key ∷ []) 0 0 by.some ∙ by.plain;
      }

pub extends_more : (keys : List ℕ) (key : ℕ) → Extends keys (keys ++ key ∷ [])
extends_more keys key = record { longer = omega (arith, length_push keys key); same = λ n low. get_or_append_left keys (key ∷ []) 0 n low }

pub extends_on : (a b c : List ℕ) → Extends a b → Extends b c → Extends a c
extends_on a b c h g = record { longer = omega (arith, h.longer, g.longer); same = λ n low. g.same n (omega (arith, low, h.longer)) ∙ h.same n low }

pub number_kept : (a b : List ℕ) (key n : ℕ) → Extends a b → IsNumberOf a key n → IsNumberOf b key n
number_kept a b key n h own = (omega (arith, own.0, h.longer), h.same n own.0 ∙ own.1)

pub numbers_kept : (a b items colours tints : List ℕ) → Extends a b → AreNumbers a items colours tints → AreNumbers b items colours tints
numbers_kept a b items colours tints h own = record { long = own.long; each = λ k low. number_kept a b _ _ h (own.each k low) }

number_same : (keys : List ℕ) (i i' c c' n n' : ℕ) → i ≡ i' → c ≡ c' → n ≡ n' → IsNumberOf keys (key_of i c) n → IsNumberOf keys (key_of i' c') n'
number_same keys i i' c c' n n' e f g h =
    subst (λ (z : ℕ). IsNumberOf keys (key_of i' c') z) g (subst (λ (z : ℕ). IsNumberOf keys (key_of i' z) n) f (subst (λ (z : ℕ). IsNumberOf keys (key_of z c) n) e h))

-- one more number
pub numbers_more : (a b items colours tints : List ℕ) (k number : ℕ) → k < length items → length colours ≡ length items → Extends a b
    → AreNumbers a (take k items) (take k colours) tints → IsNumberOf b (key_of (get_or items k 0) (get_or colours k 0)) number
    → AreNumbers b (take (k + 1) items) (take (k + 1) colours) (tints ++ number ∷ [])
numbers_more a b items colours tints k number inside long h own new =
    let count : length (take (k + 1) items) ≡ k + 1 = length-take-le (k + 1) items (omega arith) in
    let before : length (take k items) ≡ k = length-take-le k items (omega arith) in
    record {
      long = omega (arith, length_push tints number, count, before, own.long);
      each = λ j low.
          let low' : j < k + 1 = omega (arith, low, count) in
          elim (cases_lt j k) [
            | inl old ↦ number_same b (get_or (take k items) j 0) (get_or (take (k + 1) items) j 0) (get_or (take k colours) j 0) (get_or (take (k + 1) colours) j 0) (get_or tints j 0) (get_or (tints ++ number ∷ []) j 0)
                (get_or-take k items j 0 old ∙ sym (get_or-take (k + 1) items j 0 low')) (get_or-take k colours j 0 old ∙ sym (get_or-take (k + 1) colours j 0 low'))
                (sym (get_or_append_left tints (number ∷ []) 0 j (omega (arith, own.long, before, old))))
                (number_kept a b _ _ h (own.each j (omega (arith, old, before))))
            | inr past ↦
                let is : k ≡ j = omega (arith, past, low') in
                number_same b (get_or items k 0) (get_or (take (k + 1) items) j 0) (get_or colours k 0) (get_or (take (k + 1) colours) j 0) number (get_or (tints ++ number ∷ []) j 0)
                (ap (λ m. get_or items m 0) is ∙ sym (get_or-take (k + 1) items j 0 low')) (ap (λ m. get_or colours m 0) is ∙ sym (get_or-take (k + 1) colours j 0 low'))
                (sym (get_or_push tints number 0 j (omega (arith, own.long, before, is)))) new
          ];
    }

-- ---- all options in turn

pub record AreTintsTo (problem : Problem) (n : ℕ) (keys : List ℕ) (lists : List (List ℕ)) : Type 0 where
  pub long : length lists ≡ n
  pub each : (o : ℕ) → o < n → AreNumbers keys (items_of problem o) (colours_of problem o) (get_or lists o [])

pub tints_more : (problem : Problem) (n : ℕ) (a b : List ℕ) (lists : List (List ℕ)) (tints : List ℕ) → Extends a b → AreTintsTo problem n a lists
    → AreNumbers b (items_of problem n) (colours_of problem n) tints → AreTintsTo problem (n + 1) b (lists ++ tints ∷ [])
tints_more problem n a b lists tints h own new = record {
  long = omega (arith, length_push lists tints, own.long);
  each = λ o low. elim (cases_lt o n) [
    | inl old ↦ rw (get_or_append_left lists (tints ∷ []) [] o (omega (arith, old, own.long))) (numbers_kept a b _ _ _ h (own.each o old))
    | inr past ↦ let is : o ≡ n = omega (arith, past, low) in rw (is, get_or_push lists tints [] n own.long) new
  ];
}
