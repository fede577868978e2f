-- The least key of a level gives its branch item.
use Rattle.std.proofs.Common.{◌≡◌, ℕ, ◌+◌, ◌*◌, ◌%◌, ◌<◌, ◌≤◌, List, length, get_or, set, false, nat_lt, refl, arith, sym, ap, ◌∙◌, inl, inr, Option, Some, None, if◌then◌else◌}
use Rattle.std.proofs.lemmas.Bool.{cases_lt, cases_eq, cases_Bool, both_ways, lt-ltb, le-ltb}
use Rattle.std.proofs.lemmas.List.{get_or-set_same, get_or-set_other, length-set}
use Rattle.cover_problem.specs.Branching.{branch_item, live_options, IsFirstFewest}
use Rattle.cover_problem.specs.Prefix.{is_covered}
use Rattle.cover_problem.specs.Problem.{Problem}
use Rattle.cover_problem.proofs.Covering.{complete_none_open}
use Rattle.cover_problem.proofs.Fewest.{branch_fewest}
use Rattle.live_sets.specs.Counting.{AreMarked, IsCounted, AreKeys}

-- there is but one first of the fewest
one_fewest : (p : Problem) (os : List ℕ) (i k : ℕ) → IsFirstFewest p os i → IsFirstFewest p os k → k ≡ i
one_fewest p os i k a b = elim (cases_lt k i) [
  | inl less ↦ absurd (omega (arith, a.before k b.open_item less, b.fewest i a.open_item))
  | inr more ↦ elim (cases_lt i k) [
    | inl less ↦ absurd (omega (arith, b.before i a.open_item less, a.fewest k b.open_item))
    | inr low ↦ omega (arith, more, low)
  ]
]

pub fewest_branch : (p : Problem) (os : List ℕ) (i : ℕ) → IsFirstFewest p os i → branch_item p os ≡ Some i
fewest_branch p os i a = go (branch_item p os) refl
  where
    go : (r : Option ℕ) → branch_item p os ≡ r → branch_item p os ≡ Some i
    go None e = absurd (complete_none_open p os i e a.open_item)
    go (Some k) e = e ∙ ap Some (one_fewest p os i k a (branch_fewest p os k e))

-- the keys of the items below a number are counted, and this is the least of them; none of these items is without an option
pub record AreCounted (p : Problem) (prefix keys : List ℕ) (n least : ℕ) : Type 0 where
  pub marked : AreMarked p prefix keys
  pub counted : (item : ℕ) → item < n → IsCounted p prefix item (get_or keys item 0)
  pub some : 65536 ≤ least
  pub under : (item : ℕ) → item < n → is_covered p prefix item ≡ false → least ≤ get_or keys item 0
  pub found : least < 2147483648 → (item : ℕ) × (item < n) × (is_covered p prefix item ≡ false) × (get_or keys item 0 ≡ least)

pub none_counted : (p : Problem) (prefix keys : List ℕ) → AreMarked p prefix keys → AreCounted p prefix keys 0 4294967295
none_counted p prefix keys marked = record {
  marked = marked;
  counted = λ item low. absurd (omega (arith, low));
  some = omega arith;
  under = λ item low. absurd (omega (arith, low));
  found = λ few. absurd (omega (arith, few));
}

module _ (p : Problem) (prefix keys : List ℕ) (n least : ℕ) (before : AreCounted p prefix keys n least) (inside : n < p.primary) where
  -- an item that is covered is passed
  pub covered_counted : 2147483648 ≤ get_or keys n 0 → AreCounted p prefix keys (n + 1) least
  covered_counted high =
      let own = before.marked.each n inside in
      let shut : is_covered p prefix n ≡ false → ⊥ = λ e. omega (arith, high, own.uncovered e) in
      record {
        marked = before.marked;
        counted = λ item low e. elim (cases_lt item n) [
          | inl less ↦ before.counted item less e
          | inr more ↦ let is : item ≡ n = omega (arith, low, more) in absurd (shut (ap (is_covered p prefix) (sym is) ∙ e))
        ];
        some = before.some;
        under = λ item low e. elim (cases_lt item n) [
          | inl less ↦ before.under item less e
          | inr more ↦ let is : item ≡ n = omega (arith, low, more) in absurd (shut (ap (is_covered p prefix) (sym is) ∙ e))
        ];
        found = λ few. let at = before.found few in (at.0, omega (arith, at.1), at.2, at.3);
      }

  module _ (key : ℕ) (low : get_or keys n 0 < 2147483648) (own : key ≡ n + 65536 * length (live_options p prefix n)) (small : key < 2147483648) where
    bare : is_covered p prefix n ≡ false
    bare = elim (cases_Bool (is_covered p prefix n)) [
      | inl hit ↦ absurd (omega (arith, low, (before.marked.each n inside).covered hit))
      | inr free ↦ free
    ]

    here : get_or (set keys n key) n 0 ≡ key
    here = get_or-set_same keys n key 0 (omega (arith, inside, before.marked.count))

    there : (item : ℕ) → (item ≡ n → ⊥) → get_or (set keys n key) item 0 ≡ get_or keys item 0
    there item other = get_or-set_other keys n item key 0 other

    marks : AreMarked p prefix (set keys n key)
    marks = record {
      count = length-set keys n key ∙ before.marked.count;
      each = λ item primary. elim (cases_eq item n) [
        | inl e ↦ rw (e, here) (record { covered = λ hit. absurd (both_ways (is_covered p prefix n) bare hit); uncovered = λ free. small })
        | inr d ↦ rw (there item d) (before.marked.each item primary)
      ];
    }

    counts : (item : ℕ) → item < n + 1 → IsCounted p prefix item (get_or (set keys n key) item 0)
    counts item more = elim (cases_eq item n) [
      | inl e ↦ rw (e, here) (λ free. own)
      | inr d ↦ rw (there item d) (before.counted item (omega (arith, more, d)))
    ]

    -- one that is open and has options is counted
    pub open_counted : (new : ℕ) → 65536 ≤ key → new ≡ (if nat_lt key least then key else least) → AreCounted p prefix (set keys n key) (n + 1) new
    open_counted new some is = elim (cases_lt key least) [
      | inl less ↦
          let lower : new ≡ key = is ∙ ap (λ b. if b then key else least) (lt-ltb key least less) in
          rw lower (record {
            marked = marks;
            counted = counts;
            some = some;
            under = λ item more free. elim (cases_eq item n) [
              | inl e ↦ rw (e, here) (omega arith)
              | inr d ↦ omega (arith, there item d, before.under item (omega (arith, more, d)) free, less)
            ];
            found = λ few. (n, omega arith, bare, here);
          })
      | inr more-is ↦
          let same : new ≡ least = is ∙ ap (λ b. if b then key else least) (le-ltb key least more-is) in
          rw same (record {
            marked = marks;
            counted = counts;
            some = before.some;
            under = λ item more free. elim (cases_eq item n) [
              | inl e ↦ rw (e, here) more-is
              | inr d ↦ omega (arith, there item d, before.under item (omega (arith, more, d)) free)
            ];
            found = λ few.
                let at = before.found few in
                (at.0, omega (arith, at.1), at.2, there at.0 (λ e. omega (arith, e, at.1)) ∙ at.3);
          })
    ]

    -- and one that is open and has none is the branch item
    pub branch_without_options : key < 65536 → n < 65536 → AreKeys p prefix (set keys n key) key
    branch_without_options none few = record {
      marked = marks;
      counted = λ some. absurd (omega (arith, some, none));
      branch =
          let nothing : length (live_options p prefix n) ≡ 0 = omega (arith, own, none) in
          let item : key % 65536 ≡ n = omega (arith, own, nothing, few) in
          let first : IsFirstFewest p prefix n = record {
            open_item = record { primary = inside; uncovered = bare };
            fewest = λ other open_other. omega (arith, nothing);
            before = λ other open_other less.
                let at = before.counted other less open_other.uncovered in
                omega (arith, nothing, at, before.under other less open_other.uncovered, before.some, few, less);
          } in
          fewest_branch p prefix n first ∙ sym (ap (λ b. if b then Some (key % 65536) else None) (lt-ltb key 2147483648 small) ∙ ap Some item);
    }

-- once all items are counted
pub keys_are : (p : Problem) (prefix keys : List ℕ) (least : ℕ) → p.primary ≤ 65536 → AreCounted p prefix keys p.primary least → AreKeys p prefix keys least
keys_are p prefix keys least few all = record {
  marked = all.marked;
  counted = λ some item inside. all.counted item inside;
  branch = elim (cases_lt least 2147483648) [
    | inl low ↦
        let at = all.found low in
        let j : ℕ = at.0 in
        let own : get_or keys j 0 ≡ j + 65536 * length (live_options p prefix j) = all.counted j at.1 at.2 in
        let item : least % 65536 ≡ j = omega (arith, own, at.3, at.1, few) in
        let first : IsFirstFewest p prefix j = record {
          open_item = record { primary = at.1; uncovered = at.2 };
          fewest = λ other open_other.
              let its = all.counted other open_other.primary open_other.uncovered in
              omega (arith, own, at.3, its, all.under other open_other.primary open_other.uncovered, at.1, open_other.primary, few);
          before = λ other open_other less.
              let its = all.counted other open_other.primary open_other.uncovered in
              omega (arith, own, at.3, its, all.under other open_other.primary open_other.uncovered, at.1, less, few);
        } in
        fewest_branch p prefix j first ∙ sym (ap (λ b. if b then Some (least % 65536) else None) (lt-ltb least 2147483648 low) ∙ ap Some item)
    | inr high ↦ nothing (branch_item p prefix) refl high ∙ sym (ap (λ b. if b then Some (least % 65536) else None) (le-ltb least 2147483648 high))
  ];
}
  where
    nothing : (r : Option ℕ) → branch_item p prefix ≡ r → 2147483648 ≤ least → branch_item p prefix ≡ None
    nothing None e high = e
    nothing (Some k) e high =
        let open_item = (branch_fewest p prefix k e).open_item in
        absurd (omega (arith, high, all.under k open_item.primary open_item.uncovered, (all.marked.each k open_item.primary).uncovered open_item.uncovered))
