-- The branch item has fewest live options in its half of the items, and no more than that of the other half.
use Rattle.std.proofs.Common.{◌≡◌, ℕ, ◌+◌, ◌%◌, ◌<◌, ◌≤◌, List, length, true, Option, Some, None, if◌then◌else◌, refl, arith, sym, ap, ◌∙◌, inl, inr}
use Rattle.std.proofs.lemmas.Bool.{cases_lt, both_ways, lt-ltb}
use Rattle.cover_problem.specs.Branching.{branch_item, live_options, IsFirstFewest, IsOpen}
use Rattle.cover_problem.specs.Prefix.{is_covered}
use Rattle.cover_problem.specs.Problem.{Problem}
use Rattle.cover_problem.proofs.Fewest.{branch_fewest}
use Rattle.live_sets.specs.Counting.{item_of}
use Rattle.live_sets.specs.Planes.{IsFewestOf}
use Rattle.live_sets.proofs.Keying.{fewest_branch}

fewest_item : (p : Problem) (prefix : List ℕ) (item : ℕ) → item < 128 → IsFirstFewest p prefix item → branch_item p prefix ≡ item_of item
fewest_item p prefix item inside is =
    let small : item < 2147483648 = omega (arith, inside) in
    let low : item % 65536 ≡ item = omega (arith, inside) in
    fewest_branch p prefix item is ∙ sym (ap (λ b. if b then Some (item % 65536) else None) (lt-ltb item 2147483648 small) ∙ ap Some low)

pub low_item : (p : Problem) (prefix : List ℕ) (item count : ℕ) → IsFewestOf p prefix 0 item count
    → ((other : ℕ) → 64 ≤ other → IsOpen p prefix other → count ≤ length (live_options p prefix other)) → branch_item p prefix ≡ item_of item
low_item p prefix item count is high = fewest_item p prefix item (omega (arith, is.inside)) (record {
  open_item = is.is_open;
  fewest = λ other o. elim (cases_lt other 64) [
    | inl less ↦ omega (arith, is.counted, is.fewest other (omega arith) (omega (arith, less)) o)
    | inr more ↦ omega (arith, is.counted, high other more o)
  ];
  before = λ other o less. omega (arith, is.counted, is.before other (omega arith) less o);
})

pub high_item : (p : Problem) (prefix : List ℕ) (item count : ℕ) → p.primary ≤ 128 → IsFewestOf p prefix 64 item count
    → ((other : ℕ) → other < 64 → IsOpen p prefix other → count < length (live_options p prefix other)) → branch_item p prefix ≡ item_of item
high_item p prefix item count few is low = fewest_item p prefix item (omega (arith, is.inside)) (record {
  open_item = is.is_open;
  fewest = λ other o. elim (cases_lt other 64) [
    | inl less ↦ omega (arith, is.counted, low other less o)
    | inr more ↦ omega (arith, is.counted, is.fewest other more (omega (arith, o.primary, few)) o)
  ];
  before = λ other o less. elim (cases_lt other 64) [
    | inl front ↦ omega (arith, is.counted, low other front o)
    | inr more ↦ omega (arith, is.counted, is.before other more less o)
  ];
})

-- an item of a half in which none is uncovered
pub none_open : (p : Problem) (prefix : List ℕ) (first other : ℕ) → ((o : ℕ) → first ≤ o → o < first + 64 → o < p.primary → is_covered p prefix o ≡ true)
    → first ≤ other → other < first + 64 → IsOpen p prefix other → ⊥
none_open p prefix first other none from inside o = both_ways (is_covered p prefix other) o.uncovered (none other from inside o.primary)

pub no_item : (p : Problem) (prefix : List ℕ) → ((other : ℕ) → IsOpen p prefix other → ⊥) → branch_item p prefix ≡ None
no_item p prefix none = go (branch_item p prefix) refl
  where
    go : (r : Option ℕ) → branch_item p prefix ≡ r → branch_item p prefix ≡ None
    go None e = e
    go (Some k) e = absurd (none k (branch_fewest p prefix k e).open_item)
