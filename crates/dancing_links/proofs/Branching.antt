-- The least key is that of the branch item.
use Rattle.std.proofs.Common.{◌≡◌, ℕ, ◌%◌, ◌<◌, ◌≤◌, List, length, get_or, take, refl, arith, sym, ap, ◌∙◌, inl, inr, subst, Option, Some, None, MatchOption, IfSome, ◌-◌}
use Rattle.std.proofs.lemmas.Bool.{cases_lt, cases_Bool}
use Rattle.std.proofs.lemmas.List.{get_or-take, length-take-le}
use Rattle.cover_problem.specs.Branching.{branch_item, IsOpen, IsFirstFewest}
use Rattle.cover_problem.specs.Prefix.{is_covered}
use Rattle.cover_problem.specs.Problem.{Problem}
use Rattle.cover_problem.proofs.Covering.{complete_none_open}
use Rattle.cover_problem.proofs.Fewest.{branch_fewest}
use Rattle.dancing_links.specs.declared.link.Link.{Link}
use Rattle.dancing_links.specs.Choices.{IsLinks}
use Rattle.dancing_links.specs.Columns.{Columns}
use Rattle.dancing_links.specs.Keys.{mark_of, least_from}
use Rattle.dancing_links.proofs.Least.{least_at, least_is}
use Rattle.dancing_links.proofs.Views.{key_is, open_key, open_key_small, item_keyed_in}

-- there is but one
one_fewest : (p : Problem) (os : List ℕ) (i k : ℕ) → IsFirstFewest p os i → IsFirstFewest p os k → k ≡ i
one_fewest p os i k a b = elim (cases_lt k i) [
  | inl less ↦ absurd (omega (arith, a.before k b.open_item less, b.fewest i a.open_item))
  | inr more ↦ elim (cases_lt i k) [
    | inl less ↦ absurd (omega (arith, b.before i a.open_item less, a.fewest k b.open_item))
    | inr low ↦ omega (arith, more, low)
  ]
]

fewest_branch : (p : Problem) (os : List ℕ) (i : ℕ) → IsFirstFewest p os i → branch_item p os ≡ Some i
fewest_branch p os i a = go (branch_item p os) refl
  where
    go : (r : Option ℕ) → branch_item p os ≡ r → branch_item p os ≡ Some i
    go None e = absurd (complete_none_open p os i e a.open_item)
    go (Some k) e = e ∙ ap Some (one_fewest p os i k a (branch_fewest p os k e))

-- what the least key of the primary items says
pub record IsLeast (p : Problem) (os keys : List ℕ) (least : ℕ) : Type 0 where
  pub found : least < 2147483648 → IsFirstFewest p os (least % 65536)
  pub none : 2147483648 ≤ least → branch_item p os ≡ None

pub least_told : (p : Problem) (c : Columns) (os es : List ℕ) (m : List Link) (keys : List ℕ) (room least : ℕ) → IsLinks p c os es m keys room → least ≡ least_from 4294967295 (take p.primary keys) → IsLeast p os keys least
least_told p c os es m keys room least is e =
    let names = is.is_problem.names in
    let room_for = item_keyed_in p c os es m keys room (p.primary - 1) is (omega (arith, is.is_problem.primary, is.is_problem.some_primary)) in
    let long : length (take p.primary keys) ≡ p.primary = length-take-le p.primary keys (omega (arith, room_for)) in
    let under : (j : ℕ) → j < p.primary → least ≤ get_or keys j 0 = (λ j h. omega (arith, e, least_at (take p.primary keys) 4294967295 j (omega (arith, long, h)), get_or-take p.primary keys j 0 h)) in
    let named : (j : ℕ) → j < p.primary → j < length p.names = (λ j h. omega (arith, h, is.is_problem.primary)) in
    record {
      found = λ small.
          let at = least_is (take p.primary keys) 4294967295 (omega (arith, e, small)) in
          let j : ℕ = at.0 in
          let primary : j < p.primary = omega (arith, at.1.0, long) in
          let key : get_or keys j 0 ≡ least = omega (arith, get_or-take p.primary keys j 0 primary, at.1.1, e) in
          elim (cases_Bool (is_covered p os j)) [
            | inl hit ↦ absurd (omega (arith, key_is p c os es m keys room j is (named j primary), ap mark_of hit, key, small))
            | inr free ↦
                let own = open_key p c os es m keys room j is (named j primary) free in
                let P : ℕ → Type 0 = λ i. IsFirstFewest p os i in
                let item : j ≡ least % 65536 = omega (arith, own, key, named j primary, names) in
                subst P item (record {
                  open_item = record { primary = primary; uncovered = free };
                  fewest = λ k o.
                      let other = open_key p c os es m keys room k is (named k o.primary) o.uncovered in
                      omega (arith, under k o.primary, other, own, key, named j primary, named k o.primary, names);
                  before = λ k o less.
                      let other = open_key p c os es m keys room k is (named k o.primary) o.uncovered in
                      omega (arith, under k o.primary, other, own, key, less, named j primary, named k o.primary, names);
                })
          ];
      none = λ marked. go marked (branch_item p os) refl;
    }
  where
    go : 2147483648 ≤ least → (r : Option ℕ) → branch_item p os ≡ r → branch_item p os ≡ None
    go marked None f = f
    go marked (Some k) f =
        let open_item = (branch_fewest p os k f).open_item in
        let names = is.is_problem.names in
        let room_for = item_keyed_in p c os es m keys room (p.primary - 1) is (omega (arith, is.is_problem.primary, is.is_problem.some_primary)) in
        let long : length (take p.primary keys) ≡ p.primary = length-take-le p.primary keys (omega (arith, room_for)) in
        let under = least_at (take p.primary keys) 4294967295 k (omega (arith, long, open_item.primary)) in
        absurd (omega (arith, e, marked, under, get_or-take p.primary keys k 0 open_item.primary, open_key_small p c os es m keys room k is (omega (arith, open_item.primary, is.is_problem.primary)) open_item.uncovered))

-- what the code answers of it
pub told_item : (p : Problem) (os keys : List ℕ) (least : ℕ) (r : Option ℕ) → IsLeast p os keys least → MatchOption r (2147483648 ≤ least) (λ item. (least < 2147483648) × (item ≡ least % 65536)) → r ≡ branch_item p os
told_item p os keys least None is h = sym (is.none h)
told_item p os keys least (Some i) is h = ap Some h.1 ∙ sym (fewest_branch p os (least % 65536) (is.found h.0))

pub told_open : (p : Problem) (os keys : List ℕ) (least : ℕ) (r : Option ℕ) → IsLeast p os keys least → MatchOption r (2147483648 ≤ least) (λ item. (least < 2147483648) × (item ≡ least % 65536)) → IfSome r (IsOpen p os)
told_open p os keys least None is h = tt
told_open p os keys least (Some i) is h = let P : ℕ → Type 0 = λ k. IsOpen p os k in subst P (sym h.1) (is.found h.0).open_item
