-- The children of a prefix are prefixes, and so is what a search finds, which has an option.
use Rattle.std.proofs.Common.{◌≡◌, ℕ, zero, suc, ◌≤◌, true, ◌&&◌, ◌==◌, List, [], ◌∷◌, ◌++◌, length, map, Option, Some, None, refl, sym, ◌∙◌, subst, arith}
use Rattle.std.specs.List.{AllByRecursion}
use Rattle.std.proofs.lemmas.Bool.{eq-eqb, or_left, or_right, true≢false}
use Rattle.std.proofs.lemmas.Option.{same_Some}
use Rattle.cover_problem.specs.Branching.{branch_item, children, children_at, live_options}
use Rattle.cover_problem.specs.ExactCover.{IsExactCover}
use Rattle.cover_problem.specs.Numbers.{is_in}
use Rattle.cover_problem.specs.Prefix.{is_prefix}
use Rattle.cover_problem.specs.Problem.{IsProblem, Problem, names_item, option_numbers}
use Rattle.cover_problem.specs.Search.{first, first_within}
use Rattle.cover_problem.proofs.Covering.{first_covers, first_witness}
use Rattle.cover_problem.proofs.Prefixes.{prefix_more, prefix_short}
use Rattle.cover_problem.proofs.Sets.{count_some}
use Rattle.cover_problem.proofs.Steps.{within_none, within_zero}
use Rattle.cover_problem.proofs.Unbounded.{choice_at, within_suc}

pub few_options : (problem : Problem) (prefix : List ℕ) → IsProblem problem → is_prefix problem prefix ≡ true → length prefix ≤ 1000
few_options problem prefix p h =
    let short = prefix_short problem prefix p h in
    let primary = p.primary in
    let names = p.names in
    omega (arith, short, primary, names)

module _ (problem : Problem) where
  abbrev pub ArePrefixes : List (List ℕ) → Type 0
  ArePrefixes prefixes = AllByRecursion (λ p. is_prefix problem p ≡ true) prefixes

  each_child : (prefix os : List ℕ) → ((o : ℕ) → is_in os o ≡ true → is_prefix problem (prefix ++ o ∷ []) ≡ true) → ArePrefixes (map (λ o. prefix ++ o ∷ []) os)
  each_child prefix [] f = tt
  each_child prefix (o ∷ os) f = (f o (or_left (o == o) (is_in os o) (eq-eqb o o refl)), each_child prefix os (λ p at. f p (or_right (o == p) (is_in os p) at)))

  pub children_prefixes : (prefix : List ℕ) → is_prefix problem prefix ≡ true → ArePrefixes (children problem prefix)
  children_prefixes prefix h = go (branch_item problem prefix)
    where
      go : (b : Option ℕ) → ArePrefixes (children_at problem prefix b)
      go None = tt
      go (Some i) = each_child prefix (live_options problem prefix i) (λ o at.
          let c = choice_at problem prefix i o at in
          prefix_more problem prefix i o h c.within c.choice)

  itself : (prefix x : List ℕ) → is_prefix problem prefix ≡ true → Some prefix ≡ Some x → is_prefix problem x ≡ true
  itself prefix x h e = subst (λ y. is_prefix problem y ≡ true) (same_Some prefix x e) h

  found_within : (depth : ℕ) (prefix x : List ℕ) → is_prefix problem prefix ≡ true → first_within problem depth prefix ≡ Some x → is_prefix problem x ≡ true
  found_within zero prefix x h e = itself prefix x h (sym (within_zero problem 0 prefix refl).found ∙ e)
  found_within (suc depth) prefix x h e = go (branch_item problem prefix) refl (λ o h' e'. found_within depth (prefix ++ o ∷ []) x h' e')
    where
      go : (b : Option ℕ) → branch_item problem prefix ≡ b
          → ((o : ℕ) → is_prefix problem (prefix ++ o ∷ []) ≡ true → first_within problem depth (prefix ++ o ∷ []) ≡ Some x → is_prefix problem x ≡ true)
          → is_prefix problem x ≡ true
      go None b below = itself prefix x h (sym (within_none problem (suc depth) prefix b).found ∙ e)
      go (Some i) b below =
          let w = first_witness problem (λ o. first_within problem depth (prefix ++ o ∷ [])) (live_options problem prefix i) x (sym (within_suc problem depth prefix i b).found ∙ e) in
          let c = choice_at problem prefix i w.0 w.1 in
          below w.0 (prefix_more problem prefix i w.0 h c.within c.choice) w.2

  pub found_prefix : (prefix x : List ℕ) → is_prefix problem prefix ≡ true → first problem prefix ≡ Some x → is_prefix problem x ≡ true
  found_prefix prefix x h e = found_within problem.primary prefix x h e

  some_option : (x : List ℕ) → 1 ≤ problem.primary → IsExactCover problem (is_in x) → 1 ≤ length x
  some_option [] some cover =
      let one = cover.primary 0 (omega (arith, some)) in
      let w = count_some (λ o. is_in [] o && names_item problem o 0) (option_numbers problem) (omega (arith, one)) in
      absurd (true≢false (sym w.2))
  some_option (o ∷ os) some cover = omega arith

  pub found_option : (prefix x : List ℕ) → IsProblem problem → is_prefix problem prefix ≡ true → first problem prefix ≡ Some x → 1 ≤ length x
  found_option prefix x p h e = some_option x p.some_primary (first_covers problem prefix x h e).cover
