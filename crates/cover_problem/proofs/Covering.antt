-- What a search finds is an exact cover that extends the prefix, and where it finds none there is none.
use Rattle.std.proofs.Common.{◌≡◌, ℕ, zero, suc, ◌<◌, ◌≤◌, Bool, true, false, ◌&&◌, ◌==◌, nat_lt, List, [], ◌∷◌, ◌++◌, length, Option, Some, None, refl, sym, ap, ◌∙◌, subst, ⊎_elim, arith}
use Rattle.std.specs.List.{list_all}
use Rattle.std.proofs.lemmas.Option.{same_Some, none-some}
use Rattle.std.proofs.lemmas.List.Folds.{list_all-append}
use Rattle.std.proofs.lemmas.Bool.{eqb-true, eq-eqb, or_cases, or_left, or_right, and_parts, and_from, true≢false, ltb-true}
use Rattle.cover_problem.specs.Problem.{Problem, option_numbers, names_item}
use Rattle.cover_problem.specs.Numbers.{is_in}
use Rattle.cover_problem.specs.ExactCover.{uses, IsExactCover}
use Rattle.cover_problem.specs.Prefix.{extends, IsBarren, are_apart, are_options, is_prefix, is_covered, IsCoverOver}
use Rattle.cover_problem.specs.Branching.{live_options, open_items, fewest_of, branch_item, IsOpen}
use Rattle.cover_problem.specs.Search.{or_else, first_some, first_within, first}
use Rattle.cover_problem.proofs.Among.{all_at, some_with, range_in}
use Rattle.cover_problem.proofs.Sets.{count_positive, count_some}
use Rattle.cover_problem.proofs.Apart.{apart_primary, apart_secondary}
use Rattle.cover_problem.proofs.Prefixes.{open_in, branch_is_open, branch_open, open_fewer, open_few, prefix_more}
use Rattle.cover_problem.proofs.Extending.{split_options}
use Rattle.cover_problem.proofs.Steps.{within_none}
use Rattle.cover_problem.proofs.Unbounded.{choice_at, empty, within_suc}

module _ (problem : Problem) where
  prefix_in_range : (xs : List ℕ) → are_options problem xs ≡ true → (o : ℕ) → is_in xs o ≡ true → o < length problem.options
  prefix_in_range xs h o i = ltb-true o (length problem.options) (all_at (λ x. nat_lt x (length problem.options)) xs o h i)

  -- ---- complete prefixes

  never_none : (xs is : List ℕ) (best : ℕ) → fewest_of problem xs (Some best) is ≡ None → ⊥
  never_none xs [] best e = none-some best (sym e)
  never_none xs (i ∷ is) best e = never_none xs is _ e

  none_open : (xs is : List ℕ) → fewest_of problem xs None is ≡ None → is ≡ []
  none_open xs [] e = refl
  none_open xs (i ∷ is) e = absurd (never_none xs is i e)

  pub complete_none_open : (prefix : List ℕ) (item : ℕ) → branch_item problem prefix ≡ None → IsOpen problem prefix item → ⊥
  unfolding branch_item
  complete_none_open prefix item e o =
      true≢false (sym (open_in problem prefix item o) ∙ ap (λ is. is_in is item) (none_open prefix (open_items problem prefix) e))

  covered_all : (prefix : List ℕ) → branch_item problem prefix ≡ None → (item : ℕ) → item < problem.primary → is_covered problem prefix item ≡ true
  covered_all prefix e item l = go (is_covered problem prefix item) refl
    where
      go : (b : Bool) → is_covered problem prefix item ≡ b → is_covered problem prefix item ≡ true
      go true q = q
      go false q = absurd (complete_none_open prefix item e (record { primary = l; uncovered = q }))

  pub complete_is_cover : (prefix : List ℕ) → is_prefix problem prefix ≡ true → branch_item problem prefix ≡ None → IsExactCover problem (is_in prefix)
  complete_is_cover prefix h e = record { in_range = prefix_in_range prefix parts.0; primary = primary; secondary = λ item high. apart_secondary problem prefix parts.1 item }
    where
      parts : (are_options problem prefix ≡ true) × (are_apart problem prefix ≡ true)
      parts = and_parts (are_options problem prefix) (are_apart problem prefix) h

      primary : (item : ℕ) → item < problem.primary → uses problem (is_in prefix) item ≡ 1
      primary item l =
          let w = some_with (λ o. names_item problem o item) prefix (covered_all prefix e item l) in
          let high = prefix_in_range prefix parts.0 w.0 w.1 in
          let least = count_positive (λ o. is_in prefix o && names_item problem o item) (option_numbers problem) w.0 (range_in 0 (length problem.options) w.0 (omega arith) (omega (arith, high))) (and_from _ _ w.1 w.2) in
          let most = apart_primary problem prefix parts.1 item l in
          omega (arith, least, most)

  -- ---- the search

  pub first_witness : (f : ℕ → Option (List ℕ)) (os : List ℕ) (x : List ℕ) → first_some f os ≡ Some x → (o : ℕ) × (is_in os o ≡ true) × (f o ≡ Some x)
  first_witness f [] x e = absurd (none-some x e)
  first_witness f (o ∷ os) x e = go (f o) refl e (λ q. first_witness f os x q)
    where
      go : (r : Option (List ℕ)) → f o ≡ r → or_else r (first_some f os) ≡ Some x → (first_some f os ≡ Some x → (a : ℕ) × (is_in os a ≡ true) × (f a ≡ Some x)) → (a : ℕ) × (is_in (o ∷ os) a ≡ true) × (f a ≡ Some x)
      go None q e' later = let w = later e' in (w.0, or_right (o == w.0) (is_in os w.0) w.1, w.2)
      go (Some z) q e' later = (o, or_left (o == o) (is_in os o) (eq-eqb o o refl), q ∙ e')

  first_missing : (f : ℕ → Option (List ℕ)) (os : List ℕ) → first_some f os ≡ None → (o : ℕ) → is_in os o ≡ true → f o ≡ None
  first_missing f [] e o i = absurd (true≢false (sym i))
  first_missing f (x ∷ os) e o i = go (f x) refl e (λ q a j. first_missing f os q a j)
    where
      go : (r : Option (List ℕ)) → f x ≡ r → or_else r (first_some f os) ≡ None → (first_some f os ≡ None → (a : ℕ) → is_in os a ≡ true → f a ≡ None) → f o ≡ None
      go (Some z) q e' later = absurd (none-some z (sym e'))
      go None q e' later =
          ⊎_elim
          (λ (s : (x == o) ≡ true). ap f (sym (eqb-true x o s)) ∙ q)
          (λ (j : is_in os o ≡ true). later e' o j)
          (or_cases (x == o) (is_in os o) i)

  self_in : (xs : List ℕ) → extends (is_in xs) xs ≡ true
  self_in xs = all_of xs xs (λ o i. i)
    where
      all_of : (ys xs : List ℕ) → ((o : ℕ) → is_in ys o ≡ true → is_in xs o ≡ true) → list_all (is_in xs) ys ≡ true
      all_of [] xs h = refl
      all_of (y ∷ ys) xs h = and_from _ _ (h y (or_left (y == y) _ (eq-eqb y y refl))) (all_of ys xs (λ o i. h o (or_right (y == o) _ i)))

  some_open : (xs : List ℕ) (i : ℕ) → branch_item problem xs ≡ Some i → length (open_items problem xs) ≤ 0 → ⊥
  some_open xs i h l = true≢false (sym (branch_open problem xs i h) ∙ ap (λ is. is_in is i) (empty (open_items problem xs) l))

  complete_found : (depth : ℕ) (prefix x : List ℕ) → is_prefix problem prefix ≡ true → branch_item problem prefix ≡ None → first_within problem depth prefix ≡ Some x → IsCoverOver problem prefix x
  complete_found depth prefix x h b e =
      let same : prefix ≡ x = same_Some prefix x (sym (within_none problem depth prefix b).found ∙ e) in
      subst (λ y. IsCoverOver problem prefix y) same (record { cover = complete_is_cover prefix h b; over = self_in prefix })

  finds_within : (depth : ℕ) (prefix x : List ℕ) → is_prefix problem prefix ≡ true → length (open_items problem prefix) ≤ depth → first_within problem depth prefix ≡ Some x → IsCoverOver problem prefix x
  finds_within zero prefix x h few e = go (branch_item problem prefix) refl
    where
      go : (b : Option ℕ) → branch_item problem prefix ≡ b → IsCoverOver problem prefix x
      go None b = complete_found zero prefix x h b e
      go (Some i) b = absurd (some_open prefix i b few)
  finds_within (suc depth) prefix x h few e = go (branch_item problem prefix) refl (λ o h' few' e'. finds_within depth (prefix ++ o ∷ []) x h' few' e')
    where
      go : (b : Option ℕ) → branch_item problem prefix ≡ b
          → ((o : ℕ) → is_prefix problem (prefix ++ o ∷ []) ≡ true → length (open_items problem (prefix ++ o ∷ [])) ≤ depth → first_within problem depth (prefix ++ o ∷ []) ≡ Some x → IsCoverOver problem (prefix ++ o ∷ []) x)
          → IsCoverOver problem prefix x
      go None b below = complete_found (suc depth) prefix x h b e
      go (Some i) b below =
          let w = first_witness (λ o. first_within problem depth (prefix ++ o ∷ [])) (live_options problem prefix i) x (sym (within_suc problem depth prefix i b).found ∙ e) in
          let c = choice_at problem prefix i w.0 w.1 in
          let less = open_fewer problem prefix i w.0 b c.choice in
          let r = below w.0 (prefix_more problem prefix i w.0 h c.within c.choice) (omega (arith, less, few)) w.2 in
          let over = and_parts (list_all (is_in x) prefix) (is_in x w.0 && true) (sym (list_all-append (is_in x) prefix (w.0 ∷ [])) ∙ r.over) in
          record { cover = r.cover; over = over.0 }

  barren_within : (depth : ℕ) (prefix : List ℕ) → length (open_items problem prefix) ≤ depth → first_within problem depth prefix ≡ None → IsBarren problem prefix
  barren_within zero prefix few e = go (branch_item problem prefix) refl
    where
      go : (b : Option ℕ) → branch_item problem prefix ≡ b → IsBarren problem prefix
      go None b = absurd (none-some prefix (sym e ∙ (within_none problem zero prefix b).found))
      go (Some i) b = absurd (some_open prefix i b few)
  barren_within (suc depth) prefix few e = go (branch_item problem prefix) refl (λ o few' e'. barren_within depth (prefix ++ o ∷ []) few' e')
    where
      go : (b : Option ℕ) → branch_item problem prefix ≡ b
          → ((o : ℕ) → length (open_items problem (prefix ++ o ∷ [])) ≤ depth → first_within problem depth (prefix ++ o ∷ []) ≡ None → IsBarren problem (prefix ++ o ∷ []))
          → IsBarren problem prefix
      go None b below = absurd (none-some prefix (sym e ∙ (within_none problem (suc depth) prefix b).found))
      go (Some i) b below = λ chosen cover ext.
          let one = split_options problem chosen cover prefix i (branch_is_open problem prefix i b) ext in
          let w = count_some (λ o. extends chosen (prefix ++ o ∷ [])) (live_options problem prefix i) (omega (arith, one)) in
          let c = choice_at problem prefix i w.0 w.1 in
          let less = open_fewer problem prefix i w.0 b c.choice in
          let none = first_missing (λ o. first_within problem depth (prefix ++ o ∷ [])) (live_options problem prefix i) (sym (within_suc problem depth prefix i b).found ∙ e) w.0 w.1 in
          below w.0 (omega (arith, less, few)) none chosen cover w.2

  pub first_covers : (prefix x : List ℕ) → is_prefix problem prefix ≡ true → first problem prefix ≡ Some x → IsCoverOver problem prefix x
  first_covers prefix x h e = finds_within problem.primary prefix x h (open_few problem prefix) e

  pub none_barren : (prefix : List ℕ) → first problem prefix ≡ None → IsBarren problem prefix
  none_barren prefix e = barren_within problem.primary prefix (open_few problem prefix) e
