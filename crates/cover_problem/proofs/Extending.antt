-- Each exact cover that extends a prefix extends exactly one child of it.
use Rattle.std.proofs.Common.{◌≡◌, ℕ, Bool, true, false, ◌&&◌, List, [], ◌∷◌, ◌++◌, count_by, Some, refl, sym, ap, ◌∙◌}
use Rattle.std.specs.List.{list_any, list_all}
use Rattle.std.proofs.lemmas.Bool.{or_parts, and_parts, and_from, true≢false, not_from_false}
use Rattle.std.proofs.lemmas.List.Folds.{list_all-append}
use Rattle.cover_problem.specs.Problem.{Problem, option_numbers, names_item}
use Rattle.cover_problem.specs.ExactCover.{IsExactCover}
use Rattle.cover_problem.specs.Prefix.{extends, clash, is_live, is_covered}
use Rattle.cover_problem.specs.Branching.{live_options, branch_item, children_at, children, IsOpen}
use Rattle.cover_problem.proofs.Apart.{chosen_apart}
use Rattle.cover_problem.proofs.Sets.{count_filter, count_map, count_same}
use Rattle.cover_problem.proofs.Prefixes.{branch_is_open}

module _ (problem : Problem) (chosen : ℕ → Bool) (cover : IsExactCover problem chosen) where
  off_item : (item p o : ℕ) → chosen p ≡ true → chosen o ≡ true → names_item problem p item ≡ false → names_item problem o item ≡ true → clash problem p o ≡ false
  off_item item p o cp co np on_it = chosen_apart problem chosen cover p o cp co (λ same. true≢false (sym on_it ∙ ap (λ x. names_item problem x item) (sym same) ∙ np))

  live_by : (prefix : List ℕ) (item o : ℕ) → extends chosen prefix ≡ true → is_covered problem prefix item ≡ false → chosen o ≡ true → names_item problem o item ≡ true → is_live problem prefix o ≡ true
  live_by [] item o e u co on_it = refl
  live_by (p ∷ ps) item o e u co on_it =
      let h = and_parts (chosen p) (list_all chosen ps) e in
      let v = or_parts (names_item problem p item) (list_any (λ q. names_item problem q item) ps) u in
      and_from _ _ (not_from_false _ (off_item item p o h.0 co v.0 on_it)) (live_by ps item o h.1 v.1 co on_it)

  child_test : (prefix : List ℕ) (item o : ℕ) → extends chosen prefix ≡ true → is_covered problem prefix item ≡ false
      → ((is_live problem prefix o && names_item problem o item) && extends chosen (prefix ++ o ∷ [])) ≡ (chosen o && names_item problem o item)
  child_test prefix item o e u = cell (chosen o) (names_item problem o item) refl refl
    where
      cell : (c n : Bool) → chosen o ≡ c → names_item problem o item ≡ n → ((is_live problem prefix o && names_item problem o item) && extends chosen (prefix ++ o ∷ [])) ≡ (chosen o && names_item problem o item)
      cell true true ec en =
          let ext : extends chosen (prefix ++ o ∷ []) ≡ true = list_all-append chosen prefix (o ∷ []) ∙ and_from _ _ e (and_from (chosen o) true ec refl) in
          and_from _ _ (and_from _ _ (live_by prefix item o e u ec en) en) ext ∙ sym (and_from _ _ ec en)
      cell true false ec en = ap (λ b. (is_live problem prefix o && b) && extends chosen (prefix ++ o ∷ [])) en ∙ none (is_live problem prefix o) ∙ sym (ap (λ b. chosen o && b) en ∙ and_off (chosen o))
        where
          and_off : (b : Bool) → (b && false) ≡ false
          and_off true = refl
          and_off false = refl

          none : (b : Bool) → ((b && false) && extends chosen (prefix ++ o ∷ [])) ≡ false
          none true = refl
          none false = refl
      cell false n ec en =
          ap (λ b. (is_live problem prefix o && names_item problem o item) && b) (list_all-append chosen prefix (o ∷ []) ∙ ap (λ b. list_all chosen prefix && (b && true)) ec ∙ and_off (list_all chosen prefix))
          ∙ and_off (is_live problem prefix o && names_item problem o item) ∙ sym (ap (λ b. b && names_item problem o item) ec)
        where
          and_off : (b : Bool) → (b && false) ≡ false
          and_off true = refl
          and_off false = refl

  -- of the live options of an uncovered primary item the cover has exactly one
  pub split_options : (prefix : List ℕ) (item : ℕ) → IsOpen problem prefix item → extends chosen prefix ≡ true → count_by (λ o. extends chosen (prefix ++ o ∷ [])) (live_options problem prefix item) ≡ 1
  unfolding live_options
  split_options prefix item at e =
      count_filter (λ o. extends chosen (prefix ++ o ∷ [])) (λ o. is_live problem prefix o && names_item problem o item) (option_numbers problem)
      ∙ (count_same _ (λ o. chosen o && names_item problem o item) (option_numbers problem) (λ o i. child_test prefix item o e at.uncovered)
      ∙ cover.primary item at.primary)

  pub split_count : (prefix : List ℕ) (item : ℕ) → branch_item problem prefix ≡ Some item → extends chosen prefix ≡ true → count_by (extends chosen) (children problem prefix) ≡ 1
  split_count prefix item b e =
      ap (λ o. count_by (extends chosen) (children_at problem prefix o)) b
      ∙ (count_map (extends chosen) (λ o. prefix ++ o ∷ []) (live_options problem prefix item)
      ∙ split_options prefix item (branch_is_open problem prefix item b) e)
