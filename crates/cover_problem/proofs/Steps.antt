-- The search of a prefix, step by step.
use Rattle.std.proofs.Common.{◌≡◌, ℕ, zero, suc, ◌+◌, ◌-◌, ◌<◌, ◌≤◌, List, [], ◌∷◌, ◌++◌, length, true, Option, Some, None, refl, arith}
use Rattle.cover_problem.specs.Problem.{Problem}
use Rattle.cover_problem.specs.Branching.{is_choice, live_options, branch_item}
use Rattle.cover_problem.specs.Search.{first_within, visits_within, visits_until}
use Rattle.cover_problem.specs.Onward.{live_options_from, first_among, visits_among}
use Rattle.std.specs.Option.{option_map_or}
use Rattle.cover_problem.proofs.Remaining.{live_options_from_take, live_options_from_end}

pub record Came (p : Problem) (depth : ℕ) (xs : List ℕ) (cover : Option (List ℕ)) (count : ℕ) : Type 0 where
  pub found : first_within p depth xs ≡ cover
  pub visits : visits_within p depth xs ≡ count

pub within_zero : (p : Problem) (depth : ℕ) (xs : List ℕ) → depth ≡ 0 → Came p depth xs (Some xs) 1
unfolding first_within visits_within
within_zero p depth xs e = rw e (record { found = refl; visits = refl })

pub some_visits : (p : Problem) (depth : ℕ) (xs : List ℕ) → 0 < visits_within p depth xs
unfolding visits_within
some_visits p zero xs = omega arith
some_visits p (suc depth) xs = some_at (branch_item p xs) (λ i. visits_until (λ o. first_within p depth (xs ++ o ∷ [])) (λ o. visits_within p depth (xs ++ o ∷ [])) (live_options p xs i))
  where
    some_at : (o : Option ℕ) (f : ℕ → ℕ) → 0 < option_map_or (λ i. 1 + f i) o 1
    some_at None f = omega arith
    some_at (Some i) f = omega arith

pub within_none : (p : Problem) (depth : ℕ) (xs : List ℕ) → branch_item p xs ≡ None → Came p depth xs (Some xs) 1
unfolding first_within visits_within
within_none p zero xs e = record { found = refl; visits = refl }
within_none p (suc depth) xs e = record { found = rw e refl; visits = rw e refl }

pub within_some : (p : Problem) (depth : ℕ) (xs : List ℕ) (i : ℕ) → 0 < depth → branch_item p xs ≡ Some i → Came p depth xs (first_among p (depth - 1) xs (live_options p xs i)) (1 + visits_among p (depth - 1) xs (live_options p xs i))
unfolding first_within visits_within first_among visits_among
within_some p zero xs i pos e = absurd (omega arith)
within_some p (suc depth) xs i pos e = let d : suc depth - 1 ≡ depth = omega arith in record { found = rw (e, d) refl; visits = rw (e, d) refl }

-- what is left of the live_options comes to this
pub record Left (p : Problem) (depth : ℕ) (xs os : List ℕ) (cover : Option (List ℕ)) (count : ℕ) : Type 0 where
  pub found : first_among p depth xs os ≡ cover
  pub visits : visits_among p depth xs os ≡ count

pub left_end : (p : Problem) (depth : ℕ) (xs : List ℕ) (i o : ℕ) → length p.options ≤ o → Left p depth xs (live_options_from p xs i o) None 0
unfolding first_among visits_among
left_end p depth xs i o h = let e = live_options_from_end p xs i o h in record { found = rw e refl; visits = rw e refl }

pub left_barren : (p : Problem) (depth : ℕ) (xs : List ℕ) (i o : ℕ) → o < length p.options → is_choice p xs i o ≡ true → first_within p depth (xs ++ o ∷ []) ≡ None
    → Left p depth xs (live_options_from p xs i o) (first_among p depth xs (live_options_from p xs i (o + 1))) (visits_within p depth (xs ++ o ∷ []) + visits_among p depth xs (live_options_from p xs i (o + 1)))
unfolding first_among visits_among
left_barren p depth xs i o h t none = let e = live_options_from_take p xs i o h t in record { found = rw (e, none) refl; visits = rw (e, none) refl }

pub left_found : (p : Problem) (depth : ℕ) (xs : List ℕ) (i o : ℕ) (cover : List ℕ) → o < length p.options → is_choice p xs i o ≡ true → first_within p depth (xs ++ o ∷ []) ≡ Some cover
    → Left p depth xs (live_options_from p xs i o) (Some cover) (visits_within p depth (xs ++ o ∷ []))
unfolding first_among visits_among
left_found p depth xs i o cover h t some = let e = live_options_from_take p xs i o h t in record { found = rw (e, some) refl; visits = rw (e, some) (omega arith) }

pub left_spent : (p : Problem) (depth : ℕ) (xs : List ℕ) (i o : ℕ) → o < length p.options → is_choice p xs i o ≡ true → visits_within p depth (xs ++ o ∷ []) ≤ visits_among p depth xs (live_options_from p xs i o)
unfolding visits_among
left_spent p depth xs i o h t = let e = live_options_from_take p xs i o h t in rw e (omega arith)
