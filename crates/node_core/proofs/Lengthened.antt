-- Prefixes with one option more.
use Rattle.std.proofs.Common.{◌≡◌, ℕ, ◌<◌, ◌≤◌, Bool, true, false, nat_lt, List, [], ◌∷◌, ◌++◌, length, refl, sym, ◌∙◌, true≢false, arith}
use Rattle.std.proofs.lemmas.Bool.{and_parts, false_from_ne_true, ltb-true}
use Rattle.std.proofs.lemmas.List.Folds.{list_all-append}
use Rattle.cover_problem.specs.Prefix.{are_apart, are_options, is_live, is_prefix}
use Rattle.cover_problem.specs.Problem.{IsProblem, Problem}
use Rattle.cover_problem.proofs.Fronts.{last_live, prefix_front, prefix_push}

pub not_before : (p : Problem) (xs : List ℕ) (o : ℕ) → is_prefix p xs ≡ false → is_prefix p (xs ++ o ∷ []) ≡ false
not_before p xs o e = false_from_ne_true (is_prefix p (xs ++ o ∷ [])) (λ h. true≢false (sym (prefix_front p xs (o ∷ []) h) ∙ e))

pub no_option : (p : Problem) (xs : List ℕ) (o : ℕ) → length p.options ≤ o → is_prefix p (xs ++ o ∷ []) ≡ false
no_option p xs o high =
    false_from_ne_true (is_prefix p (xs ++ o ∷ [])) (λ h.
    let options = sym (list_all-append (λ x. nat_lt x (length p.options)) xs (o ∷ [])) ∙ (and_parts (are_options p (xs ++ o ∷ [])) (are_apart p (xs ++ o ∷ [])) h).0 in
    let last = (and_parts (nat_lt o (length p.options)) true (and_parts (are_options p xs) (are_options p (o ∷ [])) options).1).0 in
    let low = ltb-true o (length p.options) last in
    absurd (omega (arith, low, high)))

pub live_longer : (p : Problem) (xs : List ℕ) (o : ℕ) → IsProblem p → is_prefix p xs ≡ true → o < length p.options → is_live p xs o ≡ is_prefix p (xs ++ o ∷ [])
live_longer p xs o is prefix low = by (is_live p xs o) refl
  where
    by : (b : Bool) → is_live p xs o ≡ b → b ≡ is_prefix p (xs ++ o ∷ [])
    by true h = sym (prefix_push p xs o is prefix low h)
    by false h = sym (false_from_ne_true (is_prefix p (xs ++ o ∷ [])) (λ q. true≢false (sym (last_live p xs o q) ∙ h)))
