-- Going over the live options and the open items one by one.
use Rattle.std.proofs.Common.{◌≡◌, ℕ, suc, ◌+◌, ◌-◌, ◌<◌, ◌≤◌, List, [], ◌∷◌, length, true, false, refl, arith}
use Rattle.cover_problem.specs.Problem.{Problem}
use Rattle.cover_problem.specs.Prefix.{is_covered}
use Rattle.cover_problem.specs.Branching.{is_choice, live_options}
use Rattle.cover_problem.specs.Onward.{live_options_from, open_items_from}
use Rattle.cover_problem.proofs.Basics.{range_step}

pub live_options_from_take : (p : Problem) (xs : List ℕ) (i o : ℕ) → o < length p.options → is_choice p xs i o ≡ true → live_options_from p xs i o ≡ o ∷ live_options_from p xs i (o + 1)
unfolding live_options_from
live_options_from_take p xs i o h t = let e : length p.options - o ≡ suc (length p.options - (o + 1)) = omega arith in rw (range_step o _ _ e, t) refl

pub live_options_from_skip : (p : Problem) (xs : List ℕ) (i o : ℕ) → o < length p.options → is_choice p xs i o ≡ false → live_options_from p xs i o ≡ live_options_from p xs i (o + 1)
unfolding live_options_from
live_options_from_skip p xs i o h t = let e : length p.options - o ≡ suc (length p.options - (o + 1)) = omega arith in rw (range_step o _ _ e, t) refl

pub live_options_from_end : (p : Problem) (xs : List ℕ) (i o : ℕ) → length p.options ≤ o → live_options_from p xs i o ≡ []
unfolding live_options_from
live_options_from_end p xs i o h = let e : length p.options - o ≡ 0 = omega arith in rw e refl

pub open_items_from_take : (p : Problem) (xs : List ℕ) (i : ℕ) → i < p.primary → is_covered p xs i ≡ false → open_items_from p xs i ≡ i ∷ open_items_from p xs (i + 1)
unfolding open_items_from
open_items_from_take p xs i h t = let e : p.primary - i ≡ suc (p.primary - (i + 1)) = omega arith in rw (range_step i _ _ e, t) refl

pub open_items_from_skip : (p : Problem) (xs : List ℕ) (i : ℕ) → i < p.primary → is_covered p xs i ≡ true → open_items_from p xs i ≡ open_items_from p xs (i + 1)
unfolding open_items_from
open_items_from_skip p xs i h t = let e : p.primary - i ≡ suc (p.primary - (i + 1)) = omega arith in rw (range_step i _ _ e, t) refl

pub open_items_from_end : (p : Problem) (xs : List ℕ) (i : ℕ) → p.primary ≤ i → open_items_from p xs i ≡ []
unfolding open_items_from
open_items_from_end p xs i h = let e : p.primary - i ≡ 0 = omega arith in rw e refl

pub live_options_start : (p : Problem) (xs : List ℕ) (i : ℕ) → live_options_from p xs i 0 ≡ live_options p xs i
unfolding live_options_from live_options
live_options_start p xs i = let e : length p.options - 0 ≡ length p.options = omega arith in rw e refl
