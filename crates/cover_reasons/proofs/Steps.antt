-- One step of a sum that is kept modulo a number.
use Rattle.std.proofs.Common.{◌≡◌, ℕ, ◌+◌, ◌%◌, ◌<◌, List, length, get_or, take, sym, ap, ◌∙◌}
use Rattle.std.proofs.lemmas.List.Sums.{sum_by_more}
use Rattle.std.proofs.Math.Nat.{mod-add-mod}
use Rattle.std.specs.List.{sum_by}

pub weighed_more : (f : ℕ → ℕ) (xs : List ℕ) (k m n a b : ℕ) → k < length xs → a ≡ sum_by f (take k xs) % m → b ≡ f (get_or xs k 0) → n ≡ m → (a + b) % n ≡ sum_by f (take (k + 1) xs) % m
weighed_more f xs k m n a b inside before more same =
    ap (λ d. (a + b) % d) same ∙ ap (λ s. (s + b) % m) before ∙ mod-add-mod (sum_by f (take k xs)) m b ∙ ap (λ s. (sum_by f (take k xs) + s) % m) more ∙ ap (λ s. s % m) (sym (sum_by_more f xs k 0 inside))
