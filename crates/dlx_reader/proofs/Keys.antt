-- Keys of options, and their two halves.
use Rattle.std.proofs.Common.{◌≡◌, ℕ, zero, suc, ◌<◌, List, [], ◌∷◌, ◌++◌, length, get_or, ap, refl, ◌∙◌, arith, length-append}
use Rattle.cover_problem.specs.Problem.{Problem}
use Rattle.dlx_reader.specs.OptionIndex.{AreKeys, key_of}

-- lists that are as long as what follows them, and make one list with it
pub record SameHalves (first second own other : List ℕ) : Type 0 where
  pub first_same : first ≡ own
  pub second_same : second ≡ other

same_front : (first second own other : List ℕ) → length first ≡ length own → first ++ second ≡ own ++ other → SameHalves first second own other
same_front [] second [] other long same = record { first_same = refl; second_same = same }
same_front [] second (y ∷ own) other long same = absurd (omega (arith, long))
same_front (x ∷ first) second [] other long same = absurd (omega (arith, long))
same_front (x ∷ first) second (y ∷ own) other long same =
    let head : x ≡ y = cc in
    let tail : first ++ second ≡ own ++ other = cc in
    let rest = same_front first second own other (omega (arith, long)) tail in
    record { first_same = ap (λ z. z ∷ first) head ∙ ap (λ zs. y ∷ zs) rest.first_same; second_same = rest.second_same }

pub same_halves : (first second own other : List ℕ) → length second ≡ length first → length other ≡ length own → first ++ second ≡ own ++ other → SameHalves first second own other
same_halves first second own other even balanced same =
    let long : length first ≡ length own = omega (arith, even, balanced, length-append first second, length-append own other, ap length same) in
    same_front first second own other long same

-- the key at an option's place
pub key_at : (p : Problem) (count option : ℕ) (keys : List (List ℕ)) (found : List ℕ) → AreKeys p count keys → option < count → found ≡ get_or keys option found → found ≡ key_of p option
key_at p count option keys found are inside is = is ∙ same keys option (omega (arith, inside, are.long)) ∙ are.each option inside
  where
    same : (lists : List (List ℕ)) (k : ℕ) → k < length lists → get_or lists k found ≡ get_or lists k []
    same [] k h = absurd (omega arith)
    same (x ∷ xs) zero h = refl
    same (x ∷ xs) (suc k) h = same xs k (omega arith)
