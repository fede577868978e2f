-- Where two problems have the same exact covers and one of them has none, a search of the other finds none.
use Rattle.std.proofs.Common.{◌≡◌, ℕ, List, [], Option, Some, None, refl}
use Rattle.cover_problem.specs.Numbers.{is_in}
use Rattle.cover_problem.specs.Prefix.{IsBarren, IsCoverOver}
use Rattle.cover_problem.specs.Problem.{Problem}
use Rattle.cover_problem.specs.Search.{first}
use Rattle.used_items.specs.Covers.{HaveSameCovers}

pub none_too : (p q : Problem) → ((cover : List ℕ) → first p [] ≡ Some cover → IsCoverOver p [] cover) → IsBarren q [] → HaveSameCovers p q → first p [] ≡ None
none_too p q found barren same = go (first p []) refl
  where
    go : (r : Option (List ℕ)) → first p [] ≡ r → first p [] ≡ None
    go None e = e
    go (Some cover) e = absurd (barren (is_in cover) (same.there (is_in cover) (found cover e).cover) refl)
