-- The lines of the items so far, and one more.
use Rattle.std.proofs.Common.{◌≡◌, ℕ, zero, suc, ◌+◌, ◌<◌, ◌≤◌, List, [], ◌∷◌, ◌++◌, length, get_or, take, sym, ap, ◌∙◌, arith}
use Rattle.std.proofs.lemmas.List.{append_assoc, flat_map_more, take_all, take_more}
use Rattle.std.specs.List.{flat_map, range_with_len}

range_more : (a n : ℕ) → range_with_len a (suc n) ≡ range_with_len a n ++ (a + n) ∷ []
range_more a zero = let same : a ≡ a + 0 = omega arith in ap (λ k. k ∷ []) same
range_more a (suc n) = let same : a + 1 + n ≡ a + suc n = omega arith in ap (λ l. a ∷ l) (range_more (a + 1) n ∙ ap (λ k. range_with_len (a + 1) n ++ k ∷ []) same)

range_next : (k : ℕ) → range_with_len 0 (k + 1) ≡ range_with_len 0 k ++ k ∷ []
range_next k =
    let count : k + 1 ≡ suc k = omega arith in
    let last : 0 + k ≡ k = omega arith in
    ap (range_with_len 0) count ∙ range_more 0 k ∙ ap (λ n. range_with_len 0 k ++ n ∷ []) last

pub lines_more : (f : ℕ → List ℕ) (before now new : List ℕ) (k : ℕ) → now ≡ before ++ flat_map f (range_with_len 0 k) → new ≡ now ++ f k → new ≡ before ++ flat_map f (range_with_len 0 (k + 1))
lines_more f before now new k was is =
    is ∙ ap (λ xs. xs ++ f k) was ∙ flat_map_more f before (range_with_len 0 k) k ∙ ap (λ xs. before ++ flat_map f xs) (sym (range_next k))

-- the pieces of the first elements of a list, and one more
pub pieces_more : {X : Type 0} (f : X → List ℕ) (before now new : List ℕ) (xs : List X) (k : ℕ) (d : X) → k < length xs → now ≡ before ++ flat_map f (take k xs) → new ≡ now ++ f (get_or xs k d) → new ≡ before ++ flat_map f (take (k + 1) xs)
pieces_more f before now new xs k d inside was is =
    is ∙ ap (λ ys. ys ++ f (get_or xs k d)) was ∙ flat_map_more f before (take k xs) (get_or xs k d) ∙ ap (λ ys. before ++ flat_map f ys) (sym (take_more xs k d inside))

pub all_pieces : {X : Type 0} (f : X → List ℕ) (before now : List ℕ) (xs : List X) (k : ℕ) → length xs ≤ k → now ≡ before ++ flat_map f (take k xs) → now ≡ before ++ flat_map f xs
all_pieces f before now xs k whole was = was ∙ ap (λ ys. before ++ flat_map f ys) (take_all k xs whole)

-- ---- a text that grows by pieces

pub two_pieces : (old a b now new : List ℕ) → now ≡ old ++ a → new ≡ now ++ b → new ≡ old ++ (a ++ b)
two_pieces old a b now new was is = is ∙ ap (λ xs. xs ++ b) was ∙ append_assoc old a b

pub four_pieces : (old a b c d first second third new : List ℕ) → first ≡ old ++ a → second ≡ first ++ b → third ≡ second ++ c → new ≡ third ++ d → new ≡ old ++ (((a ++ b) ++ c) ++ d)
four_pieces old a b c d first second third new one two three is =
    two_pieces old ((a ++ b) ++ c) d third new (two_pieces old (a ++ b) c second third (two_pieces old a b first second one two) three) is
