-- Lists that grow by one element at a time, and lists that are made by functions.
use Rattle.std.proofs.Common.{◌≡◌, ℕ, ◌+◌, ◌<◌, ◌≤◌, List, [], ◌∷◌, ◌++◌, length, map, get_or, take, refl, sym, ap, ◌∙◌, arith}
use Rattle.std.specs.List.{range_with_len}
use Rattle.std.proofs.lemmas.List.{length-map, take_all, take_more}
use Rattle.std.proofs.lemmas.List.FromFn.{map-range_with_len_more}
use Rattle.cover_problem.specs.Problem.{Problem, IsProblem}

-- by what a function says of the next number
pub one_more : {X : Type 0} (f : ℕ → X) (now new : List X) (k : ℕ) (x : X) → now ≡ map f (range_with_len 0 k) → new ≡ now ++ x ∷ [] → x ≡ f k → new ≡ map f (range_with_len 0 (k + 1))
one_more f now new k x was is next =
    is ∙ ap (λ xs. xs ++ x ∷ []) was ∙ ap (λ y. map f (range_with_len 0 k) ++ y ∷ []) next ∙ sym (map-range_with_len_more f 0 k k (omega arith))

-- by the next element of another list
pub one_more_of : {X : Type 0} (xs now new : List X) (k : ℕ) (d x : X) → k < length xs → now ≡ take k xs → new ≡ now ++ x ∷ [] → x ≡ get_or xs k d → new ≡ take (k + 1) xs
one_more_of xs now new k d x inside was is next =
    is ∙ ap (λ ys. ys ++ x ∷ []) was ∙ ap (λ y. take k xs ++ y ∷ []) next ∙ sym (take_more xs k d inside)

pub all_of : {X : Type 0} (xs now : List X) (k : ℕ) → length xs ≤ k → now ≡ take k xs → now ≡ xs
all_of xs now k whole was = was ∙ take_all k xs whole

pub colours_count : (p : Problem) → IsProblem p → length p.colours ≡ length p.options
colours_count p lawful = sym (length-map p.colours length) ∙ ap length lawful.each_coloured ∙ length-map p.options length

-- lists that two functions make as long as each other
pub as_long : (f g : ℕ → List ℕ) (os : List ℕ) → ((o : ℕ) → length (f o) ≡ length (g o)) → map length (map f os) ≡ map length (map g os)
as_long f g [] each = refl
as_long f g (o ∷ os) each = rw (each o, as_long f g os each) refl
