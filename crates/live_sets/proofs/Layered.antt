-- Levels one behind the other.
use Rattle.std.proofs.Common.{◌≡◌, ℕ, ◌+◌, ◌-◌, ◌*◌, ◌≤◌, List, ◌++◌, length, take, drop, arith, sym, ap, ◌∙◌, add-one, suc-mul, mul-le-mul_right, length-take-le, length-drop}
use Rattle.std.proofs.Math.Seq.{take-append_seam, drop-append_seam}
use Rattle.std.proofs.lemmas.List.{drop-append-le, take-append-le, drop-take, take_rest}
use Rattle.cover_problem.specs.Problem.{Problem, IsProblem}
use Rattle.option_sets.specs.Sets.{words_of}
use Rattle.live_sets.specs.Levels.{level_at}

-- how far a level goes
pub level_end : (w d : ℕ) → (d + 1) * w ≡ d * w + w
level_end w d = ap (λ n. n * w) (add-one d) ∙ omega (arith, suc-mul d w)

pub level_low : (w e d : ℕ) → e ≤ d → e * w ≤ d * w
level_low w e d le = mul-le-mul_right w le

-- a level that stands in the front part
pub level_front : (w e : ℕ) (xs ys : List ℕ) → e * w + w ≤ length xs → level_at w e (xs ++ ys) ≡ level_at w e xs
level_front w e xs ys inside =
    ap (take w) (drop-append-le (e * w) xs ys (omega (arith, inside))) ∙ take-append-le w (drop (e * w) xs) ys (omega (arith, inside, length-drop (e * w) xs))

-- the level behind it
pub level_back : (w d : ℕ) (xs next ys : List ℕ) → length xs ≡ d * w + w → length next ≡ w → level_at w (d + 1) (xs ++ (next ++ ys)) ≡ next
level_back w d xs next ys front long =
    ap (λ n. take w (drop n (xs ++ (next ++ ys)))) (level_end w d ∙ sym front) ∙ ap (take w) (drop-append_seam xs (next ++ ys))
    ∙ ap (λ n. take n (next ++ ys)) (sym long) ∙ take-append_seam next ys

-- the last level of the front part
pub level_last : (w d : ℕ) (xs front : List ℕ) → front ≡ take (d * w + w) xs → d * w + w ≤ length xs → take (length front - d * w) (drop (d * w) front) ≡ level_at w d xs
level_last w d xs front e inside =
    take_rest front (d * w) ∙ ap (drop (d * w)) e ∙ drop-take (d * w) w xs

-- the first one
pub level_first : (w : ℕ) (xs ys : List ℕ) → length xs ≡ w → level_at w 0 (xs ++ ys) ≡ xs
level_first w xs ys long =
    ap (λ n. take w (drop n (xs ++ ys))) none ∙ ap (λ n. take n (xs ++ ys)) (sym long) ∙ take-append_seam xs ys
  where
    none : 0 * w ≡ 0
    none = omega arith

-- a level has its width
pub level_length : (w d : ℕ) (xs : List ℕ) → d * w + w ≤ length xs → length (level_at w d xs) ≡ w
level_length w d xs inside = length-take-le w (drop (d * w) xs) (omega (arith, inside, length-drop (d * w) xs))

-- how much room all levels take
pub words_few : (p : Problem) → IsProblem p → (p.primary + 1) * words_of p ≤ 1000000
words_few p is = omega (arith, level_low (words_of p) (p.primary + 1) 1001 (omega (arith, is.primary, is.names)), is.options)

pub words_some : (p : Problem) → words_of p ≤ (p.primary + 1) * words_of p
words_some p = omega (arith, level_end (words_of p) p.primary)

pub keys_few : (p : Problem) → IsProblem p → (p.primary + 1) * p.primary ≤ 1002000
keys_few p is = omega (arith, level_low p.primary (p.primary + 1) 1001 (omega (arith, is.primary, is.names)), is.primary, is.names)

pub keys_some : (p : Problem) → p.primary ≤ (p.primary + 1) * p.primary
keys_some p = omega (arith, level_end p.primary p.primary)
