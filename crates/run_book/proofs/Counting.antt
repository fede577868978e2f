-- Places in a log, of which none is counted twice.
use Rattle.std.proofs.Common.{◌≡◌, ◌≢◌, ℕ, eq-eqb, ne_eqb, zero, suc, ◌+◌, ◌<◌, ◌≤◌, List, [], ◌∷◌, ◌++◌, length, Some, Bool, refl, ap, ◌∙◌, arith}
use Rattle.std.proofs.lemmas.List.{length-map, map-append}
use Rattle.std.specs.Prelude.{slice_get, if◌then◌else◌, ◌==◌}
use mathlib.Core.Logic.{dite}
use native.Mathlib.Decide.{ℕ_discrete}
use Rattle.cover_problem.proofs.Basics.{get_front}
use Rattle.run_book.specs.Entries.{Entry, Placed}
use Rattle.run_book.specs.Places.{AllStand, AreBelow, places, times}

abbrev one_if : Bool → ℕ
one_if b = if b then 1 else 0

pub hit : (x y : ℕ) → x ≡ y → one_if (x == y) ≡ 1
hit x y e = ap one_if (eq-eqb x y e)

pub miss : (x y : ℕ) → x ≢ y → one_if (x == y) ≡ 0
miss x y n = ap one_if (ne_eqb x y n)

pub times_append : (k : ℕ) (xs ys : List ℕ) → times k (xs ++ ys) ≡ times k xs + times k ys
times_append k [] ys = omega arith
times_append k (x ∷ xs) ys = let r = times_append k xs ys in omega arith

-- one place more is counted
pub times_push : (k : ℕ) (ts : List Placed) (t : Placed) → times k (places (ts ++ t ∷ [])) ≡ times k (places ts) + times k (t.place ∷ [])
times_push k ts t = ap (times k) (map-append (λ p. p.place) ts (t ∷ [])) ∙ times_append k (places ts) (t.place ∷ [])

pub get_below : (xs : List Entry) (k : ℕ) (p : Entry) → slice_get xs k ≡ Some p → k < length xs
get_below [] k p e = absurd (cc)
get_below (x ∷ xs) zero p e = omega arith
get_below (x ∷ xs) (suc k) p e = let r = get_below xs k p e in omega arith

pub get_last : (xs : List Entry) (x : Entry) → slice_get (xs ++ x ∷ []) (length xs) ≡ Some x
get_last [] x = refl
get_last (y ∷ xs) x = get_last xs x

pub stand_front : (log more : List Entry) (ts : List Placed) → AllStand log ts → AllStand (log ++ more) ts
stand_front log more [] s = tt
stand_front log more (t ∷ ts) s = (get_front log more t.place t.entry s.0, stand_front log more ts s.1)

pub stand_push : (log : List Entry) (ts : List Placed) (t : Placed) → AllStand log ts → slice_get log t.place ≡ Some t.entry → AllStand log (ts ++ t ∷ [])
stand_push log [] t s e = (e, tt)
stand_push log (x ∷ ts) t s e = (s.0, stand_push log ts t s.1 e)

pub stand_below : (log : List Entry) (ts : List Placed) (k : ℕ) → AllStand log ts → 0 < times k (places ts) → k < length log
stand_below log [] k s some = absurd (omega arith)
stand_below log (t ∷ ts) k s some =
    dite (ℕ_discrete k t.place)
    (λ (e : k ≡ t.place). let b = get_below log t.place t.entry s.0 in omega arith)
    (λ (n : k ≢ t.place). let m = miss k t.place n in stand_below log ts k s.1 (omega arith))

-- how many of the list are below n
abbrev within : ℕ → List ℕ → ℕ
within zero xs = 0
within (suc n) xs = within n xs + times n xs

abbrev AllBelow : ℕ → List ℕ → Type 0
AllBelow n [] = Unit {0}
AllBelow n (x ∷ xs) = (x < n) × AllBelow n xs

places_below : (log : List Entry) (ts : List Placed) → AllStand log ts → AllBelow (length log) (places ts)
places_below log [] s = tt
places_below log (t ∷ ts) s = (get_below log t.place t.entry s.0, places_below log ts s.1)

within_none : (n : ℕ) → within n [] ≡ 0
within_none zero = refl
within_none (suc n) = let r = within_none n in omega arith

within_far : (n x : ℕ) (xs : List ℕ) → n ≤ x → within n (x ∷ xs) ≡ within n xs
within_far zero x xs h = refl
within_far (suc n) x xs h = let r = within_far n x xs (omega arith) in let m = miss n x (λ e. absurd (omega arith)) in omega arith

within_more : (n x : ℕ) (xs : List ℕ) → x < n → within n (x ∷ xs) ≡ suc (within n xs)
within_more zero x xs h = absurd (omega arith)
within_more (suc n) x xs h =
    dite (ℕ_discrete n x)
    (λ (e : n ≡ x). let r = within_far n x xs (omega arith) in let m = hit n x e in omega arith)
    (λ (d : n ≢ x). let r = within_more n x xs (omega arith) in let m = miss n x d in omega arith)

within_all : (n : ℕ) (xs : List ℕ) → AllBelow n xs → within n xs ≡ length xs
within_all n [] h = within_none n
within_all n (x ∷ xs) h = let r = within_all n xs h.1 in let m = within_more n x xs h.0 in omega arith

within_most : (n : ℕ) (xs : List ℕ) → ((k : ℕ) → times k xs ≤ 1) → within n xs ≤ n
within_most zero xs h = omega arith
within_most (suc n) xs h = let r = within_most n xs h in let m = h n in omega arith

full : (n : ℕ) (xs : List ℕ) → ((k : ℕ) → times k xs ≤ 1) → n ≤ within n xs → (k : ℕ) → k < n → times k xs ≡ 1
full zero xs h most k low = absurd (omega arith)
full (suc n) xs h most k low =
    let w = within_most n xs h in let m = h n in
    dite (ℕ_discrete k n)
    (λ (e : k ≡ n). ap (λ j. times j xs) e ∙ omega arith)
    (λ (d : k ≢ n). full n xs h (omega arith) k (omega arith))

-- as many places as there are entries, none twice, are those of the entries
pub are_below : (log : List Entry) (ts : List Placed) → ((k : ℕ) → times k (places ts) ≤ 1) → AllStand log ts → length log ≤ length ts
    → AreBelow (length log) (places ts)
are_below log ts once stand enough =
    let xs : List ℕ = places ts in
    let n : ℕ = length log in
    let a = within_all n xs (places_below log ts stand) in
    let m = within_most n xs once in
    let l = length-map ts (λ p. p.place) in record {
      many = omega arith;
      once = full n xs once (omega arith);
    }
