-- Tests of each element of a list, with those before it.
use Rattle.std.proofs.Common.{◌≡◌, List, [], ◌∷◌, ◌++◌, Option, Some, None, Result, Ok, Err, Bool, true, false, cond, refl, sym, ap, ◌∙◌, append_assoc, append-nil, map}
use Rattle.std.specs.List.{flat_map}
use Rattle.dlx_reader.specs.Faults.{first_of, placed}
use Rattle.dlx_reader.specs.Reading.{◌>>=◌, after}
use Rattle.dlx_reader.specs.declared.fault.ReadFault.{ReadFault}

-- ---- the first of two lists of tests

abbrev pub or_first : Option ReadFault → Option ReadFault → Option ReadFault
or_first None later = later
or_first (Some fault) later = Some fault

pub first_of-append : (xs ys : List (Bool × ReadFault)) → first_of (xs ++ ys) ≡ or_first (first_of xs) (first_of ys)
first_of-append [] ys = refl
first_of-append (test ∷ xs) ys =
    elim test.0 as (λ b. cond b (Some test.1) (first_of (xs ++ ys)) ≡ or_first (cond b (Some test.1) (first_of xs)) (first_of ys)) [
      | true ↦ refl
      | false ↦ first_of-append xs ys
    ]

-- ---- the fault of a reading

abbrev pub fault_of : {A : Type 0} → Result A ReadFault → Option ReadFault
fault_of (Ok x) = None
fault_of (Err fault) = Some fault

-- a value, unless there is a fault
abbrev pub given : {A : Type 0} → Option ReadFault → A → Result A ReadFault
given None x = Ok x
given (Some fault) x = Err fault

pub after_is : {A : Type 0} (tests : List (Bool × ReadFault)) (x : A) → after tests x ≡ given (first_of tests) x
after_is [] x = refl
after_is (test ∷ tests) x =
    elim test.0 as (λ b. cond b (Err test.1) (after tests x) ≡ given (cond b (Some test.1) (first_of tests)) x) [
      | true ↦ refl
      | false ↦ after_is tests x
    ]

pub fault_of-after : {A : Type 0} (tests : List (Bool × ReadFault)) (x : A) → fault_of (after tests x) ≡ first_of tests
fault_of-after tests x = rw (after_is tests x) (both (first_of tests))
  where
    both : (found : Option ReadFault) → fault_of (given found x) ≡ found
    both None = refl
    both (Some fault) = refl

-- tests, and then a further reading
pub fault_of-then : {A B : Type 0} (tests : List (Bool × ReadFault)) (x : A) (further : A → Result B ReadFault) → fault_of (after tests x >>= further) ≡ or_first (first_of tests) (fault_of (further x))
fault_of-then tests x further = rw (after_is tests x) (both (first_of tests))
  where
    both : (found : Option ReadFault) → fault_of (given found x >>= further) ≡ or_first found (fault_of (further x))
    both None = refl
    both (Some fault) = refl

-- ---- places after a beginning

-- a place, with further elements before it
abbrev pub behind : {X : Type 0} → List X → List X × X → List X × X
behind before place = (before ++ place.0, place.1)

-- each element of a list that stands after a beginning, beside all before it
abbrev pub placed_from : {X : Type 0} → List X → List X → List (List X × X)
placed_from before xs = map (behind before) (placed xs)

placed_further : {X : Type 0} (before : List X) (x : X) (places : List (List X × X)) → map (behind before) (map (behind (x ∷ [])) places) ≡ map (behind (before ++ x ∷ [])) places
placed_further before x [] = refl
placed_further {X} before x (place ∷ places) =
    let same : before ++ x ∷ place.0 ≡ (before ++ x ∷ []) ++ place.0 = sym (append_assoc before (x ∷ []) place.0) in
    rw (same, placed_further before x places) refl

pub placed_from-cons : {X : Type 0} (before : List X) (x : X) (xs : List X) → placed_from before (x ∷ xs) ≡ (before, x) ∷ placed_from (before ++ x ∷ []) xs
placed_from-cons before x xs = rw (append-nil before, placed_further before x (placed xs)) refl

pub placed_from-start : {X : Type 0} (xs : List X) → placed_from [] xs ≡ placed xs
placed_from-start xs = whole (placed xs)
  where
    whole : {X : Type 0} (places : List (List X × X)) → map (behind []) places ≡ places
    whole [] = refl
    whole (place ∷ places) = ap (λ rest. place ∷ rest) (whole places)

-- the tests of one element, and then those of the others
pub first_of-placed : {X : Type 0} (tests : List X × X → List (Bool × ReadFault)) (before : List X) (x : X) (xs : List X) → first_of (flat_map tests (placed_from before (x ∷ xs))) ≡ or_first (first_of (tests (before, x))) (first_of (flat_map tests (placed_from (before ++ x ∷ []) xs)))
first_of-placed tests before x xs = ap (λ places. first_of (flat_map tests places)) (placed_from-cons before x xs) ∙ (first_of-append (tests (before, x)) (flat_map tests (placed_from (before ++ x ∷ []) xs)))
