-- The first test that holds.
use Rattle.std.proofs.Common.{◌≡◌, List, [], ◌∷◌, Some, None, Ok, Err, Bool, true, false, cond, refl}
use Rattle.dlx_reader.specs.Faults.{first_of}
use Rattle.dlx_reader.specs.Reading.{after}
use Rattle.dlx_reader.specs.declared.fault.ReadFault.{ReadFault}

-- none of the tests holds
abbrev pub Fails : List (Bool × ReadFault) → Type 0
Fails [] = Unit {0}
Fails (test ∷ tests) = (test.0 ≡ false) × Fails tests

pub fails_from_none : (tests : List (Bool × ReadFault)) → first_of tests ≡ None → Fails tests
fails_from_none [] h = tt
fails_from_none (test ∷ tests) h =
    (elim test.0 as (λ b. cond b (Some test.1) (first_of tests) ≡ None → (b ≡ false) × Fails tests) [
      | true ↦ λ e. absurd (cc)
      | false ↦ λ e. (refl, fails_from_none tests e)
    ]) h

pub none_from_fails : (tests : List (Bool × ReadFault)) → Fails tests → first_of tests ≡ None
none_from_fails [] h = refl
none_from_fails (test ∷ tests) h = rw h.0 (none_from_fails tests h.1)

pub after_ok : {A : Type 0} (tests : List (Bool × ReadFault)) (x y : A) → after tests x ≡ Ok y → (x ≡ y) × Fails tests
after_ok [] x y h = (cc, tt)
after_ok (test ∷ tests) x y h =
    (elim test.0 as (λ b. cond b (Err test.1) (after tests x) ≡ Ok y → (x ≡ y) × ((b ≡ false) × Fails tests)) [
      | true ↦ λ e. absurd (cc)
      | false ↦ λ e. let rest = after_ok tests x y e in (rest.0, (refl, rest.1))
    ]) h
