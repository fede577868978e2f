-- Reading fields one after the other, as a loop does.
use Rattle.std.proofs.Common.{◌≡◌, ℕ, suc, ◌-◌, ◌+◌, ◌≤◌, ◌<◌, Bool, List, [], ◌∷◌, ◌++◌, Ok, Err, refl, sym, ap, ◌∙◌, append_assoc, arith}
use Rattle.std.proofs.lemmas.List.{append-nil}
use Rattle.packet_wire.specs.declared.fault.WireFault.{WireFault}
use Rattle.packet_wire.specs.declared.fault.WireFault.TheVariants.{Field, Memory}
use Rattle.packet_wire.specs.Reading.{◌>>=◌, Read, field_at, fields_at}

-- what was read before, and what is still read
abbrev pub with_front : List ℕ → Read (List ℕ) → Read (List ℕ)
with_front front read = read >>= λ x. Ok (front ++ x.0, x.1)

regroup : (front : List ℕ) (n : ℕ) (read : Read (List ℕ)) → with_front front (read >>= λ x. Ok (n ∷ x.0, x.1)) ≡ with_front (front ++ n ∷ []) read
regroup front n (Ok x) = ap (λ (ns : List ℕ). Ok (ns, x.1)) (simp append_assoc)
regroup front n (Err f) = refl

pub goes_on : (width : ℕ) (test : ℕ → Bool) (front : List ℕ) (count i : ℕ) (bytes : List ℕ) (n : ℕ) (after : List ℕ) (total : Read (List ℕ)) → i < count → field_at width test Field bytes ≡ Ok (n, after)
    → with_front front (fields_at width test (count - i) bytes) ≡ total → with_front (front ++ n ∷ []) (fields_at width test (count - (i + 1)) after) ≡ total
unfolding fields_at
goes_on width test front count i bytes n after total lt h so_far =
    let k : count - i ≡ suc (count - (i + 1)) = omega arith in
    let one : with_front front (fields_at width test (count - i) bytes) ≡ with_front (front ++ n ∷ []) (fields_at width test (count - (i + 1)) after) = rw (k, h) (regroup front n (fields_at width test (count - (i + 1)) after)) in
    sym one ∙ so_far

pub ends : (width : ℕ) (test : ℕ → Bool) (e : WireFault) (front : List ℕ) (count i : ℕ) (bytes : List ℕ) (total : Read (List ℕ)) → i < count → ((e ≡ Memory → ⊥) → field_at width test Field bytes ≡ Err e)
    → with_front front (fields_at width test (count - i) bytes) ≡ total → (e ≡ Memory → ⊥) → total ≡ Err e
unfolding fields_at
ends width test e front count i bytes total lt step so_far known =
    let h = step known in
    let k : count - i ≡ suc (count - (i + 1)) = omega arith in
    let one : with_front front (fields_at width test (count - i) bytes) ≡ Err e = rw (k, h) refl in
    sym so_far ∙ one

pub is_done : (width : ℕ) (test : ℕ → Bool) (front : List ℕ) (count i : ℕ) (bytes : List ℕ) (total : Read (List ℕ)) → count ≤ i → with_front front (fields_at width test (count - i) bytes) ≡ total → total ≡ Ok (front, bytes)
unfolding fields_at
is_done width test front count i bytes total le so_far =
    let k : count - i ≡ 0 = omega arith in
    let one : with_front front (fields_at width test (count - i) bytes) ≡ Ok (front, bytes) = rw k (ap (λ (ns : List ℕ). Ok (ns, bytes)) (append-nil front)) in
    sym so_far ∙ one
