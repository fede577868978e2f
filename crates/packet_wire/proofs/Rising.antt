-- Children one after the other, as loops read and check them.
use Rattle.std.proofs.Common.{◌≡◌, ℕ, suc, ◌-◌, ◌+◌, ◌≤◌, ◌<◌, true, false, ◌&&◌, List, [], ◌∷◌, ◌++◌, length, get_or, drop, Option, Some, None, Ok, Err, refl, sym, ap, ◌∙◌, append_assoc, arith}
use Rattle.std.proofs.lemmas.List.{append-nil, at_drop_all, at_drop_more}
use Rattle.packet_wire.specs.Reading.{◌>>=◌, Read, sibling_at, siblings_at}
use Rattle.packet_wire.specs.WellFormed.{are_siblings, is_sibling}
use Rattle.packet_wire.specs.declared.fault.WireFault.{WireFault}
use Rattle.packet_wire.specs.declared.fault.WireFault.TheVariants.{Memory}
use Rattle.spawn_frame.specs.declared.siblings.Sibling.{Sibling}

-- what was read before, and what is still read
abbrev pub behind : List Sibling → Read (List Sibling) → Read (List Sibling)
behind front read = read >>= λ x. Ok (front ++ x.0, x.1)

regroup : (front : List Sibling) (s : Sibling) (read : Read (List Sibling)) → behind front (read >>= λ x. Ok (s ∷ x.0, x.1)) ≡ behind (front ++ s ∷ []) read
regroup front s (Ok x) = ap (λ (ns : List Sibling). Ok (ns, x.1)) (simp append_assoc)
regroup front s (Err f) = refl

pub goes_on : (last : Option ℕ) (front : List Sibling) (count i : ℕ) (bytes : List ℕ) (s : Sibling) (after : List ℕ) (total : Read (List Sibling)) → i < count → sibling_at last bytes ≡ Ok (s, after)
    → behind front (siblings_at last (count - i) bytes) ≡ total → behind (front ++ s ∷ []) (siblings_at (Some s.serial) (count - (i + 1)) after) ≡ total
unfolding siblings_at
goes_on last front count i bytes s after total lt h so_far =
    let k : count - i ≡ suc (count - (i + 1)) = omega arith in
    let one : behind front (siblings_at last (count - i) bytes) ≡ behind (front ++ s ∷ []) (siblings_at (Some s.serial) (count - (i + 1)) after) = rw (k, h) (regroup front s (siblings_at (Some s.serial) (count - (i + 1)) after)) in
    sym one ∙ so_far

pub ends : (last : Option ℕ) (e : WireFault) (front : List Sibling) (count i : ℕ) (bytes : List ℕ) (total : Read (List Sibling)) → i < count → ((e ≡ Memory → ⊥) → sibling_at last bytes ≡ Err e)
    → behind front (siblings_at last (count - i) bytes) ≡ total → (e ≡ Memory → ⊥) → total ≡ Err e
unfolding siblings_at
ends last e front count i bytes total lt step so_far known =
    let h = step known in
    let k : count - i ≡ suc (count - (i + 1)) = omega arith in
    let one : behind front (siblings_at last (count - i) bytes) ≡ Err e = rw (k, h) refl in
    sym so_far ∙ one

pub is_done : (last : Option ℕ) (front : List Sibling) (count i : ℕ) (bytes : List ℕ) (total : Read (List Sibling)) → count ≤ i → behind front (siblings_at last (count - i) bytes) ≡ total → total ≡ Ok (front, bytes)
unfolding siblings_at
is_done last front count i bytes total le so_far =
    let k : count - i ≡ 0 = omega arith in
    let one : behind front (siblings_at last (count - i) bytes) ≡ Ok (front, bytes) = rw k (ap (λ (ns : List Sibling). Ok (ns, bytes)) (append-nil front)) in
    sym so_far ∙ one

-- ---- checking them

-- one that may not stand behind the last one
pub falls : (last : Option ℕ) (ss : List Sibling) (i : ℕ) (d : Sibling) → i < length ss → is_sibling last (get_or ss i d) ≡ false
    → are_siblings last (drop i ss) ≡ are_siblings None ss → false ≡ are_siblings None ss
falls last ss i d lt h so_far =
    sym (ap (λ b. b && are_siblings (Some (get_or ss i d).serial) (drop (i + 1) ss)) h) ∙ sym (at_drop_more (are_siblings last) ss i d lt) ∙ so_far

-- one that may
pub stands : (last : Option ℕ) (ss : List Sibling) (i : ℕ) (d : Sibling) → i < length ss → is_sibling last (get_or ss i d) ≡ true
    → are_siblings last (drop i ss) ≡ are_siblings None ss → are_siblings (Some (get_or ss i d).serial) (drop (i + 1) ss) ≡ are_siblings None ss
stands last ss i d lt h so_far =
    sym (ap (λ b. b && are_siblings (Some (get_or ss i d).serial) (drop (i + 1) ss)) h) ∙ sym (at_drop_more (are_siblings last) ss i d lt) ∙ so_far

-- none is left
pub all_stand : (last : Option ℕ) (ss : List Sibling) (i : ℕ) → length ss ≤ i → are_siblings last (drop i ss) ≡ are_siblings None ss → true ≡ are_siblings None ss
all_stand last ss i le so_far = sym (at_drop_all (are_siblings last) ss i le) ∙ so_far
