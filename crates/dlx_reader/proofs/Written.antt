-- What a writer holds after several writes.
use Rattle.std.proofs.Common.{◌≡◌, ℕ, ◌+◌, ◌<◌, ◌≤◌, List, ◌++◌, length, take, Option, append_assoc, sym, ◌∙◌, ap, refl, arith, [], append-nil, length-append, Result, Ok, Err}
use Rattle.dlx_reader.specs.Devices.{AppendsFront, IsWritten}
use Rattle.std.specs.Io.KnownBytes.{Appends}
use Rattle.std.proofs.KnownBytes.{Appends-trans}
use Rattle.std.specs.List.{between}
use Rattle.std.proofs.lemmas.Slice.{between_to_end}
use Rattle.std.proofs.Math.Seq.{take-add}
use Rattle.std.proofs.lemmas.List.{take_at, drop_at, take-append-le}

-- a further piece of a text is written
pub appends_further : (a b c : Option (List ℕ)) (bytes : List ℕ) (done count : ℕ) → Appends a b (take done bytes) → Appends b c (take count (between done (length bytes) bytes)) → Appends a c (take (done + count) bytes)
appends_further a b c bytes done count p q =
    let rest = between_to_end bytes done (length bytes) (omega arith) in
    rw (take-add done count bytes) (Appends-trans a b c _ _ p (rw rest at q))

-- of the whole text, what was written before, and what is left to write
pub record Going (old now : Option (List ℕ)) (left whole : List ℕ) : Type 0 where
  pub done : List ℕ
  pub known : Appends old now done
  pub parts : whole ≡ done ++ left

pub going_on : (a b c : Option (List ℕ)) (piece left whole : List ℕ) → Going a b (piece ++ left) whole → Appends b c piece → Going a c left whole
going_on a b c piece left whole g q = record { done = g.done ++ piece; known = Appends-trans a b c g.done piece g.known q; parts = g.parts ∙ sym (append_assoc g.done piece left) }

pub going_fault : (a b c : Option (List ℕ)) (piece left whole : List ℕ) → Going a b (piece ++ left) whole → AppendsFront b c piece → AppendsFront a c whole
going_fault a b c piece left whole g q =
    let within : q.count ≤ length piece = omega (arith, q.proper) in
    let fits : length g.done + q.count < length whole = omega (arith, ap length g.parts, length-append g.done (piece ++ left), length-append piece left, q.proper) in
    let front : take (length g.done + q.count) whole ≡ g.done ++ take q.count piece =
    rw g.parts (take-add (length g.done) q.count (g.done ++ (piece ++ left)) ∙ rw (take_at g.done (piece ++ left) (length g.done) refl, drop_at g.done (piece ++ left) (length g.done) refl) (ap (λ t. g.done ++ t) (take-append-le q.count piece left within))) in
    record { count = length g.done + q.count; proper = fits; known = rw front (Appends-trans a b c g.done (take q.count piece) g.known q.known) }

-- two texts, one after the other: the second is tried where the first is written
pub written_both : {T E : Type 0} (a b c : Option (List ℕ)) (first second : List ℕ) (r : Result T E) → Appends a b first → IsWritten b c second r → IsWritten a c (first ++ second) r
written_both a b c first second (Ok v) p q = Appends-trans a b c first second p q
written_both a b c first second (Err e) p q = going_fault a b c second [] (first ++ second) (record { done = first; known = p; parts = ap (λ t. first ++ t) (sym (append-nil second)) }) q

-- and after a fault in the first
pub front_both : (a b : Option (List ℕ)) (first second : List ℕ) → AppendsFront a b first → AppendsFront a b (first ++ second)
front_both a b first second p =
    let within : p.count ≤ length first = omega (arith, p.proper) in
    record { count = p.count; proper = omega (arith, p.proper, length-append first second); known = rw (take-append-le p.count first second within) p.known }
