-- What a writer holds and what waits, after several texts were passed on.
use Rattle.std.proofs.Common.{◌≡◌, ℕ, List, [], ◌++◌, Option, Result, Ok, Err, append_assoc, append-nil, refl, sym, ap, subst, ◌∙◌}
use Rattle.std.proofs.KnownBytes.{Appends-nil, Appends-trans}
use Rattle.std.specs.Io.KnownBytes.{Appends}
use Rattle.dlx_reader.specs.Devices.{AppendsFront, IsWritten}
use Rattle.dlx_reader.specs.Buffering.{Buffers, IsBuffered}
use Rattle.dlx_reader.proofs.Written.{going_fault, written_both, front_both}

-- ---- one text

-- it waits behind what waited
pub buffers_more : (waited : List ℕ) (a : Option (List ℕ)) (text : List ℕ) → Buffers waited (waited ++ text) a a text
buffers_more waited a text = record { written = []; known = Appends-nil a; parts = refl }

-- it was written where nothing waited
pub buffered_written : {T E : Type 0} (a b : Option (List ℕ)) (text : List ℕ) (r : Result T E) → IsWritten a b text r → IsBuffered [] [] a b text r
buffered_written a b text (Ok v) p = record { written = text; known = p; parts = sym (append-nil text) }
buffered_written a b text (Err e) p = p

-- what waited was written before it
pub buffered_behind : {T E : Type 0} (waited waits : List ℕ) (a b c : Option (List ℕ)) (text : List ℕ) (r : Result T E) → Appends a b waited → IsBuffered [] waits b c text r → IsBuffered waited waits a c text r
buffered_behind waited waits a b c text (Ok v) p q = record { written = waited ++ q.written; known = Appends-trans a b c waited q.written p q.known; parts = ap (λ t. waited ++ t) q.parts ∙ sym (append_assoc waited q.written waits) }
buffered_behind {T = T} waited waits a b c text (Err e) p q = written_both {T = T} a b c waited text (Err e) p q

-- ---- two texts, one after the other

both_parts : (w x first second written : List ℕ) → w ++ first ≡ written ++ x → w ++ (first ++ second) ≡ written ++ (x ++ second)
both_parts w x first second written parts = sym (append_assoc w first second) ∙ ap (λ t. t ++ second) parts ∙ append_assoc written x second

both_buffered : (w x y : List ℕ) (a b c : Option (List ℕ)) (first second : List ℕ) → Buffers w x a b first → Buffers x y b c second → Buffers w y a c (first ++ second)
both_buffered w x y a b c first second p q = record {
  written = p.written ++ q.written;
  known = Appends-trans a b c p.written q.written p.known q.known;
  parts = both_parts w x first second p.written p.parts ∙ ap (λ t. p.written ++ t) q.parts ∙ sym (append_assoc p.written q.written y);
}

second_fault : (w x : List ℕ) (a b c : Option (List ℕ)) (first second : List ℕ) → Buffers w x a b first → AppendsFront b c (x ++ second) → AppendsFront a c (w ++ (first ++ second))
second_fault w x a b c first second p q = going_fault a b c (x ++ second) [] (w ++ (first ++ second)) (record { done = p.written; known = p.known; parts = both_parts w x first second p.written p.parts ∙ ap (λ t. p.written ++ t) (sym (append-nil (x ++ second))) }) q

-- the second is tried where the first was passed on
pub buffered_both : {T E : Type 0} (w x y : List ℕ) (a b c : Option (List ℕ)) (first second : List ℕ) (r : Result T E) → Buffers w x a b first → IsBuffered x y b c second r → IsBuffered w y a c (first ++ second) r
buffered_both w x y a b c first second (Ok v) p q = both_buffered w x y a b c first second p q
buffered_both w x y a b c first second (Err e) p q = second_fault w x a b c first second p q

-- and after a fault in the first
pub buffered_front : (w : List ℕ) (a b : Option (List ℕ)) (first second : List ℕ) → AppendsFront a b (w ++ first) → AppendsFront a b (w ++ (first ++ second))
buffered_front w a b first second p = let P : List ℕ → Type 0 = λ t. AppendsFront a b t in subst P (append_assoc w first second) (front_both a b (w ++ first) second p)

-- ---- many texts

-- of the whole text, what was passed on before, and what is left to pass on
pub record Passing (w x : List ℕ) (old now : Option (List ℕ)) (left whole : List ℕ) : Type 0 where
  pub done : List ℕ
  pub passes : Buffers w x old now done
  pub parts : whole ≡ done ++ left

pub buffering_start : (w : List ℕ) (a : Option (List ℕ)) (whole : List ℕ) → Passing w w a a whole whole
buffering_start w a whole = record { done = []; passes = record { written = []; known = Appends-nil a; parts = append-nil w }; parts = refl }

pub buffering_on : (w x y : List ℕ) (a b c : Option (List ℕ)) (piece left whole : List ℕ) → Passing w x a b (piece ++ left) whole → Buffers x y b c piece → Passing w y a c left whole
buffering_on w x y a b c piece left whole g q = record { done = g.done ++ piece; passes = both_buffered w x y a b c g.done piece g.passes q; parts = g.parts ∙ sym (append_assoc g.done piece left) }

pub buffering_end : (w x : List ℕ) (a b : Option (List ℕ)) (whole : List ℕ) → Passing w x a b [] whole → Buffers w x a b whole
buffering_end w x a b whole g = let P : List ℕ → Type 0 = λ t. Buffers w x a b t in subst P (sym (g.parts ∙ append-nil g.done)) g.passes

pub buffering_fault : (w x : List ℕ) (a b c : Option (List ℕ)) (piece left whole : List ℕ) → Passing w x a b (piece ++ left) whole → AppendsFront b c (x ++ piece) → AppendsFront a c (w ++ whole)
buffering_fault w x a b c piece left whole g q =
    let P : List ℕ → Type 0 = λ t. AppendsFront a c (w ++ t) in
    subst P (append_assoc g.done piece left ∙ sym g.parts) (buffered_front w a c (g.done ++ piece) left (second_fault w x a b c g.done piece g.passes q))

-- ---- at the end what waits is written

pub written_end : {T E : Type 0} (x : List ℕ) (a b c : Option (List ℕ)) (text : List ℕ) (r : Result T E) → Buffers [] x a b text → IsWritten b c x r → IsWritten a c text r
written_end {T = T} {E = E} x a b c text r p q = let P : List ℕ → Type 0 = λ t. IsWritten {T = T} {E = E} a c t r in subst P (sym p.parts) (written_both a b c p.written x r p.known q)
