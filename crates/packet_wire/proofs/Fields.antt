-- A field that is read is the field that was written, and what was written is read again.
use Rattle.std.proofs.Common.{◌≡◌, ℕ, zero, suc, ◌+◌, ◌^◌, ◌<◌, ◌≤◌, Bool, true, false, cond, ltb, ◌&&◌, List, [], ◌∷◌, ◌++◌, length, get_or, take, drop, Result, Ok, Err, refl, sym, ap, subst, ◌∙◌, append_assoc, arith, inl, inr}
use Rattle.std.specs.List.{list_all}
use Rattle.std.proofs.lemmas.Bool.{cases_lt, ltb-false, le-ltb}
use Rattle.std.proofs.lemmas.List.{drop_at, take-append-drop, length-append, length-take, get_or-drop, get_or-take, get_or_past}
use Rattle.std.proofs.lemmas.Nat.{be_bytes_2, be_bytes_4}
use Rattle.byteorder.specs.Endian.{big_bytes, big_number}
use Rattle.byteorder.specs.Numbers.{big_from-lt, big_from-take, big_number-reads_back, length-bytes_high_first}
use Rattle.packet_wire.specs.declared.fault.WireFault.{WireFault}
use Rattle.packet_wire.specs.declared.fault.WireFault.TheVariants.{Field, Short}
use Rattle.packet_wire.specs.Reading.{◌>>=◌, Read, field_at, fields_at, number_at}
use Rattle.packet_wire.specs.Spelling.{number, numbers}

abbrev pub IsBytes : List ℕ → Type 0
IsBytes bytes = (i : ℕ) → get_or bytes i 0 < 256

IsBytes-drop : (n : ℕ) (bytes : List ℕ) → IsBytes bytes → IsBytes (drop n bytes)
IsBytes-drop n bytes h i = rw get_or-drop (h (n + i))

IsBytes-take : (n : ℕ) (bytes : List ℕ) → IsBytes bytes → IsBytes (take n bytes)
IsBytes-take n bytes h i =
    elim (cases_lt i n) [
      | inl lt ↦ rw (get_or-take n bytes i 0 lt) (h i)
      | inr le ↦ rw (get_or_past (take n bytes) i 0 (omega (arith, length-take n bytes))) (omega arith)
    ]

-- the value of a step that did not fail
pub bind_ok : {A B : Type 0} (r : Result A WireFault) (f : A → Result B WireFault) (y : B) → (r >>= f) ≡ Ok y → (x : A) × (r ≡ Ok x) × (f x ≡ Ok y)
bind_ok (Ok x) f y e = (x, refl, e)
bind_ok (Err d) f y e = absurd cc

-- a test that did not fail
short_ok : {A : Type 0} (b : Bool) (d : WireFault) (x y : A) → cond b (Err d) (Ok x) ≡ Ok y → (b ≡ false) × (x ≡ y)
short_ok true d x y e = absurd cc
short_ok false d x y e = (refl, cc)

pub guard_ok : {A : Type 0} (b : Bool) (d : WireFault) (x y : A) → cond b (Ok x) (Err d) ≡ Ok y → (b ≡ true) × (x ≡ y)
guard_ok true d x y e = (refl, cc)
guard_ok false d x y e = absurd cc

abbrev done : {A : Type 0} → A → Result A WireFault
done x = Ok x

pub ok_is : {A : Type 0} (x y : A) → done x ≡ done y → x ≡ y
ok_is x y e = cc

-- both of two tests
pub and_both : (a b : Bool) → (a && b) ≡ true → (a ≡ true) × (b ≡ true)
and_both true b e = (refl, e)
and_both false b e = absurd cc

pub both_and : (a b : Bool) → a ≡ true → b ≡ true → (a && b) ≡ true
both_and a b p q = rw (p, q) refl

-- what a reader took from the front
pub record Takes (bytes text rest : List ℕ) : Type 0 where
  pub parts : bytes ≡ text ++ rest
  pub rest_fits : IsBytes rest

pub Takes-then : (a x b y c : List ℕ) → Takes a x b → Takes b y c → Takes a (x ++ y) c
Takes-then a x b y c p q = record { parts = p.parts ∙ ap (λ (t : List ℕ). x ++ t) q.parts ∙ sym (append_assoc x y c); rest_fits = q.rest_fits }

-- What is read is spelled so and allowed, and what is allowed is read again.
pub record IsForm {A : Type 0} (at : List ℕ → Read A) (text : A → List ℕ) (allowed : A → Type 0) : Type 0 where
  pub takes : (bytes : List ℕ) (x : A × List ℕ) → IsBytes bytes → at bytes ≡ Ok x → Takes bytes (text x.0) x.1 × allowed x.0
  pub again : (a : A) (rest : List ℕ) → allowed a → at (text a ++ rest) ≡ Ok (a, rest)

-- ---- numbers

pub record IsWide (width limit : ℕ) : Type 0 where
  pub back : (bytes : List ℕ) → length bytes ≡ width → IsBytes bytes → big_bytes width (big_number width bytes) ≡ bytes
  pub limit_is : 256 ^ width ≡ limit

one_byte : (bytes : List ℕ) → length bytes ≡ 1 → IsBytes bytes → big_bytes 1 (big_number 1 bytes) ≡ bytes
one_byte [] len fits = absurd (omega arith)
one_byte (b ∷ []) len fits = let h = fits 0 in ap (λ (n : ℕ). n ∷ []) (omega arith)
one_byte (b ∷ c ∷ bs) len fits = absurd (omega arith)

pub wide1 : IsWide 1 256
wide1 = record {
  back = λ bytes len fits. one_byte bytes len fits;
  limit_is = refl;
}

pub wide2 : IsWide 2 65536
wide2 = record {
  back = λ bytes len fits. be_bytes_2 bytes (big_number 2 bytes) len fits (omega arith);
  limit_is = refl;
}

pub wide4 : IsWide 4 4294967296
wide4 = record {
  back = λ bytes len fits. be_bytes_4 bytes (big_number 4 bytes) len fits (omega arith);
  limit_is = refl;
}

number_back : (width limit : ℕ) → IsWide width limit → (bytes : List ℕ) → width ≤ length bytes → IsBytes bytes → big_bytes width (big_number width bytes) ≡ take width bytes
number_back width limit wide bytes long fits =
    let same : big_number width (take width bytes) ≡ big_number width bytes = big_from-take 0 width width bytes (omega arith) in
    rw (← same) (wide.back (take width bytes) (omega (arith, length-take width bytes)) (IsBytes-take width bytes fits))

number_takes : (width limit : ℕ) → IsWide width limit → (bytes : List ℕ) (x : ℕ × List ℕ) → IsBytes bytes → number_at width bytes ≡ Ok x → Takes bytes (number width x.0) x.1 × (x.0 < limit)
unfolding number_at number
number_takes width limit wide bytes x fits e =
    let g = short_ok (ltb (length bytes) width) Short (big_number width bytes, drop width bytes) x e in
    let long : width ≤ length bytes = ltb-false _ _ g.0 in
    let front : big_bytes width (big_number width bytes) ≡ take width bytes = number_back width limit wide bytes long fits in
    let below : big_number width bytes < 256 ^ width = big_from-lt 0 width bytes fits in
    let parts : bytes ≡ big_bytes width (big_number width bytes) ++ drop width bytes = rw front (sym (take-append-drop width bytes)) in
    subst (λ (y : ℕ × List ℕ). Takes bytes (big_bytes width y.0) y.1 × (y.0 < limit)) g.1 (record { parts = parts; rest_fits = IsBytes-drop width bytes fits }, rw wide.limit_is at below)

number_again : (width limit : ℕ) → IsWide width limit → (n : ℕ) (rest : List ℕ) → n < limit → number_at width (number width n ++ rest) ≡ Ok (n, rest)
unfolding number_at number
number_again width limit wide n rest lt =
    let len = length-bytes_high_first width n in
    let fits : n < 256 ^ width = rw wide.limit_is lt in
    let long : ltb (length (big_bytes width n ++ rest)) width ≡ false = le-ltb _ _ (omega (arith, length-append (big_bytes width n) rest)) in
    rw (long, big_number-reads_back width n rest fits, drop_at (big_bytes width n) rest width len) refl

pub number_form : (width limit : ℕ) → IsWide width limit → IsForm (number_at width) (number width) (λ n. n < limit)
number_form width limit wide = record { takes = number_takes width limit wide; again = number_again width limit wide }

-- ---- one field

field_takes : (width limit : ℕ) → IsWide width limit → (test : ℕ → Bool) (fault : WireFault) (bytes : List ℕ) (x : ℕ × List ℕ) → IsBytes bytes → field_at width test fault bytes ≡ Ok x → Takes bytes (number width x.0) x.1 × (test x.0 ≡ true)
field_takes width limit wide test fault bytes x fits e =
    let b = bind_ok (number_at width bytes) (λ n. cond (test n.0) (Ok n) (Err fault)) x e in
    let t = number_takes width limit wide bytes b.0 fits b.1 in
    let g = guard_ok (test b.0.0) fault b.0 x b.2 in
    subst (λ (y : ℕ × List ℕ). Takes bytes (number width y.0) y.1 × (test y.0 ≡ true)) g.1 (t.0, g.0)

field_again : (width limit : ℕ) → IsWide width limit → (test : ℕ → Bool) (fault : WireFault) → ((n : ℕ) → test n ≡ true → n < limit) → (n : ℕ) (rest : List ℕ) → test n ≡ true → field_at width test fault (number width n ++ rest) ≡ Ok (n, rest)
field_again width limit wide test fault below n rest ok = rw (number_again width limit wide n rest (below n ok), ok) refl

-- a field whose test leaves no more numbers than it has
pub field_form : (width limit : ℕ) → IsWide width limit → (test : ℕ → Bool) (fault : WireFault) → ((n : ℕ) → test n ≡ true → n < limit) → IsForm (field_at width test fault) (number width) (λ n. test n ≡ true)
field_form width limit wide test fault below = record { takes = field_takes width limit wide test fault; again = field_again width limit wide test fault below }

-- ---- fields one after the other

-- so many numbers, each of which passes
abbrev pub ArePassing : (ℕ → Bool) → ℕ → List ℕ → Type 0
ArePassing test count ns = (length ns ≡ count) × (list_all test ns ≡ true)

fields_take : (width limit : ℕ) → IsWide width limit → (test : ℕ → Bool) → (count : ℕ) (bytes : List ℕ) (x : List ℕ × List ℕ) → IsBytes bytes → fields_at width test count bytes ≡ Ok x → Takes bytes (numbers width x.0) x.1 × ArePassing test count x.0
unfolding fields_at
fields_take width limit wide test zero bytes x fits e =
    subst (λ (y : List ℕ × List ℕ). Takes bytes (numbers width y.0) y.1 × ArePassing test 0 y.0) (ok_is ([], bytes) x e) (record { parts = refl; rest_fits = fits }, (refl, refl))
fields_take width limit wide test (suc count) bytes x fits e =
    let a = bind_ok (field_at width test Field bytes) (λ first. fields_at width test count first.1 >>= λ others. Ok (first.0 ∷ others.0, others.1)) x e in
    let b = bind_ok (fields_at width test count a.0.1) (λ others. Ok (a.0.0 ∷ others.0, others.1)) x a.2 in
    let first = field_takes width limit wide test Field bytes a.0 fits a.1 in
    let second = fields_take width limit wide test count a.0.1 b.0 first.0.rest_fits b.1 in
    let both = Takes-then bytes (number width a.0.0) a.0.1 (numbers width b.0.0) b.0.1 first.0 second.0 in
    let made : List ℕ × List ℕ = (a.0.0 ∷ b.0.0, b.0.1) in
    subst (λ (y : List ℕ × List ℕ). Takes bytes (numbers width y.0) y.1 × ArePassing test (suc count) y.0) (ok_is made x b.2) (both, (ap suc second.1.0, both_and _ _ first.1 second.1.1))

fields_again : (width limit : ℕ) → IsWide width limit → (test : ℕ → Bool) → ((n : ℕ) → test n ≡ true → n < limit) → (ns rest : List ℕ) → list_all test ns ≡ true → fields_at width test (length ns) (numbers width ns ++ rest) ≡ Ok (ns, rest)
unfolding fields_at
fields_again width limit wide test below [] rest ok = refl
fields_again width limit wide test below (n ∷ ns) rest ok =
    let each = and_both (test n) (list_all test ns) ok in
    let regrouped : numbers width (n ∷ ns) ++ rest ≡ number width n ++ (numbers width ns ++ rest) = append_assoc (number width n) (numbers width ns) rest in
    ap (fields_at width test (suc (length ns))) regrouped ∙ rw (field_again width limit wide test Field below n (numbers width ns ++ rest) each.0, fields_again width limit wide test below ns rest each.1) refl

pub fields_form : (width limit : ℕ) → IsWide width limit → (test : ℕ → Bool) → ((n : ℕ) → test n ≡ true → n < limit) → (count : ℕ) → IsForm (fields_at width test count) (numbers width) (ArePassing test count)
fields_form width limit wide test below count = record {
  takes = fields_take width limit wide test count;
  again = λ ns rest ok. subst (λ (k : ℕ). fields_at width test k (numbers width ns ++ rest) ≡ Ok (ns, rest)) ok.0 (fields_again width limit wide test below ns rest ok.1);
}
