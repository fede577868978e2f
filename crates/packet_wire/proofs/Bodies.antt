-- Kinds, causes, results and bodies: what is read of each is spelled so and allowed, and is read again.
use Rattle.std.proofs.Common.{◌≡◌, ◌⊎◌, ℕ, zero, suc, ◌<◌, Bool, true, false, ◌||◌, cond, eqb, List, [], ◌++◌, Option, Some, None, Ok, refl, sym, ap, subst, ◌∙◌, append_assoc, arith, inl, inr, ⊎_elim}
use Rattle.std.specs.Prelude.{nat_lt}
use Rattle.std.proofs.lemmas.Bool.{eqb-true, ltb-true, or_cases}
use Rattle.spawn_frame.specs.declared.cause.Cause.{Cause}
use Rattle.spawn_frame.specs.declared.cause.Cause.TheVariants.{Aborted, Superseded, Unknown}
use Rattle.spawn_frame.specs.declared.child_result.ChildResult.{ChildResult}
use Rattle.spawn_frame.specs.declared.child_result.ChildResult.TheVariants.{Cover, Empty}
use Rattle.packet_wire.specs.Kinds.{first_numbered, kind_number, kind_numbered, kind_of, kind_version}
use Rattle.packet_wire.specs.Reading.{◌>>=◌, Read, body_at, cause_at, cause_numbered, child_at, field_at, give_many_at, incarnations_at, known, number_at, options_at, result_at, start_at}
use Rattle.packet_wire.specs.Spelling.{body_text, cause_number, number, options_text, result_text, start_text}
use Rattle.packet_wire.specs.WellFormed.{are_options, is_body, is_child, is_result}
use Rattle.packet_wire.specs.declared.fault.WireFault.{WireFault}
use Rattle.packet_wire.specs.declared.fault.WireFault.TheVariants as faults
use Rattle.packet_wire.specs.declared.kind.Kind.{Kind}
use Rattle.packet_wire.specs.declared.kind.Kind.TheVariants as kinds
use Rattle.packet_wire.specs.declared.packet.Body.{Body}
use Rattle.packet_wire.specs.declared.packet.Body.TheVariants as bodies
use Rattle.packet_wire.proofs.Fields.{IsBytes, IsForm, Takes, Takes-then, and_both, bind_ok, both_and, field_form, number_form, ok_is, wide1, wide2}
use Rattle.packet_wire.proofs.Forms.{chained_again, chained_takes, child_form, followed, followed_again, followed_takes, group_form, incarnations_form, options_form}

-- ---- what a number stands for

abbrev given : {A : Type 0} → A → Option A
given x = Some x

given_is : {A : Type 0} (x y : A) → given x ≡ given y → x ≡ y
given_is x y e = cc

known_ok : {A : Type 0} (fault : WireFault) (o : Option A) (rest : List ℕ) (x : A × List ℕ) → known fault o rest ≡ Ok x → (o ≡ Some x.0) × (rest ≡ x.1)
known_ok fault None rest x e = absurd cc
known_ok {A} fault (Some a) rest x e =
    let made : A × List ℕ = (a, rest) in
    let is : made ≡ x = ok_is made x e in
    (ap (λ (y : A × List ℕ). given y.0) is, ap (λ (y : A × List ℕ). y.1) is)

-- a byte that stands for something
abbrev coded_at : {A : Type 0} → (ℕ → Option A) → WireFault → List ℕ → Read A
coded_at numbered fault bytes = number_at 1 bytes >>= λ n. known fault (numbered n.0) n.1

-- a code and what it stands for, of those that are allowed
record IsCode {A : Type 0} (code : A → ℕ) (numbered : ℕ → Option A) (allowed : A → Type 0) : Type 0 where
  back : (n : ℕ) (a : A) → numbered n ≡ Some a → code a ≡ n
  fits : (n : ℕ) (a : A) → numbered n ≡ Some a → allowed a
  again : (a : A) → allowed a → numbered (code a) ≡ Some a
  below : (a : A) → code a < 256

coded_form : {A : Type 0} (code : A → ℕ) (numbered : ℕ → Option A) (fault : WireFault) (allowed : A → Type 0) → IsCode code numbered allowed → IsForm (coded_at numbered fault) (λ a. number 1 (code a)) allowed
coded_form {A} code numbered fault allowed is = record {
  takes = λ bytes x fits e.
      let p = bind_ok (number_at 1 bytes) (λ n. known fault (numbered n.0) n.1) x e in
      let t = (number_form 1 256 wide1).takes bytes p.0 fits p.1 in
      let k = known_ok fault (numbered p.0.0) p.0.1 x p.2 in
      let back : code x.0 ≡ p.0.0 = is.back p.0.0 x.0 k.0 in
      (subst (λ (rest : List ℕ). Takes bytes (number 1 (code x.0)) rest) k.1 (subst (λ (n : ℕ). Takes bytes (number 1 n) p.0.1) (sym back) t.0), is.fits p.0.0 x.0 k.0);
  again = λ a rest ok. rw ((number_form 1 256 wide1).again (code a) rest (is.below a), is.again a ok) refl;
}

-- one case of what numbers stand for: what holds of this one, or of one after it
numbered_step : {A : Type 0} (P : A → Type 0) (n m : ℕ) (x : A) (other : Option A) (a : A) → P x → cond (eqb n m) (Some x) other ≡ Some a → (other ≡ Some a → P a) → P a
numbered_step {A} P n m x other a is e more =
    (elim (eqb n m) as (λ b. cond b (Some x) other ≡ Some a → P a) [
      | true ↦ λ e. subst P (given_is x a e) is
      | false ↦ λ e. more e
    ])
    e

-- one case of the codes: the number is this one's, or that of one after it
code_step : {A : Type 0} (code : A → ℕ) (n m : ℕ) (x : A) (other : Option A) (a : A) → code x ≡ m → cond (eqb n m) (Some x) other ≡ Some a → (other ≡ Some a → code a ≡ n) → code a ≡ n
code_step code n m x other a is e more =
    (elim (eqb n m) as (λ b. eqb n m ≡ b → cond b (Some x) other ≡ Some a → code a ≡ n) [
      | true ↦ λ h e. ap code (sym (given_is x a e)) ∙ is ∙ sym (eqb-true n m h)
      | false ↦ λ h e. more e
    ])
    refl
    e

first_back : (n : ℕ) (k : Kind) → first_numbered n ≡ Some k → kind_number k ≡ n
first_back n k e =
    code_step kind_number n 1 kinds.Hello _ k refl e (λ e. code_step kind_number n 2 kinds.Members _ k refl e (λ e. code_step kind_number n 3 kinds.Steal _ k refl e (λ e.
    code_step kind_number n 4 kinds.Give _ k refl e (λ e. code_step kind_number n 5 kinds.NoWork _ k refl e (λ e. code_step kind_number n 6 kinds.Return _ k refl e (λ e.
    code_step kind_number n 7 kinds.Accept _ k refl e (λ e. code_step kind_number n 8 kinds.Refuse _ k refl e (λ e. code_step kind_number n 9 kinds.Abort _ k refl e (λ e.
    code_step kind_number n 10 kinds.Over _ k refl e (λ e. absurd cc))))))))))

abbrev IsFirst : Kind → Type 0
IsFirst kind = kind_version kind ≡ 1

-- the version of a kind of the first version
first_version : (n : ℕ) (k : Kind) → first_numbered n ≡ Some k → kind_version k ≡ 1
first_version n k e =
    numbered_step IsFirst n 1 kinds.Hello _ k refl e (λ e. numbered_step IsFirst n 2 kinds.Members _ k refl e (λ e. numbered_step IsFirst n 3 kinds.Steal _ k refl e (λ e.
    numbered_step IsFirst n 4 kinds.Give _ k refl e (λ e. numbered_step IsFirst n 5 kinds.NoWork _ k refl e (λ e. numbered_step IsFirst n 6 kinds.Return _ k refl e (λ e.
    numbered_step IsFirst n 7 kinds.Accept _ k refl e (λ e. numbered_step IsFirst n 8 kinds.Refuse _ k refl e (λ e. numbered_step IsFirst n 9 kinds.Abort _ k refl e (λ e.
    numbered_step IsFirst n 10 kinds.Over _ k refl e (λ e. absurd cc))))))))))

-- the kind of the second version
second_is : (n : ℕ) (k : Kind) → cond (eqb n 4) (Some kinds.GiveMany) None ≡ Some k → (kind_number k ≡ n) × (kind_version k ≡ 2)
second_is n k e = (
  code_step kind_number n 4 kinds.GiveMany None k refl e (λ e. absurd cc),
  numbered_step (λ kind. kind_version kind ≡ 2) n 4 kinds.GiveMany None k refl e (λ e. absurd cc),
)

abbrev is_version : ℕ → Bool
is_version n = eqb n 1 || eqb n 2

version_is : (n : ℕ) → is_version n ≡ true → (n ≡ 1) ⊎ (n ≡ 2)
version_is n h = ⊎_elim (λ (e : eqb n 1 ≡ true). inl (eqb-true n 1 e)) (λ (e : eqb n 2 ≡ true). inr (eqb-true n 2 e)) (or_cases (eqb n 1) (eqb n 2) h)

version_below : (n : ℕ) → is_version n ≡ true → n < 256
version_below n h = ⊎_elim (λ (e : n ≡ 1). omega (arith, e)) (λ (e : n ≡ 2). omega (arith, e)) (version_is n h)

kind_is : (v n : ℕ) (k : Kind) → (v ≡ 1) ⊎ (v ≡ 2) → kind_numbered v n ≡ Some k → (kind_number k ≡ n) × (kind_version k ≡ v)
kind_is v n k (inl one) e =
    let f : first_numbered n ≡ Some k = subst (λ (x : ℕ). kind_numbered x n ≡ Some k) one e in
    (first_back n k f, first_version n k f ∙ sym one)
kind_is v n k (inr two) e =
    let f : kind_numbered 2 n ≡ Some k = subst (λ (x : ℕ). kind_numbered x n ≡ Some k) two e in
    let m = second_is n k f in
    (m.0, m.1 ∙ sym two)

kind_again : (k : Kind) → kind_numbered (kind_version k) (kind_number k) ≡ Some k
kind_again kinds.Hello = refl
kind_again kinds.Members = refl
kind_again kinds.Steal = refl
kind_again kinds.Give = refl
kind_again kinds.GiveMany = refl
kind_again kinds.NoWork = refl
kind_again kinds.Return = refl
kind_again kinds.Accept = refl
kind_again kinds.Refuse = refl
kind_again kinds.Abort = refl
kind_again kinds.Over = refl

its_version : (k : Kind) → is_version (kind_version k) ≡ true
its_version kinds.GiveMany = refl
its_version kinds.Hello = refl
its_version _ = refl

kind_below : (k : Kind) → kind_number k < 256
kind_below kinds.Hello = omega arith
kind_below kinds.Members = omega arith
kind_below kinds.Steal = omega arith
kind_below kinds.Give = omega arith
kind_below kinds.GiveMany = omega arith
kind_below kinds.NoWork = omega arith
kind_below kinds.Return = omega arith
kind_below kinds.Accept = omega arith
kind_below kinds.Refuse = omega arith
kind_below kinds.Abort = omega arith
kind_below kinds.Over = omega arith

kind_form : (v : ℕ) → is_version v ≡ true → IsForm (coded_at (kind_numbered v) faults.Kind) (λ k. number 1 (kind_number k)) (λ k. kind_version k ≡ v)
kind_form v ok = coded_form kind_number (kind_numbered v) faults.Kind (λ k. kind_version k ≡ v) (record {
  back = λ n k e. (kind_is v n k (version_is v ok) e).0;
  fits = λ n k e. (kind_is v n k (version_is v ok) e).1;
  again = λ k same. subst (λ (x : ℕ). kind_numbered x (kind_number k) ≡ Some k) same (kind_again k);
  below = kind_below;
})

cause_back : (n : ℕ) (c : Cause) → cause_numbered n ≡ Some c → cause_number c ≡ n
cause_back n c e =
    code_step cause_number n 1 Aborted _ c refl e (λ e. code_step cause_number n 2 Superseded _ c refl e (λ e. code_step cause_number n 3 Unknown _ c refl e (λ e. absurd cc)))

cause_again : (c : Cause) → cause_numbered (cause_number c) ≡ Some c
cause_again Aborted = refl
cause_again Superseded = refl
cause_again Unknown = refl

cause_below : (c : Cause) → cause_number c < 256
cause_below Aborted = omega arith
cause_below Superseded = omega arith
cause_below Unknown = omega arith

cause_form : IsForm cause_at (λ c. number 1 (cause_number c)) (λ c. Unit {0})
unfolding cause_at
cause_form = coded_form cause_number cause_numbered faults.Field (λ c. Unit {0}) (record { back = cause_back; fits = λ n c e. tt; again = λ c ok. cause_again c; below = cause_below })

-- ---- the start

abbrev is_magic : ℕ → Bool
is_magic n = eqb n 17230

magic_form : IsForm (field_at 2 is_magic faults.Magic) (number 2) (λ n. is_magic n ≡ true)
magic_form = field_form 2 65536 wide2 is_magic faults.Magic (λ n h. let is : n ≡ 17230 = eqb-true n 17230 h in omega arith)

version_form : IsForm (field_at 1 is_version faults.Version) (number 1) (λ n. is_version n ≡ true)
version_form = field_form 1 256 wide1 is_version faults.Version version_below

abbrev of_version : ℕ → List ℕ → Read Kind
of_version v = coded_at (kind_numbered v) faults.Kind

abbrev versioned_at : List ℕ → Read Kind
versioned_at bytes = followed (field_at 1 is_version faults.Version) of_version bytes

abbrev versioned_text : Kind → List ℕ
versioned_text k = number 1 (kind_version k) ++ number 1 (kind_number k)

versioned_form : IsForm versioned_at versioned_text (λ k. Unit {0})
versioned_form = record {
  takes = λ bytes x fits e.
      let p = followed_takes (field_at 1 is_version faults.Version) of_version version_form kind_form bytes x fits e in
      (subst (λ (n : ℕ). Takes bytes (number 1 n ++ number 1 (kind_number x.0)) x.1) (sym p.second) p.takes, tt);
  again = λ k rest ok. followed_again (field_at 1 is_version faults.Version) of_version version_form kind_form (kind_version k) k rest (its_version k) refl;
}

pub start_form : IsForm start_at start_text (λ k. Unit {0})
unfolding start_at
start_form = record {
  takes = λ bytes x fits e.
      let p = followed_takes (field_at 2 is_magic faults.Magic) (λ n. versioned_at) magic_form (λ n ok. versioned_form) bytes x fits e in
      (subst (λ (n : ℕ). Takes bytes (number 2 n ++ versioned_text x.0) x.1) (eqb-true p.a 17230 p.first) p.takes, tt);
  again = λ k rest ok. followed_again (field_at 2 is_magic faults.Magic) (λ n. versioned_at) magic_form (λ n ok. versioned_form) 17230 k rest refl tt;
}

-- ---- results

abbrev is_flag : ℕ → Bool
is_flag n = nat_lt n 2

flag_form : IsForm (field_at 1 is_flag faults.Field) (number 1) (λ n. is_flag n ≡ true)
flag_form = field_form 1 256 wide1 is_flag faults.Field (λ n h. let lt : n < 2 = ltb-true n 2 h in omega arith)

abbrev flagged_at : ℕ → List ℕ → Read ChildResult
flagged_at flag rest = cond (eqb flag 0) (Ok (Empty, rest)) (options_at 1 rest >>= λ options. Ok (Cover options.0, options.1))

flagged_takes : (bytes : List ℕ) (flag : ℕ) (rest : List ℕ) (x : ChildResult × List ℕ) → is_flag flag ≡ true → Takes bytes (number 1 flag) rest → flagged_at flag rest ≡ Ok x → Takes bytes (result_text x.0) x.1 × (is_result x.0 ≡ true)
flagged_takes bytes zero rest x h t e =
    let made : ChildResult × List ℕ = (Empty, rest) in
    subst (λ (y : ChildResult × List ℕ). Takes bytes (result_text y.0) y.1 × (is_result y.0 ≡ true)) (ok_is made x e) (t, refl)
flagged_takes bytes (suc zero) rest x h t e =
    let p = bind_ok (options_at 1 rest) (λ options. Ok (Cover options.0, options.1)) x e in
    let u = (options_form 1).takes rest p.0 t.rest_fits p.1 in
    let made : ChildResult × List ℕ = (Cover p.0.0, p.0.1) in
    subst (λ (y : ChildResult × List ℕ). Takes bytes (result_text y.0) y.1 × (is_result y.0 ≡ true)) (ok_is made x p.2) (Takes-then bytes (number 1 1) rest (options_text p.0.0) p.0.1 t u.0, u.1)
flagged_takes bytes (suc (suc n)) rest x h t e = let lt : suc (suc n) < 2 = ltb-true _ _ h in absurd (omega arith)

result_again : (r : ChildResult) (rest : List ℕ) → is_result r ≡ true → result_at (result_text r ++ rest) ≡ Ok (r, rest)
unfolding result_at
result_again Empty rest ok = rw (flag_form.again 0 rest refl) refl
result_again (Cover options) rest ok =
    ap result_at (append_assoc (number 1 1) (options_text options) rest) ∙ rw (flag_form.again 1 (options_text options ++ rest) refl, (options_form 1).again options rest ok) refl

result_form : IsForm result_at result_text (λ r. is_result r ≡ true)
unfolding result_at
result_form = record {
  takes = λ bytes x fits e.
      let p = bind_ok (field_at 1 is_flag faults.Field bytes) (λ flag. flagged_at flag.0 flag.1) x e in
      let t = flag_form.takes bytes p.0 fits p.1 in
      flagged_takes bytes p.0.0 p.0.1 x t.1 t.0 p.2;
  again = result_again;
}

-- ---- bodies

-- an allowed body of this kind
abbrev pub IsBodyOf : Kind → Body → Type 0
IsBodyOf kind body = (kind_of body ≡ kind) × (is_body body ≡ true)

abbrev TakesBody : Kind → List ℕ → Body × List ℕ → Type 0
TakesBody kind bytes x = Takes bytes (body_text x.0) x.1 × IsBodyOf kind x.0

abbrev give_made : ℕ × ℕ → List ℕ → Body
give_made child prefix = bodies.Give child.0 child.1 prefix

abbrev return_made : ℕ × ℕ → ChildResult → Body
return_made child result = bodies.Return child.0 child.1 result

abbrev accept_made : ℕ × ℕ → ChildResult → Body
accept_made child result = bodies.Accept child.0 child.1 result

abbrev refuse_made : ℕ × ℕ → Cause → Body
refuse_made child cause = bodies.Refuse child.0 child.1 cause

abbrev bare : Body → List ℕ → Read Body
bare body bytes = Ok (body, bytes)

no_body_takes : (kind : Kind) (body : Body) (bytes : List ℕ) (x : Body × List ℕ) → IsBytes bytes → body_text body ≡ [] → IsBodyOf kind body → bare body bytes ≡ Ok x → TakesBody kind bytes x
no_body_takes kind body bytes x fits nothing is e =
    let made : Body × List ℕ = (body, bytes) in
    subst (λ (y : Body × List ℕ). TakesBody kind bytes y) (ok_is made x e) (record { parts = rw nothing refl; rest_fits = fits }, is)

body_takes : (kind : Kind) (bytes : List ℕ) (x : Body × List ℕ) → IsBytes bytes → body_at kind bytes ≡ Ok x → TakesBody kind bytes x
unfolding body_at
body_takes kinds.Hello bytes x fits e = no_body_takes kinds.Hello bodies.Hello bytes x fits refl (refl, refl) e
body_takes kinds.Members bytes x fits e =
    let p = bind_ok (incarnations_at bytes) (λ incarnations. Ok (bodies.Members incarnations.0, incarnations.1)) x e in
    let t = incarnations_form.takes bytes p.0 fits p.1 in
    let made : Body × List ℕ = (bodies.Members p.0.0, p.0.1) in
    subst (λ (y : Body × List ℕ). TakesBody kinds.Members bytes y) (ok_is made x p.2) (t.0, (refl, t.1))
body_takes kinds.Steal bytes x fits e = no_body_takes kinds.Steal bodies.Steal bytes x fits refl (refl, refl) e
body_takes kinds.Give bytes x fits e =
    let p = chained_takes child_at (λ child. options_at 0) give_made child_form (λ child ok. options_form 0) bytes x fits e in
    subst (λ (b : Body). Takes bytes (body_text b) x.1 × IsBodyOf kinds.Give b) p.made (p.takes, (refl, both_and _ _ p.first p.second))
body_takes kinds.GiveMany bytes x fits e =
    let p = bind_ok (give_many_at bytes) (λ given. Ok (bodies.GiveMany given.0.0 given.0.1, given.1)) x e in
    let t = group_form.takes bytes p.0 fits p.1 in
    let made : Body × List ℕ = (bodies.GiveMany p.0.0.0 p.0.0.1, p.0.1) in
    subst (λ (y : Body × List ℕ). TakesBody kinds.GiveMany bytes y) (ok_is made x p.2) (t.0, (refl, t.1))
body_takes kinds.NoWork bytes x fits e = no_body_takes kinds.NoWork bodies.NoWork bytes x fits refl (refl, refl) e
body_takes kinds.Return bytes x fits e =
    let p = chained_takes child_at (λ child. result_at) return_made child_form (λ child ok. result_form) bytes x fits e in
    subst (λ (b : Body). Takes bytes (body_text b) x.1 × IsBodyOf kinds.Return b) p.made (p.takes, (refl, both_and _ _ p.first p.second))
body_takes kinds.Accept bytes x fits e =
    let p = chained_takes child_at (λ child. result_at) accept_made child_form (λ child ok. result_form) bytes x fits e in
    subst (λ (b : Body). Takes bytes (body_text b) x.1 × IsBodyOf kinds.Accept b) p.made (p.takes, (refl, both_and _ _ p.first p.second))
body_takes kinds.Refuse bytes x fits e =
    let p = chained_takes child_at (λ child. cause_at) refuse_made child_form (λ child ok. cause_form) bytes x fits e in
    subst (λ (b : Body). Takes bytes (body_text b) x.1 × IsBodyOf kinds.Refuse b) p.made (p.takes, (refl, p.first))
body_takes kinds.Abort bytes x fits e =
    let p = bind_ok (child_at bytes) (λ child. Ok (bodies.Abort child.0.0 child.0.1, child.1)) x e in
    let t = child_form.takes bytes p.0 fits p.1 in
    let made : Body × List ℕ = (bodies.Abort p.0.0.0 p.0.0.1, p.0.1) in
    subst (λ (y : Body × List ℕ). TakesBody kinds.Abort bytes y) (ok_is made x p.2) (t.0, (refl, t.1))
body_takes kinds.Over bytes x fits e = no_body_takes kinds.Over bodies.Over bytes x fits refl (refl, refl) e

body_again : (b : Body) (rest : List ℕ) → is_body b ≡ true → body_at (kind_of b) (body_text b ++ rest) ≡ Ok (b, rest)
unfolding body_at
body_again bodies.Hello rest ok = refl
body_again (bodies.Members incarnations) rest ok = rw (incarnations_form.again incarnations rest ok) refl
body_again bodies.Steal rest ok = refl
body_again (bodies.Give serial attempt prefix) rest ok =
    let both = and_both (is_child serial attempt) (are_options 0 prefix) ok in
    chained_again child_at (λ child. options_at 0) give_made child_form (λ child ok. options_form 0) (serial, attempt) prefix rest both.0 both.1
body_again (bodies.GiveMany prefix siblings) rest ok = rw (group_form.again (prefix, siblings) rest ok) refl
body_again bodies.NoWork rest ok = refl
body_again (bodies.Return serial attempt result) rest ok =
    let both = and_both (is_child serial attempt) (is_result result) ok in
    chained_again child_at (λ child. result_at) return_made child_form (λ child ok. result_form) (serial, attempt) result rest both.0 both.1
body_again (bodies.Accept serial attempt result) rest ok =
    let both = and_both (is_child serial attempt) (is_result result) ok in
    chained_again child_at (λ child. result_at) accept_made child_form (λ child ok. result_form) (serial, attempt) result rest both.0 both.1
body_again (bodies.Refuse serial attempt cause) rest ok =
    chained_again child_at (λ child. cause_at) refuse_made child_form (λ child ok. cause_form) (serial, attempt) cause rest ok tt
body_again (bodies.Abort serial attempt) rest ok = rw (child_form.again (serial, attempt) rest ok) refl
body_again bodies.Over rest ok = refl

pub body_form : (kind : Kind) → IsForm (body_at kind) body_text (IsBodyOf kind)
body_form kind = record {
  takes = body_takes kind;
  again = λ b rest is. subst (λ (k : Kind). body_at k (body_text b ++ rest) ≡ Ok (b, rest)) is.0 (body_again b rest is.1);
}
