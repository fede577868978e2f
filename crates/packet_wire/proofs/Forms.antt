-- The parts of a packet: what is read of each is spelled so and allowed, and is read again.
use Rattle.std.proofs.Common.{◌≡◌, ℕ, zero, suc, ◌<◌, Bool, true, not, ◌&&◌, List, [], ◌∷◌, ◌++◌, length, Option, Some, None, Ok, refl, sym, ap, subst, ◌∙◌, append_assoc, arith}
use Rattle.std.specs.Prelude.{nat_lt}
use Rattle.std.specs.List.{list_all}
use Rattle.std.proofs.lemmas.Bool.{ltb-true}
use Rattle.spawn_frame.specs.Gifts.{is_next}
use Rattle.spawn_frame.specs.declared.siblings.Sibling.{Sibling}
use Rattle.spawn_frame.specs.declared.site.Site.{Site}
use Rattle.packet_wire.specs.Reading.{◌>>=◌, Read, child_at, field_at, fields_at, give_many_at, incarnations_at, options_at, parent_at, sibling_at, siblings_at, site_at}
use Rattle.packet_wire.specs.Spelling.{child_text, give_many_text, incarnations_text, number, numbers, options_text, sibling_text, siblings_text, site_text}
use Rattle.packet_wire.specs.WellFormed.{are_incarnations, are_options, are_siblings, is_child, is_counted, is_incarnation_of, is_next_serial, is_node, is_node_count, is_option, is_option_count, is_parent, is_parent_count, is_serial, is_sibling, is_sibling_count, is_site}
use Rattle.packet_wire.specs.declared.fault.WireFault.TheVariants as faults
use Rattle.packet_wire.proofs.Fields.{IsBytes, IsForm, Takes, Takes-then, and_both, bind_ok, both_and, field_form, fields_form, ok_is, wide1, wide2, wide4}

-- ---- two parts, one after the other

-- both of two parts, put together
abbrev pub chained : {A B C : Type 0} → (List ℕ → Read A) → (A → List ℕ → Read B) → (A → B → C) → List ℕ → Read C
chained first second make bytes = first bytes >>= λ x. second x.0 x.1 >>= λ y. Ok (make x.0 y.0, y.1)

pub record Chained {A B C : Type 0} (make : A → B → C) (text : A → List ℕ) (more : A → B → List ℕ) (allowed : A → Type 0) (going : A → B → Type 0) (bytes : List ℕ) (x : C × List ℕ) : Type 0 where
  pub a : A
  pub b : B
  pub made : make a b ≡ x.0
  pub takes : Takes bytes (text a ++ more a b) x.1
  pub first : allowed a
  pub second : going a b

pub chained_takes : {A B C : Type 0} (first : List ℕ → Read A) (second : A → List ℕ → Read B) (make : A → B → C) {text : A → List ℕ} {more : A → B → List ℕ} {allowed : A → Type 0} {going : A → B → Type 0}
    → IsForm first text allowed → ((a : A) → allowed a → IsForm (second a) (more a) (going a))
    → (bytes : List ℕ) (x : C × List ℕ) → IsBytes bytes → chained first second make bytes ≡ Ok x → Chained make text more allowed going bytes x
chained_takes {A} {B} {C} first second make {text} {more} f g bytes x fits e =
    let p = bind_ok (first bytes) (λ x. second x.0 x.1 >>= λ y. Ok (make x.0 y.0, y.1)) x e in
    let q = bind_ok (second p.0.0 p.0.1) (λ y. Ok (make p.0.0 y.0, y.1)) x p.2 in
    let t = f.takes bytes p.0 fits p.1 in
    let u = (g p.0.0 t.1).takes p.0.1 q.0 t.0.rest_fits q.1 in
    let made : C × List ℕ = (make p.0.0 q.0.0, q.0.1) in
    let is : made ≡ x = ok_is made x q.2 in
    let both : Takes bytes (text p.0.0 ++ more p.0.0 q.0.0) q.0.1 = Takes-then bytes (text p.0.0) p.0.1 (more p.0.0 q.0.0) q.0.1 t.0 u.0 in
    record { a = p.0.0; b = q.0.0; made = ap (λ (y : C × List ℕ). y.0) is; takes = subst (λ (y : C × List ℕ). Takes bytes (text p.0.0 ++ more p.0.0 q.0.0) y.1) is both; first = t.1; second = u.1 }

pub chained_again : {A B C : Type 0} (first : List ℕ → Read A) (second : A → List ℕ → Read B) (make : A → B → C) {text : A → List ℕ} {more : A → B → List ℕ} {allowed : A → Type 0} {going : A → B → Type 0}
    → IsForm first text allowed → ((a : A) → allowed a → IsForm (second a) (more a) (going a))
    → (a : A) (b : B) (rest : List ℕ) → allowed a → going a b → chained first second make ((text a ++ more a b) ++ rest) ≡ Ok (make a b, rest)
chained_again first second make {text} {more} f g a b rest p q =
    ap (chained first second make) (append_assoc (text a) (more a b) rest) ∙ rw (f.again a (more a b ++ rest) p, (g a p).again b rest q) refl

-- the second of two parts, which fixes the first
abbrev pub followed : {A B : Type 0} → (List ℕ → Read A) → (A → List ℕ → Read B) → List ℕ → Read B
followed first second bytes = first bytes >>= λ x. second x.0 x.1

pub record Followed {A B : Type 0} (text : A → List ℕ) (more : A → B → List ℕ) (allowed : A → Type 0) (going : A → B → Type 0) (bytes : List ℕ) (x : B × List ℕ) : Type 0 where
  pub a : A
  pub takes : Takes bytes (text a ++ more a x.0) x.1
  pub first : allowed a
  pub second : going a x.0

pub followed_takes : {A B : Type 0} (first : List ℕ → Read A) (second : A → List ℕ → Read B) {text : A → List ℕ} {more : A → B → List ℕ} {allowed : A → Type 0} {going : A → B → Type 0}
    → IsForm first text allowed → ((a : A) → allowed a → IsForm (second a) (more a) (going a))
    → (bytes : List ℕ) (x : B × List ℕ) → IsBytes bytes → followed first second bytes ≡ Ok x → Followed text more allowed going bytes x
followed_takes first second {text} {more} f g bytes x fits e =
    let p = bind_ok (first bytes) (λ x. second x.0 x.1) x e in
    let t = f.takes bytes p.0 fits p.1 in
    let u = (g p.0.0 t.1).takes p.0.1 x t.0.rest_fits p.2 in
    record { a = p.0.0; takes = Takes-then bytes (text p.0.0) p.0.1 (more p.0.0 x.0) x.1 t.0 u.0; first = t.1; second = u.1 }

pub followed_again : {A B : Type 0} (first : List ℕ → Read A) (second : A → List ℕ → Read B) {text : A → List ℕ} {more : A → B → List ℕ} {allowed : A → Type 0} {going : A → B → Type 0}
    → IsForm first text allowed → ((a : A) → allowed a → IsForm (second a) (more a) (going a))
    → (a : A) (b : B) (rest : List ℕ) → allowed a → going a b → followed first second ((text a ++ more a b) ++ rest) ≡ Ok (b, rest)
followed_again first second {text} {more} f g a b rest p q =
    ap (followed first second) (append_assoc (text a) (more a b) rest) ∙ rw (f.again a (more a b ++ rest) p) ((g a p).again b rest q)

-- ---- the bounds that the tests set

serial_below : (n : ℕ) → is_serial n ≡ true → n < 4294967296
serial_below n h = ltb-true _ _ h

pub counted_below : (n : ℕ) → is_counted n ≡ true → n < 4294967296
counted_below n h = ltb-true _ _ (and_both (nat_lt 0 n) (nat_lt n 4294967296) h).1

incarnation_below : (node n : ℕ) → is_incarnation_of node n ≡ true → n < 4294967296
incarnation_below node n h = counted_below n (and_both (is_counted n) _ h).0

node_below : (n : ℕ) → is_node n ≡ true → n < 256
node_below n h = let lt : n < 17 = ltb-true _ _ h in omega arith

option_below : (n : ℕ) → is_option n ≡ true → n < 65536
option_below n h = let lt : n < 20000 = ltb-true _ _ h in omega arith

count_below : (least n : ℕ) → is_option_count least n ≡ true → n < 65536
count_below least n h = let lt : n < 1001 = ltb-true _ _ (and_both (not (nat_lt n least)) (nat_lt n 1001) h).1 in omega arith

node_count_below : (n : ℕ) → is_node_count n ≡ true → n < 256
node_count_below n h = let lt : n < 17 = ltb-true _ _ (and_both (nat_lt 0 n) (nat_lt n 17) h).1 in omega arith

-- ---- sites

abbrev site_made : ℕ → ℕ → Site
site_made node incarnation = record { node = node; incarnation = incarnation }

node_form : IsForm (field_at 1 is_node faults.Field) (number 1) (λ n. is_node n ≡ true)
node_form = field_form 1 256 wide1 is_node faults.Field node_below

incarnation_form : (node : ℕ) → IsForm (field_at 4 (is_incarnation_of node) faults.Field) (number 4) (λ n. is_incarnation_of node n ≡ true)
incarnation_form node = field_form 4 4294967296 wide4 (is_incarnation_of node) faults.Field (incarnation_below node)

site_takes : (bytes : List ℕ) (x : Site × List ℕ) → IsBytes bytes → site_at bytes ≡ Ok x → Takes bytes (site_text x.0) x.1 × (is_site x.0 ≡ true)
unfolding site_at
site_takes bytes x fits e =
    let p = chained_takes (field_at 1 is_node faults.Field) (λ node. field_at 4 (is_incarnation_of node) faults.Field) site_made node_form (λ node ok. incarnation_form node) bytes x fits e in
    subst (λ (s : Site). Takes bytes (site_text s) x.1 × (is_site s ≡ true)) p.made (p.takes, both_and _ _ p.first p.second)

site_again : (s : Site) (rest : List ℕ) → is_site s ≡ true → site_at (site_text s ++ rest) ≡ Ok (s, rest)
unfolding site_at
site_again s rest ok =
    let both = and_both (is_node s.node) (is_incarnation_of s.node s.incarnation) ok in
    chained_again (field_at 1 is_node faults.Field) (λ node. field_at 4 (is_incarnation_of node) faults.Field) site_made node_form (λ node ok. incarnation_form node) s.node s.incarnation rest both.0 both.1

pub site_form : IsForm site_at site_text (λ s. is_site s ≡ true)
site_form = record { takes = site_takes; again = site_again }

-- ---- children

serial_form : IsForm (field_at 4 is_serial faults.Field) (number 4) (λ n. is_serial n ≡ true)
serial_form = field_form 4 4294967296 wide4 is_serial faults.Field serial_below

attempt_form : IsForm (field_at 4 is_counted faults.Field) (number 4) (λ n. is_counted n ≡ true)
attempt_form = field_form 4 4294967296 wide4 is_counted faults.Field counted_below

abbrev child_made : ℕ → ℕ → ℕ × ℕ
child_made serial attempt = (serial, attempt)

child_takes : (bytes : List ℕ) (x : (ℕ × ℕ) × List ℕ) → IsBytes bytes → child_at bytes ≡ Ok x → Takes bytes (child_text x.0.0 x.0.1) x.1 × (is_child x.0.0 x.0.1 ≡ true)
unfolding child_at
child_takes bytes x fits e =
    let p = chained_takes (field_at 4 is_serial faults.Field) (λ serial. field_at 4 is_counted faults.Field) child_made serial_form (λ serial ok. attempt_form) bytes x fits e in
    subst (λ (c : ℕ × ℕ). Takes bytes (child_text c.0 c.1) x.1 × (is_child c.0 c.1 ≡ true)) p.made (p.takes, both_and _ _ p.first p.second)

child_again : (c : ℕ × ℕ) (rest : List ℕ) → is_child c.0 c.1 ≡ true → child_at (child_text c.0 c.1 ++ rest) ≡ Ok (c, rest)
unfolding child_at
child_again c rest ok =
    let both = and_both (is_serial c.0) (is_counted c.1) ok in
    chained_again (field_at 4 is_serial faults.Field) (λ serial. field_at 4 is_counted faults.Field) child_made serial_form (λ serial ok. attempt_form) c.0 c.1 rest both.0 both.1

pub child_form : IsForm child_at (λ c. child_text c.0 c.1) (λ c. is_child c.0 c.1 ≡ true)
child_form = record { takes = child_takes; again = child_again }

-- ---- lists

options_takes : (least : ℕ) (bytes : List ℕ) (x : List ℕ × List ℕ) → IsBytes bytes → options_at least bytes ≡ Ok x → Takes bytes (options_text x.0) x.1 × (are_options least x.0 ≡ true)
unfolding options_at
options_takes least bytes x fits e =
    let p = followed_takes (field_at 2 (is_option_count least) faults.Field) (λ count. fields_at 2 is_option count) (field_form 2 65536 wide2 (is_option_count least) faults.Field (count_below least)) (λ count ok. fields_form 2 65536 wide2 is_option option_below count) bytes x fits e in
    let counted : is_option_count least (length x.0) ≡ true = subst (λ (n : ℕ). is_option_count least n ≡ true) (sym p.second.0) p.first in
    (subst (λ (n : ℕ). Takes bytes (number 2 n ++ numbers 2 x.0) x.1) (sym p.second.0) p.takes, both_and _ _ counted p.second.1)

options_again : (least : ℕ) (options rest : List ℕ) → are_options least options ≡ true → options_at least (options_text options ++ rest) ≡ Ok (options, rest)
unfolding options_at
options_again least options rest ok =
    let both = and_both (is_option_count least (length options)) (list_all is_option options) ok in
    followed_again (field_at 2 (is_option_count least) faults.Field) (λ count. fields_at 2 is_option count) (field_form 2 65536 wide2 (is_option_count least) faults.Field (count_below least)) (λ count ok. fields_form 2 65536 wide2 is_option option_below count) (length options) options rest both.0 (refl, both.1)

pub options_form : (least : ℕ) → IsForm (options_at least) options_text (λ options. are_options least options ≡ true)
options_form least = record { takes = options_takes least; again = options_again least }

incarnations_takes : (bytes : List ℕ) (x : List ℕ × List ℕ) → IsBytes bytes → incarnations_at bytes ≡ Ok x → Takes bytes (incarnations_text x.0) x.1 × (are_incarnations x.0 ≡ true)
unfolding incarnations_at
incarnations_takes bytes x fits e =
    let p = followed_takes (field_at 1 is_node_count faults.Field) (λ count. fields_at 4 is_counted count) (field_form 1 256 wide1 is_node_count faults.Field node_count_below) (λ count ok. fields_form 4 4294967296 wide4 is_counted counted_below count) bytes x fits e in
    let counted : is_node_count (length x.0) ≡ true = subst (λ (n : ℕ). is_node_count n ≡ true) (sym p.second.0) p.first in
    (subst (λ (n : ℕ). Takes bytes (number 1 n ++ numbers 4 x.0) x.1) (sym p.second.0) p.takes, both_and _ _ counted p.second.1)

incarnations_again : (incarnations rest : List ℕ) → are_incarnations incarnations ≡ true → incarnations_at (incarnations_text incarnations ++ rest) ≡ Ok (incarnations, rest)
unfolding incarnations_at
incarnations_again incarnations rest ok =
    let both = and_both (is_node_count (length incarnations)) (list_all is_counted incarnations) ok in
    followed_again (field_at 1 is_node_count faults.Field) (λ count. fields_at 4 is_counted count) (field_form 1 256 wide1 is_node_count faults.Field node_count_below) (λ count ok. fields_form 4 4294967296 wide4 is_counted counted_below count) (length incarnations) incarnations rest both.0 (refl, both.1)

pub incarnations_form : IsForm incarnations_at incarnations_text (λ incarnations. are_incarnations incarnations ≡ true)
incarnations_form = record { takes = incarnations_takes; again = incarnations_again }

-- ---- children that are given together

parent_count_below : (n : ℕ) → is_parent_count n ≡ true → n < 65536
parent_count_below n h = let lt : n < 1000 = ltb-true _ _ h in omega arith

sibling_count_below : (n : ℕ) → is_sibling_count n ≡ true → n < 256
sibling_count_below n h = let lt : n < 9 = ltb-true _ _ (and_both (nat_lt 1 n) (nat_lt n 9) h).1 in omega arith

next_below : (last : Option ℕ) (n : ℕ) → is_next_serial last n ≡ true → n < 4294967296
next_below last n h = serial_below n (and_both (is_serial n) (is_next last n) h).0

parent_takes : (bytes : List ℕ) (x : List ℕ × List ℕ) → IsBytes bytes → parent_at bytes ≡ Ok x → Takes bytes (options_text x.0) x.1 × (is_parent x.0 ≡ true)
unfolding parent_at
parent_takes bytes x fits e =
    let p = followed_takes (field_at 2 is_parent_count faults.Field) (λ count. fields_at 2 is_option count) (field_form 2 65536 wide2 is_parent_count faults.Field parent_count_below) (λ count ok. fields_form 2 65536 wide2 is_option option_below count) bytes x fits e in
    let counted : is_parent_count (length x.0) ≡ true = subst (λ (n : ℕ). is_parent_count n ≡ true) (sym p.second.0) p.first in
    (subst (λ (n : ℕ). Takes bytes (number 2 n ++ numbers 2 x.0) x.1) (sym p.second.0) p.takes, both_and _ _ counted p.second.1)

parent_again : (prefix rest : List ℕ) → is_parent prefix ≡ true → parent_at (options_text prefix ++ rest) ≡ Ok (prefix, rest)
unfolding parent_at
parent_again prefix rest ok =
    let both = and_both (is_parent_count (length prefix)) (list_all is_option prefix) ok in
    followed_again (field_at 2 is_parent_count faults.Field) (λ count. fields_at 2 is_option count) (field_form 2 65536 wide2 is_parent_count faults.Field parent_count_below) (λ count ok. fields_form 2 65536 wide2 is_option option_below count) (length prefix) prefix rest both.0 (refl, both.1)

parent_form : IsForm parent_at options_text (λ prefix. is_parent prefix ≡ true)
parent_form = record { takes = parent_takes; again = parent_again }

next_form : (last : Option ℕ) → IsForm (field_at 4 (is_next_serial last) faults.Field) (number 4) (λ n. is_next_serial last n ≡ true)
next_form last = field_form 4 4294967296 wide4 (is_next_serial last) faults.Field (next_below last)

option_form : IsForm (field_at 2 is_option faults.Field) (number 2) (λ n. is_option n ≡ true)
option_form = field_form 2 65536 wide2 is_option faults.Field option_below

abbrev sibling_made : ℕ → ℕ → ℕ → Sibling
sibling_made serial attempt option = record { serial = serial; attempt = attempt; option = option }

sibling_takes : (last : Option ℕ) (bytes : List ℕ) (x : Sibling × List ℕ) → IsBytes bytes → sibling_at last bytes ≡ Ok x → Takes bytes (sibling_text x.0) x.1 × (is_sibling last x.0 ≡ true)
unfolding sibling_at
sibling_takes last bytes x fits e =
    let a = bind_ok (field_at 4 (is_next_serial last) faults.Field bytes) (λ serial. field_at 4 is_counted faults.Field serial.1 >>= λ attempt. field_at 2 is_option faults.Field attempt.1 >>= λ option. Ok (sibling_made serial.0 attempt.0 option.0, option.1)) x e in
    let b = bind_ok (field_at 4 is_counted faults.Field a.0.1) (λ attempt. field_at 2 is_option faults.Field attempt.1 >>= λ option. Ok (sibling_made a.0.0 attempt.0 option.0, option.1)) x a.2 in
    let c = bind_ok (field_at 2 is_option faults.Field b.0.1) (λ option. Ok (sibling_made a.0.0 b.0.0 option.0, option.1)) x b.2 in
    let t = (next_form last).takes bytes a.0 fits a.1 in
    let u = attempt_form.takes a.0.1 b.0 t.0.rest_fits b.1 in
    let v = option_form.takes b.0.1 c.0 u.0.rest_fits c.1 in
    let inner = Takes-then a.0.1 (number 4 b.0.0) b.0.1 (number 2 c.0.0) c.0.1 u.0 v.0 in
    let whole = Takes-then bytes (number 4 a.0.0) a.0.1 (number 4 b.0.0 ++ number 2 c.0.0) c.0.1 t.0 inner in
    let made : Sibling × List ℕ = (sibling_made a.0.0 b.0.0 c.0.0, c.0.1) in
    subst (λ (y : Sibling × List ℕ). Takes bytes (sibling_text y.0) y.1 × (is_sibling last y.0 ≡ true)) (ok_is made x c.2) (whole, both_and _ _ t.1 (both_and _ _ u.1 v.1))

sibling_again : (last : Option ℕ) (s : Sibling) (rest : List ℕ) → is_sibling last s ≡ true → sibling_at last (sibling_text s ++ rest) ≡ Ok (s, rest)
unfolding sibling_at
sibling_again last s rest ok =
    let a = and_both (is_next_serial last s.serial) (is_counted s.attempt && is_option s.option) ok in
    let b = and_both (is_counted s.attempt) (is_option s.option) a.1 in
    let regrouped : sibling_text s ++ rest ≡ number 4 s.serial ++ (number 4 s.attempt ++ (number 2 s.option ++ rest)) =
    append_assoc (number 4 s.serial) (number 4 s.attempt ++ number 2 s.option) rest ∙ ap (λ (x : List ℕ). number 4 s.serial ++ x) (append_assoc (number 4 s.attempt) (number 2 s.option) rest) in
    ap (sibling_at last) regrouped
    ∙ rw ((next_form last).again s.serial (number 4 s.attempt ++ (number 2 s.option ++ rest)) a.0, attempt_form.again s.attempt (number 2 s.option ++ rest) b.0, option_form.again s.option rest b.1) refl

sibling_form : (last : Option ℕ) → IsForm (sibling_at last) sibling_text (λ s. is_sibling last s ≡ true)
sibling_form last = record { takes = sibling_takes last; again = sibling_again last }

-- so many children, whose serials rise above the last one
abbrev pub AreRising : Option ℕ → ℕ → List Sibling → Type 0
AreRising last count ss = (length ss ≡ count) × (are_siblings last ss ≡ true)

siblings_take : (last : Option ℕ) (count : ℕ) (bytes : List ℕ) (x : List Sibling × List ℕ) → IsBytes bytes → siblings_at last count bytes ≡ Ok x → Takes bytes (siblings_text x.0) x.1 × AreRising last count x.0
unfolding siblings_at
siblings_take last zero bytes x fits e =
    let made : List Sibling × List ℕ = ([], bytes) in
    subst (λ (y : List Sibling × List ℕ). Takes bytes (siblings_text y.0) y.1 × AreRising last 0 y.0) (ok_is made x e) (record { parts = refl; rest_fits = fits }, (refl, refl))
siblings_take last (suc count) bytes x fits e =
    let a = bind_ok (sibling_at last bytes) (λ first. siblings_at (Some first.0.serial) count first.1 >>= λ others. Ok (first.0 ∷ others.0, others.1)) x e in
    let b = bind_ok (siblings_at (Some a.0.0.serial) count a.0.1) (λ others. Ok (a.0.0 ∷ others.0, others.1)) x a.2 in
    let first = (sibling_form last).takes bytes a.0 fits a.1 in
    let second = siblings_take (Some a.0.0.serial) count a.0.1 b.0 first.0.rest_fits b.1 in
    let both = Takes-then bytes (sibling_text a.0.0) a.0.1 (siblings_text b.0.0) b.0.1 first.0 second.0 in
    let made : List Sibling × List ℕ = (a.0.0 ∷ b.0.0, b.0.1) in
    subst (λ (y : List Sibling × List ℕ). Takes bytes (siblings_text y.0) y.1 × AreRising last (suc count) y.0) (ok_is made x b.2) (both, (ap suc second.1.0, both_and _ _ first.1 second.1.1))

siblings_again : (last : Option ℕ) (ss : List Sibling) (rest : List ℕ) → are_siblings last ss ≡ true → siblings_at last (length ss) (siblings_text ss ++ rest) ≡ Ok (ss, rest)
unfolding siblings_at
siblings_again last [] rest ok = refl
siblings_again last (s ∷ ss) rest ok =
    let each = and_both (is_sibling last s) (are_siblings (Some s.serial) ss) ok in
    let regrouped : siblings_text (s ∷ ss) ++ rest ≡ sibling_text s ++ (siblings_text ss ++ rest) = append_assoc (sibling_text s) (siblings_text ss) rest in
    ap (siblings_at last (suc (length ss))) regrouped ∙ rw (sibling_again last s (siblings_text ss ++ rest) each.0, siblings_again (Some s.serial) ss rest each.1) refl

siblings_form : (last : Option ℕ) (count : ℕ) → IsForm (siblings_at last count) siblings_text (AreRising last count)
siblings_form last count = record {
  takes = siblings_take last count;
  again = λ ss rest ok. subst (λ (k : ℕ). siblings_at last k (siblings_text ss ++ rest) ≡ Ok (ss, rest)) ok.0 (siblings_again last ss rest ok.1);
}

-- ---- a prefix and the children of it

abbrev pub Group : Type 0
Group = List ℕ × List Sibling

abbrev group_made : List ℕ → List Sibling → Group
group_made prefix siblings = (prefix, siblings)

abbrev pub group_text : Group → List ℕ
group_text g = give_many_text g.0 g.1

abbrev pub is_group : Group → Bool
is_group g = is_sibling_count (length g.1) && (is_parent g.0 && are_siblings None g.1)

abbrev family_at : ℕ → List ℕ → Read Group
family_at count bytes = chained parent_at (λ prefix. siblings_at None count) group_made bytes

abbrev AreFamily : ℕ → Group → Type 0
AreFamily count g = (is_parent g.0 ≡ true) × AreRising None count g.1

family_form : (count : ℕ) → IsForm (family_at count) (λ g. options_text g.0 ++ siblings_text g.1) (AreFamily count)
family_form count = record {
  takes = λ bytes x fits e.
      let p = chained_takes parent_at (λ prefix. siblings_at None count) group_made parent_form (λ prefix ok. siblings_form None count) bytes x fits e in
      subst (λ (g : Group). Takes bytes (options_text g.0 ++ siblings_text g.1) x.1 × AreFamily count g) p.made (p.takes, (p.first, p.second));
  again = λ g rest ok. chained_again parent_at (λ prefix. siblings_at None count) group_made parent_form (λ prefix ok. siblings_form None count) g.0 g.1 rest ok.0 ok.1;
}

group_takes : (bytes : List ℕ) (x : Group × List ℕ) → IsBytes bytes → give_many_at bytes ≡ Ok x → Takes bytes (group_text x.0) x.1 × (is_group x.0 ≡ true)
unfolding give_many_at
group_takes bytes x fits e =
    let p = followed_takes (field_at 1 is_sibling_count faults.Field) family_at (field_form 1 256 wide1 is_sibling_count faults.Field sibling_count_below) (λ count ok. family_form count) bytes x fits e in
    let counted : is_sibling_count (length x.0.1) ≡ true = subst (λ (n : ℕ). is_sibling_count n ≡ true) (sym p.second.1.0) p.first in
    (subst (λ (n : ℕ). Takes bytes (number 1 n ++ (options_text x.0.0 ++ siblings_text x.0.1)) x.1) (sym p.second.1.0) p.takes, both_and _ _ counted (both_and _ _ p.second.0 p.second.1.1))

group_again : (g : Group) (rest : List ℕ) → is_group g ≡ true → give_many_at (group_text g ++ rest) ≡ Ok (g, rest)
unfolding give_many_at
group_again g rest ok =
    let both = and_both (is_sibling_count (length g.1)) (is_parent g.0 && are_siblings None g.1) ok in
    let parts = and_both (is_parent g.0) (are_siblings None g.1) both.1 in
    followed_again (field_at 1 is_sibling_count faults.Field) family_at (field_form 1 256 wide1 is_sibling_count faults.Field sibling_count_below) (λ count ok. family_form count) (length g.1) g rest both.0 (parts.0, (refl, parts.1))

pub group_form : IsForm give_many_at group_text (λ g. is_group g ≡ true)
group_form = record { takes = group_takes; again = group_again }
