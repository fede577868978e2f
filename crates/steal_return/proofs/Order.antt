-- The order of guests.
use Rattle.std.proofs.Common.{◌≡◌, ◌⊎◌, ℕ, ◌<◌, Bool, true, false, ◌&&◌, ◌||◌, ◌==◌, nat_lt, List, [], ◌∷◌, refl, subst, inl, inr, ⊎_elim, arith}
use Rattle.std.specs.List.{AllByRecursion}
use Rattle.std.proofs.lemmas.Bool.{and_from, and_parts, eq-eqb, eqb-true, ltb-true, or_cases}
use Rattle.spawn_frame.specs.Names.{guest_before, same_name, same_site}
use Rattle.spawn_frame.specs.Units.{GuestEntry, is_guest}
use Rattle.spawn_frame.specs.declared.site.ChildName.{ChildName}
use Rattle.spawn_frame.proofs.Sames.{site_path}

-- by a first number, and where it is the same by the rest
abbrev lex : ℕ → ℕ → Bool → Bool
lex a b rest = nat_lt a b || (a == b && rest)

lex_cases : (a b : ℕ) (r : Bool) → lex a b r ≡ true → (a < b) ⊎ ((a ≡ b) × (r ≡ true))
lex_cases a b r h =
    ⊎_elim (λ (l : nat_lt a b ≡ true). inl (ltb-true a b l))
    (λ (e : (a == b && r) ≡ true). let p = and_parts (a == b) r e in inr (eqb-true a b p.0, p.1))
    (or_cases (nat_lt a b) (a == b && r) h)

lex_self : (a : ℕ) (r : Bool) → lex a a r ≡ true → r ≡ true
lex_self a r h =
    ⊎_elim (λ (l : a < a). absurd (omega (arith, l))) (λ (e : (a ≡ a) × (r ≡ true)). e.1) (lex_cases a a r h)

-- one guest comes before another
abbrev pub before : GuestEntry → GuestEntry → Bool
before g h = guest_before g.name g.entry.attempt h.name h.entry.attempt

pub not_before_itself : (m : ChildName) (a : ℕ) → guest_before m a m a ≡ true → ⊥
not_before_itself m a h =
    let l : a < a = ltb-true a a (lex_self m.serial _ (lex_self m.site.incarnation _ (lex_self m.site.node _ h))) in omega (arith, l)

-- ---- names

pub key_path : (name : ChildName) (attempt : ℕ) (g : GuestEntry) → is_guest name attempt g ≡ true → (g.name ≡ name) × (g.entry.attempt ≡ attempt)
key_path name attempt g h =
    let p = and_parts (same_name g.name name) (g.entry.attempt == attempt) h in
    let q = and_parts (same_site g.name.site name.site) (g.name.serial == name.serial) p.0 in
    let s : g.name.site ≡ name.site = site_path g.name.site name.site q.0 in
    let k : g.name.serial ≡ name.serial = eqb-true g.name.serial name.serial q.1 in
    ((λ j. record { site = s j; serial = k j }), eqb-true g.entry.attempt attempt p.1)

pub is_itself : (g : GuestEntry) → is_guest g.name g.entry.attempt g ≡ true
is_itself g =
    let n = g.name in
    and_from (same_name n n) (g.entry.attempt == g.entry.attempt)
    (and_from (same_site n.site n.site) (n.serial == n.serial)
    (and_from (n.site.node == n.site.node) (n.site.incarnation == n.site.incarnation) (eq-eqb n.site.node n.site.node refl) (eq-eqb n.site.incarnation n.site.incarnation refl))
    (eq-eqb n.serial n.serial refl))
    (eq-eqb g.entry.attempt g.entry.attempt refl)

-- a guest that comes before another isn't that one
pub other_guest : (g h : GuestEntry) → before g h ≡ true → is_guest h.name h.entry.attempt g ≡ false
other_guest g h b = go (is_guest h.name h.entry.attempt g) refl
  where
    go : (c : Bool) → is_guest h.name h.entry.attempt g ≡ c → c ≡ false
    go true e =
        let p = key_path h.name h.entry.attempt g e in
        absurd (not_before_itself h.name h.entry.attempt
        (subst (λ a. guest_before h.name a h.name h.entry.attempt ≡ true) p.1 (subst (λ n. guest_before n g.entry.attempt h.name h.entry.attempt ≡ true) p.0 b)))
    go false e = refl

pub other_key : (g h : GuestEntry) → before g h ≡ true → is_guest g.name g.entry.attempt h ≡ false
other_key g h b = go (is_guest g.name g.entry.attempt h) refl
  where
    go : (c : Bool) → is_guest g.name g.entry.attempt h ≡ c → c ≡ false
    go true e =
        let p = key_path g.name g.entry.attempt h e in
        absurd (not_before_itself g.name g.entry.attempt
        (subst (λ a. guest_before g.name g.entry.attempt g.name a ≡ true) p.1 (subst (λ n. guest_before g.name g.entry.attempt n h.entry.attempt ≡ true) p.0 b)))
    go false e = refl

-- ---- lists in order

pub weaker : {X : Type 0} (P Q : X → Type 0) (xs : List X) → ((x : X) → P x → Q x) → AllByRecursion P xs → AllByRecursion Q xs
weaker P Q [] f h = tt
weaker P Q (x ∷ xs) f h = (f x h.0, weaker P Q xs f h.1)
