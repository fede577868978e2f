-- The order of sites: by node, then by incarnation.
use Rattle.std.proofs.Common.{◌≡◌, ◌⊎◌, ◌<◌, true, false, ◌&&◌, ◌==◌, nat_lt, ◌∙◌, inl, inr, ⊎_elim, arith}
use Rattle.std.proofs.lemmas.Bool.{and_from, and_parts, both_ways, eqb-true, eq-eqb, false_from_ne_true, lt-ltb, ltb-true, or_cases, or_left, or_right}
use Rattle.audit.specs.Audits.{site_before}
use Rattle.spawn_frame.specs.declared.site.Site.{Site}

abbrev Before : Site → Site → Type 0
Before s t = (s.node < t.node) ⊎ ((s.node ≡ t.node) × (s.incarnation < t.incarnation))

before_is : (s t : Site) → site_before s t ≡ true → Before s t
before_is s t h = ⊎_elim
    (λ (l : nat_lt s.node t.node ≡ true). inl (ltb-true s.node t.node l))
    (λ (l : (s.node == t.node && nat_lt s.incarnation t.incarnation) ≡ true).
    let p = and_parts (s.node == t.node) (nat_lt s.incarnation t.incarnation) l in
    inr (eqb-true s.node t.node p.0, ltb-true s.incarnation t.incarnation p.1))
    (or_cases (nat_lt s.node t.node) (s.node == t.node && nat_lt s.incarnation t.incarnation) h)

is_before : (s t : Site) → Before s t → site_before s t ≡ true
is_before s t (inl l) = or_left (nat_lt s.node t.node) (s.node == t.node && nat_lt s.incarnation t.incarnation) (lt-ltb s.node t.node l)
is_before s t (inr p) = or_right (nat_lt s.node t.node) (s.node == t.node && nat_lt s.incarnation t.incarnation)
    (and_from (s.node == t.node) (nat_lt s.incarnation t.incarnation) (eq-eqb s.node t.node p.0) (lt-ltb s.incarnation t.incarnation p.1))

-- an earlier incarnation of a node is before a later one
pub earlier_is_before : (s t : Site) → s.node ≡ t.node → s.incarnation < t.incarnation → site_before s t ≡ true
earlier_is_before s t node incarnation = is_before s t (inr (node, incarnation))

pub not_itself : (s : Site) → site_before s s ≡ false
not_itself s = false_from_ne_true (site_before s s) (λ h.
    ⊎_elim
    (λ (l : s.node < s.node). omega (arith, l))
    (λ (l : (s.node ≡ s.node) × (s.incarnation < s.incarnation)). omega (arith, l.1))
    (before_is s s h))

before_then : (s t u : Site) → Before s t → Before t u → Before s u
before_then s t u g h =
    ⊎_elim
    (λ (a : s.node < t.node).
    ⊎_elim
    (λ (b : t.node < u.node). inl (omega (arith, a, b)))
    (λ (b : (t.node ≡ u.node) × (t.incarnation < u.incarnation)). inl (omega (arith, a, b.0)))
    h)
    (λ (a : (s.node ≡ t.node) × (s.incarnation < t.incarnation)).
    ⊎_elim
    (λ (b : t.node < u.node). inl (omega (arith, a.0, b)))
    (λ (b : (t.node ≡ u.node) × (t.incarnation < u.incarnation)). inr (a.0 ∙ b.0, omega (arith, a.1, b.1)))
    h)
    g

-- what is not before a site is not before a lesser one
pub not_before_lesser : (s t u : Site) → site_before s t ≡ true → site_before u t ≡ false → site_before u s ≡ false
not_before_lesser s t u less not =
    false_from_ne_true (site_before u s) (λ h.
    both_ways (site_before u t) not (is_before u t (before_then u s t (before_is u s h) (before_is s t less))))
