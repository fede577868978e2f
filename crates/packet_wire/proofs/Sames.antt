-- `==` of packets is true exactly where they are the same.
use Rattle.std.proofs.Common.{rules, ◌≡◌, ℕ, ◌==◌, ◌&&◌, Bool, List, true, refl, subst}
use Rattle.std.specs.Cmp.{first_so, second_so}
use Rattle.std.specs.Cmp.Lexicographic.{pointwise_decides}
use Rattle.std.proofs.lemmas.Bool.{and_from, and_parts, eq-eqb, eqb-true}
use Rattle.spawn_frame.specs.contracts.siblings.SiblingsPartialEq.TheImpl as siblings
use Rattle.spawn_frame.specs.contracts.site.SitePartialEq.TheImpl as sites
use Rattle.spawn_frame.specs.declared.siblings.Sibling.{Sibling}
use Rattle.spawn_frame.specs.declared.site.Site.{Site}
use Rattle.packet_wire.specs.contracts.packet.BodyPartialEq.TheImpl as bodies
use Rattle.packet_wire.specs.contracts.packet.PacketEq.TheImpl.Laws.{laws-law}
use Rattle.packet_wire.specs.contracts.packet.PacketPartialEq.TheImpl as packets
use Rattle.packet_wire.specs.declared.packet.Body.{Body}
use Rattle.packet_wire.specs.declared.packet.Body.TheVariants.{GiveMany}
use Rattle.packet_wire.specs.declared.packet.Packet.{Packet}

same_site : (s t : Site) → (sites.eq-value).it s t ≡ true → s ≡ t
same_site s t e = search rules

abbrev is_equal : Sibling → Sibling → Bool
is_equal s t = s.serial == t.serial && (s.attempt == t.attempt && s.option == t.option)

same_sibling : (s t : Sibling) → is_equal s t ≡ true → s ≡ t
same_sibling s t e =
    let p = and_parts (s.serial == t.serial) (s.attempt == t.attempt && s.option == t.option) e in
    let q = and_parts (s.attempt == t.attempt) (s.option == t.option) p.1 in
    let serial : s.serial ≡ t.serial = eqb-true s.serial t.serial p.0 in
    let attempt : s.attempt ≡ t.attempt = eqb-true s.attempt t.attempt q.0 in
    let option : s.option ≡ t.option = eqb-true s.option t.option q.1 in
    λ i. record { serial = serial i; attempt = attempt i; option = option i }

equal_sibling : (s t : Sibling) → s ≡ t → is_equal s t ≡ true
equal_sibling s t e =
    subst (λ u. is_equal s u ≡ true) e
    (and_from (s.serial == s.serial) (s.attempt == s.attempt && s.option == s.option) (eq-eqb s.serial s.serial refl)
    (and_from (s.attempt == s.attempt) (s.option == s.option) (eq-eqb s.attempt s.attempt refl) (eq-eqb s.option s.option refl)))

same_siblings : (a b : List Sibling) → (siblings.ghosts).eq a b ≡ true → a ≡ b
same_siblings a b e = (pointwise_decides (λ s t. (same_sibling s t, equal_sibling s t)) a b).0 e

many_parts : (p q : List ℕ) (ss ts : List Sibling) → (bodies.eq-value).it (GiveMany p ss) (GiveMany q ts) ≡ true → (p ≡ q) × ((siblings.ghosts).eq ss ts ≡ true)
many_parts p q ss ts e = (search rules, search rules)

same_body : (a b : Body) → (bodies.eq-value).it a b ≡ true → a ≡ b
same_body (GiveMany p ss) (GiveMany q ts) e =
    let h = many_parts p q ss ts e in
    let children = same_siblings ss ts h.1 in
    λ i. GiveMany (h.0 i) (children i)
same_body a b e = search rules

by_fields : (p q : Packet) → p.from ≡ q.from → p.to ≡ q.to → p.body ≡ q.body → p ≡ q
by_fields p q from to body i = record { from = from i; to = to i; body = body i }

pub same_packet : (p q : Packet) → (packets.eq-value).it p q ≡ true → p ≡ q
same_packet p q e =
    let from = first_so ((sites.eq-value).it p.from q.from) _ e in
    let rest = second_so ((sites.eq-value).it p.from q.from) _ e in
    let to = first_so ((sites.eq-value).it p.to q.to) _ rest in
    let body = second_so ((sites.eq-value).it p.to q.to) _ rest in
    by_fields p q (same_site p.from q.from from) (same_site p.to q.to to) (same_body p.body q.body body)

pub equal_packet : (p q : Packet) → p ≡ q → (packets.eq-value).it p q ≡ true
equal_packet p q e = subst (λ (r : Packet). (packets.eq-value).it p r ≡ true) e (laws-law.refl p)
