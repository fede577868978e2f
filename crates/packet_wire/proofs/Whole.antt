-- Packets: what is read is well-formed and spelled so, and what is well-formed is read again.
use Rattle.std.proofs.Common.{◌≡◌, ℕ, true, cond, eqb, List, [], ◌++◌, length, Result, Ok, Err, refl, sym, ap, subst, ◌∙◌, append_assoc}
use Rattle.std.specs.Prelude.{IfOk}
use Rattle.std.proofs.lemmas.Bool.{eqb-true}
use Rattle.std.proofs.lemmas.List.{append-nil, nil_from_length}
use Rattle.spawn_frame.specs.declared.site.Site.{Site}
use Rattle.packet_wire.specs.Kinds.{is_routed, kind_of}
use Rattle.packet_wire.specs.Reading.{◌>>=◌, Gives, body_at, header_at, packet_at, reading, site_at, start_at}
use Rattle.packet_wire.specs.Spelling.{body_text, header_text, site_text, spelling, start_text}
use Rattle.packet_wire.specs.WellFormed.{is_body, is_site, is_well_formed}
use Rattle.packet_wire.specs.declared.fault.WireFault.{WireFault}
use Rattle.packet_wire.specs.declared.fault.WireFault.TheVariants as faults
use Rattle.packet_wire.specs.declared.kind.Kind.{Kind}
use Rattle.packet_wire.specs.declared.packet.Body.{Body}
use Rattle.packet_wire.specs.declared.packet.Packet.{Packet}
use Rattle.packet_wire.specs.declared.reading.Header.{Header}
use Rattle.packet_wire.proofs.Bodies.{IsBodyOf, body_form, start_form}
use Rattle.packet_wire.proofs.Fields.{IsBytes, IsForm, Takes, Takes-then, and_both, bind_ok, both_and, guard_ok, ok_is}
use Rattle.packet_wire.proofs.Forms.{chained_again, chained_takes, site_form}

-- ---- the header

pub record IsHeader (h : Header) : Type 0 where
  pub from : is_site h.from ≡ true
  pub to : is_site h.to ≡ true
  pub routed : is_routed h.kind h.from h.to ≡ true

abbrev header_made : Kind → Site → Site → Header
header_made kind from to = record { kind = kind; from = from; to = to }

header_takes : (bytes : List ℕ) (x : Header × List ℕ) → IsBytes bytes → header_at bytes ≡ Ok x → Takes bytes (header_text x.0.kind x.0.from x.0.to) x.1 × IsHeader x.0
unfolding header_at
header_takes bytes x fits e =
    let a = bind_ok (start_at bytes) (λ kind. site_at kind.1 >>= λ from. site_at from.1 >>= λ to. cond (is_routed kind.0 from.0 to.0) (Ok (header_made kind.0 from.0 to.0, to.1)) (Err faults.Field)) x e in
    let b = bind_ok (site_at a.0.1) (λ from. site_at from.1 >>= λ to. cond (is_routed a.0.0 from.0 to.0) (Ok (header_made a.0.0 from.0 to.0, to.1)) (Err faults.Field)) x a.2 in
    let c = bind_ok (site_at b.0.1) (λ to. cond (is_routed a.0.0 b.0.0 to.0) (Ok (header_made a.0.0 b.0.0 to.0, to.1)) (Err faults.Field)) x b.2 in
    let made : Header × List ℕ = (header_made a.0.0 b.0.0 c.0.0, c.0.1) in
    let g = guard_ok (is_routed a.0.0 b.0.0 c.0.0) faults.Field made x c.2 in
    let t0 = start_form.takes bytes a.0 fits a.1 in
    let t1 = site_form.takes a.0.1 b.0 t0.0.rest_fits b.1 in
    let t2 = site_form.takes b.0.1 c.0 t1.0.rest_fits c.1 in
    let sites = Takes-then a.0.1 (site_text b.0.0) b.0.1 (site_text c.0.0) c.0.1 t1.0 t2.0 in
    let whole = Takes-then bytes (start_text a.0.0) a.0.1 (site_text b.0.0 ++ site_text c.0.0) c.0.1 t0.0 sites in
    subst (λ (y : Header × List ℕ). Takes bytes (header_text y.0.kind y.0.from y.0.to) y.1 × IsHeader y.0) g.1 (whole, record { from = t1.1; to = t2.1; routed = g.0 })

header_again : (h : Header) (rest : List ℕ) → IsHeader h → header_at (header_text h.kind h.from h.to ++ rest) ≡ Ok (h, rest)
unfolding header_at
header_again h rest is =
    let from-ok : is_site h.from ≡ true = is.from in
    let to-ok : is_site h.to ≡ true = is.to in
    let routed : is_routed h.kind h.from h.to ≡ true = is.routed in
    let regrouped : header_text h.kind h.from h.to ++ rest ≡ start_text h.kind ++ (site_text h.from ++ (site_text h.to ++ rest)) =
    append_assoc (start_text h.kind) (site_text h.from ++ site_text h.to) rest ∙ ap (λ (x : List ℕ). start_text h.kind ++ x) (append_assoc (site_text h.from) (site_text h.to) rest) in
    ap header_at regrouped ∙ rw (start_form.again h.kind (site_text h.from ++ (site_text h.to ++ rest)) tt, site_form.again h.from (site_text h.to ++ rest) from-ok, site_form.again h.to rest to-ok, routed) refl

header_form : IsForm header_at (λ h. header_text h.kind h.from h.to) IsHeader
header_form = record { takes = header_takes; again = header_again }

-- ---- the packet

abbrev packet_made : Header → Body → Packet
packet_made h b = record { from = h.from; to = h.to; body = b }

well_formed_of : (h : Header) (b : Body) → IsHeader h → IsBodyOf h.kind b → is_well_formed (packet_made h b) ≡ true
well_formed_of h b head body =
    let routed : is_routed (kind_of b) h.from h.to ≡ true = subst (λ (k : Kind). is_routed k h.from h.to ≡ true) (sym body.0) head.routed in
    both_and _ _ head.from (both_and _ _ head.to (both_and _ _ routed body.1))

packet_takes : (bytes : List ℕ) (x : Packet × List ℕ) → IsBytes bytes → packet_at bytes ≡ Ok x → Takes bytes (spelling x.0) x.1 × (is_well_formed x.0 ≡ true)
unfolding packet_at
packet_takes bytes x fits e =
    let p = chained_takes header_at (λ h. body_at h.kind) packet_made header_form (λ h ok. body_form h.kind) bytes x fits e in
    let spelled : Takes bytes (spelling (packet_made p.a p.b)) x.1 = subst (λ (k : Kind). Takes bytes (header_text k p.a.from p.a.to ++ body_text p.b) x.1) (sym p.second.0) p.takes in
    subst (λ (q : Packet). Takes bytes (spelling q) x.1 × (is_well_formed q ≡ true)) p.made (spelled, well_formed_of p.a p.b p.first p.second)

pub header_of : (p : Packet) → is_well_formed p ≡ true → IsHeader (header_made (kind_of p.body) p.from p.to) × (is_body p.body ≡ true)
header_of p ok =
    let a = and_both (is_site p.from) _ ok in
    let b = and_both (is_site p.to) _ a.1 in
    let c = and_both (is_routed (kind_of p.body) p.from p.to) (is_body p.body) b.1 in
    (record { from = a.0; to = b.0; routed = c.0 }, c.1)

packet_again : (p : Packet) (rest : List ℕ) → is_well_formed p ≡ true → packet_at (spelling p ++ rest) ≡ Ok (p, rest)
unfolding packet_at
packet_again p rest ok =
    let parts = header_of p ok in
    chained_again header_at (λ h. body_at h.kind) packet_made header_form (λ h ok. body_form h.kind) (header_made (kind_of p.body) p.from p.to) p.body rest parts.0 (refl, parts.1)

-- what is read is well-formed, and spelled so
pub reading_takes : (bytes : List ℕ) (p : Packet) → IsBytes bytes → reading bytes ≡ Ok p → (is_well_formed p ≡ true) × (bytes ≡ spelling p)
unfolding reading
reading_takes bytes p fits e =
    let a = bind_ok (packet_at bytes) (λ packet. cond (eqb (length packet.1) 0) (Ok packet.0) (Err faults.Trailing)) p e in
    let g = guard_ok (eqb (length a.0.1) 0) faults.Trailing a.0.0 p a.2 in
    let t = packet_takes bytes a.0 fits a.1 in
    let nothing : a.0.1 ≡ [] = nil_from_length a.0.1 (eqb-true _ _ g.0) in
    let whole : bytes ≡ spelling a.0.0 = t.0.parts ∙ ap (λ (r : List ℕ). spelling a.0.0 ++ r) nothing ∙ append-nil (spelling a.0.0) in
    subst (λ (q : Packet). (is_well_formed q ≡ true) × (bytes ≡ spelling q)) g.1 (t.1, whole)

-- what is well-formed is read again
pub reading_again : (p : Packet) → is_well_formed p ≡ true → reading (spelling p) ≡ Ok p
unfolding reading
reading_again p ok =
    let whole : packet_at (spelling p) ≡ Ok (p, []) = ap packet_at (sym (append-nil (spelling p))) ∙ packet_again p [] ok in
    rw whole refl

-- ---- what read_packet says of it

pub is_found : (bytes : List ℕ) (r : Result Packet WireFault) → IsBytes bytes → Gives (λ p. p) r (reading bytes) → IfOk r (λ p. (is_well_formed p ≡ true) × (bytes ≡ spelling p))
is_found bytes (Ok p) fits given = reading_takes bytes p fits given
is_found bytes (Err e) fits given = tt

-- a packet that is spelled so, from its spelling and what stands behind it
front_is : (p q : Packet) (rest more : List ℕ) → is_well_formed p ≡ true → is_well_formed q ≡ true → spelling p ++ rest ≡ spelling q ++ more → (p ≡ q) × (rest ≡ more)
front_is p q rest more p-ok q-ok same =
    let left : packet_at (spelling p ++ rest) ≡ Ok (p, rest) = packet_again p rest p-ok in
    let right : packet_at (spelling q ++ more) ≡ Ok (q, more) = packet_again q more q-ok in
    let first : Packet × List ℕ = (p, rest) in
    let second : Packet × List ℕ = (q, more) in
    let is : first ≡ second = ok_is first second (sym left ∙ ap packet_at same ∙ right) in
    (ap (λ (x : Packet × List ℕ). x.0) is, ap (λ (x : Packet × List ℕ). x.1) is)

pub begins_no_other : (p q : Packet) (rest : List ℕ) → is_well_formed p ≡ true → is_well_formed q ≡ true → spelling q ≡ spelling p ++ rest → (p ≡ q) × (rest ≡ [])
begins_no_other p q rest p-ok q-ok same = front_is p q rest [] p-ok q-ok (sym same ∙ sym (append-nil (spelling q)))

pub one_packet : (p q : Packet) → is_well_formed p ≡ true → is_well_formed q ≡ true → spelling p ≡ spelling q → p ≡ q
one_packet p q p-ok q-ok same = (front_is p q [] [] p-ok q-ok (ap (λ (bytes : List ℕ). bytes ++ []) same)).0
