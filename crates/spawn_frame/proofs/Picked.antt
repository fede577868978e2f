-- The unit that is picked is there, with the status that is looked for.
use Rattle.std.proofs.Common.{◌≡◌, ℕ, suc, ◌+◌, Bool, true, false, cond, ◌&&◌, ◌==◌, nat_lt, List, [], ◌∷◌, Option, Some, None, IfSome, is_some, slice_get, refl, sym, ap, ◌∙◌, arith}
use Rattle.std.specs.List.{AllByRecursion}
use Rattle.std.proofs.lemmas.Option.{same_Some, none-some}
use Rattle.std.proofs.lemmas.Bool.{and_from, and_parts, and_right, both_ways, eqb-true, eq-eqb, false≢true, le-ltb, or_from}
use Rattle.spawn_frame.specs.Frames.{frame, frame_result}
use Rattle.spawn_frame.specs.Names.{guest_before, same_name}
use Rattle.spawn_frame.specs.Picks.{either_unit, first_guest, is_ready, is_split, last_own, pick}
use Rattle.spawn_frame.specs.Tables.{IsAscending, IsSeen, has_status, is_here, is_out}
use Rattle.spawn_frame.specs.Units.{Entry, GuestEntry, Table, guest_in, is_guest, unit_of}
use Rattle.spawn_frame.specs.Works.{IsWork, entry_of, may_become, wanted_status, wanted_unit}
use Rattle.spawn_frame.specs.declared.site.ChildName.{ChildName}
use Rattle.spawn_frame.specs.declared.status.Status.{Status}
use Rattle.spawn_frame.specs.declared.status.Status.TheVariants.{Aborted, Done, Dropped, Finished, Here, Out, Ready, Settled, Split}
use Rattle.spawn_frame.specs.declared.unit.Unit.{Unit as WorkUnit}
use Rattle.spawn_frame.specs.declared.unit.Unit.TheVariants.{Guest, Own}
use Rattle.spawn_frame.specs.declared.wanted.Wanted.{Wanted}
use Rattle.spawn_frame.specs.declared.wanted.Wanted.TheVariants as wants
use Rattle.spawn_frame.specs.declared.work.Work.{Work}
use Rattle.spawn_frame.proofs.Sames.{name_path, same_name_self}

-- ---- an own child

pub record Last (test : WorkUnit → Entry → Bool) (j : ℕ) (es : List Entry) (unit : WorkUnit) : Type 0 where
  pub place : ℕ
  pub entry : Entry
  pub unit_is : unit ≡ Own (j + place)
  pub is : slice_get es place ≡ Some entry
  pub passes : test unit entry ≡ true

last_passes : (test : WorkUnit → Entry → Bool) (j : ℕ) (es : List Entry) (unit : WorkUnit) → last_own test j es ≡ Some unit → Last test j es unit
last_passes test j [] unit e = absurd (none-some unit e)
last_passes test j (c ∷ cs) unit e = go (last_own test (suc j) cs) refl e (λ q. last_passes test (suc j) cs unit q)
  where
    here : (b : Bool) → test (Own j) c ≡ b → cond b (Some (Own j)) None ≡ Some unit → Last test j (c ∷ cs) unit
    here true t q =
        let same : Own j ≡ unit = same_Some (Own j) unit q in
        record { place = 0; entry = c; unit_is = sym same ∙ ap Own (omega arith); is = refl; passes = ap (λ u. test u c) (sym same) ∙ t }
    here false t q = absurd (none-some unit q)

    go : (o : Option WorkUnit) → last_own test (suc j) cs ≡ o → either_unit o (cond (test (Own j) c) (Some (Own j)) None) ≡ Some unit → (last_own test (suc j) cs ≡ Some unit → Last test (suc j) cs unit) → Last test j (c ∷ cs) unit
    go None t q later = here (test (Own j) c) refl q
    go (Some found) t q later =
        let l = later (t ∙ q) in
        record { place = suc l.place; entry = l.entry; unit_is = l.unit_is ∙ ap Own (omega arith); is = l.is; passes = l.passes }

-- ---- a guest

-- no guest stands before itself
pub before_itself : (n : ChildName) (a : ℕ) → guest_before n a n a ≡ false
before_itself n a =
    let node : nat_lt n.site.node n.site.node ≡ false = le-ltb n.site.node n.site.node (omega arith) in
    let incarnation : nat_lt n.site.incarnation n.site.incarnation ≡ false = le-ltb n.site.incarnation n.site.incarnation (omega arith) in
    let serial : nat_lt n.serial n.serial ≡ false = le-ltb n.serial n.serial (omega arith) in
    let attempt : nat_lt a a ≡ false = le-ltb a a (omega arith) in
    or_from (nat_lt n.site.node n.site.node) _ node
    (and_right (n.site.node == n.site.node) _
    (or_from (nat_lt n.site.incarnation n.site.incarnation) _ incarnation
    (and_right (n.site.incarnation == n.site.incarnation) _
    (or_from (nat_lt n.serial n.serial) _ serial (and_right (n.serial == n.serial) (nat_lt a a) attempt)))))

before_found : (p : ChildName) (q : ℕ) (gs : List GuestEntry) (n : ChildName) (a : ℕ) (e : Entry) → AllByRecursion (λ x. guest_before p q x.name x.entry.attempt ≡ true) gs → guest_in gs n a ≡ Some e → guest_before p q n a ≡ true
before_found p q [] n a e h at = absurd (none-some e at)
before_found p q (g ∷ gs) n a e h at = go (is_guest n a g) refl at (λ r. before_found p q gs n a e h.1 r)
  where
    go : (b : Bool) → is_guest n a g ≡ b → cond b (Some g.entry) (guest_in gs n a) ≡ Some e → (guest_in gs n a ≡ Some e → guest_before p q n a ≡ true) → guest_before p q n a ≡ true
    go true t r later =
        let parts = and_parts (same_name g.name n) (g.entry.attempt == a) t in
        let name : g.name ≡ n = name_path g.name n parts.0 in
        let attempt : g.entry.attempt ≡ a = eqb-true g.entry.attempt a parts.1 in
        (λ i. guest_before p q (sym name i) (sym attempt i)) ∙ h.0
    go false t r later = later r

pub record First (test : WorkUnit → Entry → Bool) (gs : List GuestEntry) (unit : WorkUnit) : Type 0 where
  pub name : ChildName
  pub attempt : ℕ
  pub entry : Entry
  pub unit_is : unit ≡ Guest name attempt
  pub is : guest_in gs name attempt ≡ Some entry
  pub passes : test unit entry ≡ true

first_passes : (test : WorkUnit → Entry → Bool) (gs : List GuestEntry) (unit : WorkUnit) → IsAscending gs → first_guest test gs ≡ Some unit → First test gs unit
first_passes test [] unit h e = absurd (none-some unit e)
first_passes test (g ∷ gs) unit h e = go (test (Guest g.name g.entry.attempt) g.entry) refl e (λ q. first_passes test gs unit h.1 q)
  where
    skip : (f : First test gs unit) → (b : Bool) → is_guest f.name f.attempt g ≡ b → cond b (Some g.entry) (guest_in gs f.name f.attempt) ≡ Some f.entry
    skip f true t =
        let parts = and_parts (same_name g.name f.name) (g.entry.attempt == f.attempt) t in
        let name : g.name ≡ f.name = name_path g.name f.name parts.0 in
        let attempt : g.entry.attempt ≡ f.attempt = eqb-true g.entry.attempt f.attempt parts.1 in
        let before : guest_before g.name g.entry.attempt f.name f.attempt ≡ true = before_found g.name g.entry.attempt gs f.name f.attempt f.entry h.0 f.is in
        absurd (both_ways (guest_before f.name f.attempt f.name f.attempt) (before_itself f.name f.attempt) ((λ i. guest_before (sym name i) (sym attempt i) f.name f.attempt) ∙ before))
    skip f false t = f.is

    go : (b : Bool) → test (Guest g.name g.entry.attempt) g.entry ≡ b → cond b (Some (Guest g.name g.entry.attempt)) (first_guest test gs) ≡ Some unit → (first_guest test gs ≡ Some unit → First test gs unit) → First test (g ∷ gs) unit
    go true t q later =
        let same : Guest g.name g.entry.attempt ≡ unit = same_Some (Guest g.name g.entry.attempt) unit q in
        record {
          name = g.name;
          attempt = g.entry.attempt;
          entry = g.entry;
          unit_is = sym same;
          is = ap (λ b. cond b (Some g.entry) (guest_in gs g.name g.entry.attempt)) (and_from (same_name g.name g.name) (g.entry.attempt == g.entry.attempt) (same_name_self g.name) (eq-eqb g.entry.attempt g.entry.attempt refl));
          passes = ap (λ u. test u g.entry) (sym same) ∙ t;
        }
    go false t q later =
        let f = later q in
        record { name = f.name; attempt = f.attempt; entry = f.entry; unit_is = f.unit_is; is = skip f (is_guest f.name f.attempt g) refl; passes = f.passes }

-- ---- either

pick_passes : (test : WorkUnit → Entry → Bool) (table : Table) → IsAscending table.guests → (unit : WorkUnit) → pick test table ≡ Some unit → (entry : Entry) × (unit_of table unit ≡ Some entry) × (test unit entry ≡ true)
pick_passes test table h unit e = go (last_own test 0 table.own) refl e
  where
    go : (o : Option WorkUnit) → last_own test 0 table.own ≡ o → either_unit o (first_guest test table.guests) ≡ Some unit → (entry : Entry) × (unit_of table unit ≡ Some entry) × (test unit entry ≡ true)
    go None t q =
        let f = first_passes test table.guests unit h q in
        (f.entry, ap (unit_of table) f.unit_is ∙ f.is, f.passes)
    go (Some found) t q =
        let l = last_passes test 0 table.own unit (t ∙ q) in
        (l.entry, ap (unit_of table) (l.unit_is ∙ ap Own (omega arith)) ∙ l.is, l.passes)

pub wanted_there : (wanted : Wanted) (table : Table) → IsAscending table.guests → (unit : WorkUnit) → wanted_unit wanted table ≡ Some unit → has_status (wanted_status wanted) (unit_of table unit) ≡ true
wanted_there wants.Ready table h unit e =
    let p = pick_passes (λ u entry. is_ready entry.status) table h unit e in
    ap (has_status is_ready) p.1 ∙ p.2
wanted_there wants.Ripe table h unit e =
    let p = pick_passes (λ u entry. is_split entry.status && is_some (frame_result (frame u table.own))) table h unit e in
    ap (has_status is_split) p.1 ∙ (and_parts (is_split p.0.status) (is_some (frame_result (frame unit table.own))) p.2).0
wanted_there wants.Here table h unit e =
    let p = pick_passes (λ u entry. is_here entry.status) table h unit e in
    ap (has_status is_here) p.1 ∙ p.2
wanted_there wants.Out table h unit e =
    let p = pick_passes (λ u entry. is_out entry.status) table h unit e in
    ap (has_status is_out) p.1 ∙ p.2

-- ---- a ready unit

ready_status : (P : Status → Type 0) → P Ready → (status : Status) → is_ready status ≡ true → P status
ready_status P p Ready h = p
ready_status P p Here h = absurd (false≢true h)
ready_status P p Split h = absurd (false≢true h)
ready_status P p (Out thief) h = absurd (false≢true h)
ready_status P p (Done result) h = absurd (false≢true h)
ready_status P p Aborted h = absurd (false≢true h)
ready_status P p (Finished result) h = absurd (false≢true h)
ready_status P p (Settled result) h = absurd (false≢true h)
ready_status P p Dropped h = absurd (false≢true h)

pub ready_may_begin : (unit : WorkUnit) (o : Option Entry) → has_status is_ready o ≡ true → has_status (may_become unit Here) o ≡ true
ready_may_begin unit None h = absurd (false≢true h)
ready_may_begin (Own serial) (Some entry) h = ready_status (λ s. may_become (Own serial) Here s ≡ true) refl entry.status h
ready_may_begin (Guest name attempt) (Some entry) h = ready_status (λ s. may_become (Guest name attempt) Here s ≡ true) refl entry.status h

pub ready_seen : (table : Table) (unit : WorkUnit) (w : Work) → IsWork table unit w → has_status is_ready (unit_of table unit) ≡ true → IsSeen (unit_of table unit) w.attempt Ready
ready_seen table unit w h r = record {
  entry = entry_of h.parent w;
  is = h.is;
  attempt_is = refl;
  status_is = ready_status (λ s. s ≡ Ready) refl w.status (ap (has_status is_ready) (sym h.is) ∙ r);
}

-- the same of a picked unit, if there is one
pub each_wanted_there : (wanted : Wanted) (old table : Table) → IsAscending old.guests → old ≡ table → (o : Option WorkUnit) → o ≡ wanted_unit wanted old → IfSome o (λ unit. has_status (wanted_status wanted) (unit_of table unit) ≡ true)
each_wanted_there wanted old table h same None e = tt
each_wanted_there wanted old table h same (Some unit) e = ap (λ t. has_status (wanted_status wanted) (unit_of t unit)) (sym same) ∙ wanted_there wanted old h unit (sym e)
