-- The unit that is taken up next is there, and ready.
use Rattle.std.proofs.Common.{◌≡◌, ℕ, suc, ◌+◌, Bool, true, false, cond, List, [], ◌∷◌, Option, Some, None, slice_get, refl, sym, ap, subst, ◌∙◌, arith, true≢false}
use Rattle.std.specs.Prelude.{◌==◌}
use Rattle.std.specs.List.{AllByRecursion}
use Rattle.std.proofs.lemmas.Bool.{and_parts, and_from, eq-eqb, eqb-true, false_from_ne_true}
use Rattle.std.proofs.lemmas.Option.{none-some, same_Some}
use Rattle.node_core.specs.SiteView.{View, unit_in}
use Rattle.spawn_frame.specs.Names.{guest_before, same_name, same_site}
use Rattle.spawn_frame.specs.Picks.{either_unit, first_guest, is_ready, last_own, ready_unit}
use Rattle.spawn_frame.specs.Tables.{IsAscending}
use Rattle.spawn_frame.specs.Units.{Entry, GuestEntry, guest_in, is_guest}
use Rattle.spawn_frame.specs.declared.site.ChildName.{ChildName}
use Rattle.spawn_frame.specs.declared.site.Site.{Site}
use Rattle.spawn_frame.specs.declared.status.Status.TheVariants.{Ready}
use Rattle.spawn_frame.specs.declared.unit.Unit.{Unit as WorkUnit}
use Rattle.spawn_frame.specs.declared.unit.Unit.TheVariants.{Guest, Own}
use Rattle.spawn_frame.proofs.Sames.{name_path}
use Rattle.steal_return.proofs.Order.{is_itself}
use Rattle.spawn_frame.proofs.Picked.{before_itself}
use Rattle.steal_return.proofs.Scans.{ready_status}

-- ---- names that are the same

pub site_itself : (s t : Site) → s ≡ t → same_site s t ≡ true
site_itself s t e = and_from (s.node == t.node) (s.incarnation == t.incarnation) (eq-eqb s.node t.node (ap (λ x. x.node) e)) (eq-eqb s.incarnation t.incarnation (ap (λ x. x.incarnation) e))

-- ---- own children

-- A child that was picked.
record IsPicked (test : WorkUnit → Entry → Bool) (own : List Entry) (k : ℕ) (unit : WorkUnit) : Type 0 where
  pub place : ℕ
  pub serial : ℕ
  pub entry : Entry
  pub counted : k + place ≡ serial
  pub is : unit ≡ Own serial
  pub at : slice_get own place ≡ Some entry
  pub passes : test unit entry ≡ true

picked_own : (test : WorkUnit → Entry → Bool) (k : ℕ) (own : List Entry) (unit : WorkUnit) → last_own test k own ≡ Some unit → IsPicked test own k unit
picked_own test k [] unit found = absurd (none-some unit found)
picked_own test k (c ∷ cs) unit found = later (last_own test (suc k) cs) refl found (λ e. picked_own test (suc k) cs unit e)
  where
    first : (b : Bool) → test (Own k) c ≡ b → cond b (Some (Own k)) None ≡ Some unit → IsPicked test (c ∷ cs) k unit
    first true passes e = record {
      place = 0;
      serial = k;
      entry = c;
      counted = omega arith;
      is = sym (same_Some (Own k) unit e);
      at = refl;
      passes = subst (λ u. test u c ≡ true) (same_Some (Own k) unit e) passes;
    }
    first false passes e = absurd (none-some unit e)

    behind : IsPicked test cs (suc k) unit → IsPicked test (c ∷ cs) k unit
    behind p = record {
      place = suc p.place;
      serial = p.serial;
      entry = p.entry;
      counted = omega (arith, p.counted);
      is = p.is;
      at = p.at;
      passes = p.passes;
    }

    later : (o : Option WorkUnit) → last_own test (suc k) cs ≡ o → either_unit o (cond (test (Own k) c) (Some (Own k)) None) ≡ Some unit
        → (last_own test (suc k) cs ≡ Some unit → IsPicked test cs (suc k) unit) → IsPicked test (c ∷ cs) k unit
    later None none e picked = first (test (Own k) c) refl e
    later (Some u) some e picked = behind (picked (some ∙ e))

-- ---- guests

-- A guest that was picked.
record IsFirst (test : WorkUnit → Entry → Bool) (guests : List GuestEntry) (unit : WorkUnit) : Type 0 where
  pub name : ChildName
  pub attempt : ℕ
  pub entry : Entry
  pub is : unit ≡ Guest name attempt
  pub at : guest_in guests name attempt ≡ Some entry
  pub passes : test unit entry ≡ true

-- a guest behind another has another key
behind_other : (g : GuestEntry) (gs : List GuestEntry) (name : ChildName) (attempt : ℕ) (entry : Entry)
    → AllByRecursion (λ h. guest_before g.name g.entry.attempt h.name h.entry.attempt ≡ true) gs → guest_in gs name attempt ≡ Some entry
    → guest_before g.name g.entry.attempt name attempt ≡ true
behind_other g [] name attempt entry all found = absurd (none-some entry found)
behind_other g (h ∷ hs) name attempt entry all found = by (is_guest name attempt h) refl found (λ e. behind_other g hs name attempt entry all.1 e)
  where
    by : (b : Bool) → is_guest name attempt h ≡ b → cond b (Some h.entry) (guest_in hs name attempt) ≡ Some entry
        → (guest_in hs name attempt ≡ Some entry → guest_before g.name g.entry.attempt name attempt ≡ true) → guest_before g.name g.entry.attempt name attempt ≡ true
    by true same e later =
        let both = and_parts (same_name h.name name) (h.entry.attempt == attempt) same in
        let path : guest_before g.name g.entry.attempt h.name h.entry.attempt ≡ guest_before g.name g.entry.attempt name attempt =
        λ i. guest_before g.name g.entry.attempt (name_path h.name name both.0 i) (eqb-true h.entry.attempt attempt both.1 i) in
        sym path ∙ all.0
    by false differs e later = later e

other_guest : (g : GuestEntry) (name : ChildName) (attempt : ℕ) → guest_before g.name g.entry.attempt name attempt ≡ true → is_guest name attempt g ≡ false
other_guest g name attempt before = false_from_ne_true (is_guest name attempt g) itself
  where
    itself : is_guest name attempt g ≡ true → ⊥
    itself same =
        let both = and_parts (same_name g.name name) (g.entry.attempt == attempt) same in
        let path : guest_before g.name g.entry.attempt name attempt ≡ guest_before name attempt name attempt =
        λ i. guest_before (name_path g.name name both.0 i) (eqb-true g.entry.attempt attempt both.1 i) name attempt in
        true≢false (sym before ∙ path ∙ before_itself name attempt)

picked_guest : (test : WorkUnit → Entry → Bool) (guests : List GuestEntry) → IsAscending guests → (unit : WorkUnit) → first_guest test guests ≡ Some unit → IsFirst test guests unit
picked_guest test [] ascending unit found = absurd (none-some unit found)
picked_guest test (g ∷ gs) ascending unit found = by (test (Guest g.name g.entry.attempt) g.entry) refl found (λ e. picked_guest test gs ascending.1 unit e)
  where
    behind : IsFirst test gs unit → IsFirst test (g ∷ gs) unit
    behind p =
        let other = other_guest g p.name p.attempt (behind_other g gs p.name p.attempt p.entry ascending.0 p.at) in
        record {
          name = p.name;
          attempt = p.attempt;
          entry = p.entry;
          is = p.is;
          at = ap (λ b. cond b (Some g.entry) (guest_in gs p.name p.attempt)) other ∙ p.at;
          passes = p.passes;
        }

    by : (b : Bool) → test (Guest g.name g.entry.attempt) g.entry ≡ b → cond b (Some (Guest g.name g.entry.attempt)) (first_guest test gs) ≡ Some unit
        → (first_guest test gs ≡ Some unit → IsFirst test gs unit) → IsFirst test (g ∷ gs) unit
    by true passes e picked =
        let same : Guest g.name g.entry.attempt ≡ unit = same_Some (Guest g.name g.entry.attempt) unit e in
        record {
          name = g.name;
          attempt = g.entry.attempt;
          entry = g.entry;
          is = sym same;
          at = ap (λ b. cond b (Some g.entry) (guest_in gs g.name g.entry.attempt)) (is_itself g);
          passes = subst (λ u. test u g.entry ≡ true) same passes;
        }
    by false passes e picked = behind (picked e)

-- ---- the unit that is taken up

-- A unit that is there, and ready.
pub record IsReady (view : View) (unit : WorkUnit) : Type 0 where
  pub entry : Entry
  pub is : unit_in view unit ≡ Some entry
  pub ready : entry.status ≡ Ready

abbrev ready_test : WorkUnit → Entry → Bool
ready_test unit entry = is_ready entry.status

pub ready_is_there : (view : View) → IsAscending view.guests → (unit : WorkUnit) → ready_unit view.table ≡ Some unit → IsReady view unit
ready_is_there view ascending unit found = by (last_own ready_test 0 view.own) refl found
  where
    own : IsPicked ready_test view.own 0 unit → IsReady view unit
    own p =
        let same : p.place ≡ p.serial = omega (arith, p.counted) in
        record {
          entry = p.entry;
          is = ap (λ u. unit_in view u) p.is ∙ ap (slice_get view.own) (sym same) ∙ p.at;
          ready = ready_status p.entry.status p.passes;
        }

    guest : IsFirst ready_test view.guests unit → IsReady view unit
    guest p = record { entry = p.entry; is = ap (λ u. unit_in view u) p.is ∙ p.at; ready = ready_status p.entry.status p.passes }

    by : (o : Option WorkUnit) → last_own ready_test 0 view.own ≡ o → either_unit o (first_guest ready_test view.guests) ≡ Some unit → IsReady view unit
    by None none e = guest (picked_guest ready_test view.guests ascending unit e)
    by (Some u) some e = own (picked_own ready_test 0 view.own unit (some ∙ e))
