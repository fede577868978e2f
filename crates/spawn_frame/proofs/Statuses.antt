-- Units that get another status of which no frame hears.
use Rattle.std.proofs.Common.{◌≡◌, ℕ, Bool, true, not, ◌&&◌, ◌||◌, List, map, option_map, Option, Some, None, is_some, slice_get, refl, sym, ap, ◌∙◌, ⊎_elim}
use Rattle.std.proofs.lemmas.Option.{same_Some, slice_get-map}
use Rattle.std.proofs.lemmas.Bool.{and_parts, not-true, or_parts, or_cases, both_ways, false≢true}
use Rattle.spawn_frame.specs.Aborts.{is_open}
use Rattle.spawn_frame.specs.Frames.{cover_of}
use Rattle.spawn_frame.specs.Inlets.{is_done}
use Rattle.spawn_frame.specs.Picks.{is_split}
use Rattle.spawn_frame.specs.Tables.{has_status, suits}
use Rattle.spawn_frame.specs.Units.{Entry, guest_in, table_gets, table_guests, table_own, unit_of, with_status}
use Rattle.spawn_frame.specs.Works.{IsUnit, IsTable, child_entry, child_work, entry_of, guest_entry, guest_work, guests_after, is_whole, keeps_frame, may_become, own_after, table_of, with_work_status, work_in}
use Rattle.spawn_frame.specs.declared.child.Child.{Child}
use Rattle.spawn_frame.specs.declared.guest.Guest.{Guest}
use Rattle.spawn_frame.specs.declared.site.ChildName.{ChildName}
use Rattle.spawn_frame.specs.declared.site.Site.{Site}
use Rattle.spawn_frame.specs.declared.status.Status.{Status}
use Rattle.spawn_frame.specs.declared.unit.Unit.{Unit as WorkUnit}
use Rattle.spawn_frame.specs.declared.unit.Unit.TheVariants as units
use Rattle.spawn_frame.specs.declared.work.Work.{Work}
use Rattle.spawn_frame.proofs.Briefs.{brief}
use Rattle.spawn_frame.proofs.Frames.{undone_uncovered}
use Rattle.spawn_frame.proofs.Kept.{guests_kept, own_kept}
use Rattle.spawn_frame.proofs.Lookups.{child_view, guest_at, guest_view}

-- a child that is there, with a status that passes
pub record HasChild (test : Status → Bool) (own : List Child) (k : ℕ) : Type 0 where
  pub child : Child
  pub is : slice_get own k ≡ Some child
  pub passes : test child.work.status ≡ true

pub child_with : (test : Status → Bool) (own : List Child) (k : ℕ) → has_status test (slice_get (map child_entry own) k) ≡ true → HasChild test own k
child_with test own k h = go (slice_get own k) refl (ap (has_status test) (sym (slice_get-map child_entry own k)) ∙ h)
  where
    go : (o : Option Child) → slice_get own k ≡ o → has_status test (option_map child_entry o) ≡ true → HasChild test own k
    go None e t = absurd (false≢true t)
    go (Some c) e t = record { child = c; is = e; passes = t }

-- a guest that is there, with a status that passes
pub record HasGuest (test : Status → Bool) (guests : List Guest) (name : ChildName) (attempt : ℕ) : Type 0 where
  pub work : Work
  pub is : guest_work guests name attempt ≡ Some work
  pub passes : test work.status ≡ true

pub guest_with_status : (test : Status → Bool) (guests : List Guest) (name : ChildName) (attempt : ℕ) → has_status test (guest_in (map guest_entry guests) name attempt) ≡ true → HasGuest test guests name attempt
guest_with_status test guests name attempt h = go (guest_work guests name attempt) refl (ap (has_status test) (sym (guest_at guests name attempt)) ∙ h)
  where
    go : (o : Option Work) → guest_work guests name attempt ≡ o → has_status test (option_map (λ w. entry_of None w) o) ≡ true → HasGuest test guests name attempt
    go None e t = absurd (false≢true t)
    go (Some w) e t = record { work = w; is = e; passes = t }

-- a frame stays in step under a status that keeps it
pub frame_becomes : (status : Status) (unit : WorkUnit) (w : Work) (own : List Entry) → suits unit status ≡ true → keeps_frame status w.status ≡ true → IsUnit unit w own → IsUnit unit (with_work_status status w) own
frame_becomes status unit w own fits k h =
    let p = and_parts (not (is_split status)) (not (is_whole status) || is_whole w.status) k in
    record {
      attempt = h.attempt;
      status = fits;
      whole = λ t. h.whole (⊎_elim (λ (n : not (is_whole status) ≡ true). absurd (both_ways (is_whole status) (not-true (is_whole status) n) t)) (λ (o : is_whole w.status ≡ true). o) (or_cases (not (is_whole status)) (is_whole w.status) p.1));
      split = λ s. absurd (both_ways (is_split status) (not-true (is_split status) p.0) (ap is_split s));
      children = h.children;
    }

undone_brief : (parent : Option WorkUnit) (w : Work) (status : Status) → not (is_done status || is_done w.status) ≡ true → brief (entry_of parent (with_work_status status w)) ≡ brief (entry_of parent w)
undone_brief parent w status n =
    let p = or_parts (is_done status) (is_done w.status) (not-true (is_done status || is_done w.status) n) in
    let d : is_done status ≡ is_done w.status = p.0 ∙ sym p.1 in
    let c : is_some (cover_of status) ≡ is_some (cover_of w.status) = undone_uncovered status p.0 ∙ sym (undone_uncovered w.status p.1) in
    λ i. record { parent = parent; done = d i; covered = c i }

pub status_kept : (site : Site) (limit : ℕ) (own : List Child) (guests : List Guest) → IsTable (table_of site limit own guests) own guests → (unit : WorkUnit) (status : Status)
    → has_status (may_become unit status) (unit_of (table_of site limit own guests) unit) ≡ true
    → IsTable (table_of site limit (own_after unit (with_work_status status) own) (guests_after unit (with_work_status status) guests)) (own_after unit (with_work_status status) own) (guests_after unit (with_work_status status) guests)
status_kept site limit own guests h (units.Own k) status t =
    let c = child_with (may_become (units.Own k) status) own k t in
    let fits = and_parts (suits (units.Own k) status) (not (is_done status || is_done c.child.work.status) && keeps_frame status c.child.work.status) c.passes in
    let p = and_parts (not (is_done status || is_done c.child.work.status)) (keeps_frame status c.child.work.status) fits.1 in
    own_kept site limit own guests h (with_work_status status) (λ w. refl) k c.child c.is (frame_becomes status (units.Own k) c.child.work (map child_entry own) fits.0 p.1) (undone_brief c.child.parent c.child.work status p.0)
status_kept site limit own guests h (units.Guest name attempt) status t =
    let g = guest_with_status (may_become (units.Guest name attempt) status) guests name attempt t in
    let fits = and_parts (suits (units.Guest name attempt) status) (is_open g.work.status && keeps_frame status g.work.status) g.passes in
    let keeps = and_parts (is_open g.work.status) (keeps_frame status g.work.status) fits.1 in
    guests_kept site limit own guests h (with_work_status status) (λ w. refl) (λ w. refl) name attempt g.work g.is (λ m b. frame_becomes status (units.Guest m b) g.work (map child_entry own) fits.0 keeps.1)

pub status_view : (site : Site) (limit : ℕ) (own : List Child) (guests : List Guest) (unit : WorkUnit) (status : Status)
    → table_of site limit (own_after unit (with_work_status status) own) (guests_after unit (with_work_status status) guests) ≡ table_gets (table_of site limit own guests) unit status
status_view site limit own guests (units.Own k) status = ap (table_own (table_of site limit own guests)) (child_view (with_work_status status) (with_status status) (λ parent w. refl) own k)
status_view site limit own guests (units.Guest name attempt) status =
    ap (table_guests (table_of site limit own guests)) (guest_view (with_work_status status) (with_status status) (λ parent w. refl) guests name attempt)

-- the child that was read, where its status passes
abbrev pub child_here : (test : Status → Bool) (own : List Child) (k : ℕ) (c : Child) → slice_get own k ≡ Some c → has_status test (slice_get (map child_entry own) k) ≡ true → HasChild test own k
child_here test own k c is h =
    let found = child_with test own k h in
    record { child = c; is = is; passes = ap (λ x. test x.work.status) (same_Some c found.child (sym is ∙ found.is)) ∙ found.passes }

-- a unit that is there, with a status that passes
pub record HasWork (test : Status → Bool) (own : List Child) (guests : List Guest) (unit : WorkUnit) : Type 0 where
  pub work : Work
  pub is : work_in own guests unit ≡ Some work
  pub passes : test work.status ≡ true

pub unit_with : (test : Status → Bool) (site : Site) (limit : ℕ) (own : List Child) (guests : List Guest) (unit : WorkUnit) → has_status test (unit_of (table_of site limit own guests) unit) ≡ true → HasWork test own guests unit
unit_with test site limit own guests (units.Own k) h =
    let c = child_with test own k h in
    record { work = c.child.work; is = ap child_work c.is; passes = c.passes }
unit_with test site limit own guests (units.Guest name attempt) h =
    let g = guest_with_status test guests name attempt h in
    record { work = g.work; is = g.is; passes = g.passes }
