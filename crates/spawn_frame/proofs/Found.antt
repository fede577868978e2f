-- Units that are looked up, and what is true of them.
use Rattle.std.proofs.Common.{◌≡◌, ℕ, suc, ◌+◌, Bool, true, false, cond, ◌&&◌, ◌==◌, List, [], ◌∷◌, ◌++◌, map, option_map, Option, Some, None, is_some, IsSome, IfSome, slice_get, refl, sym, ap, subst, ◌∙◌, arith}
use Rattle.std.specs.List.{AllByRecursion}
use Rattle.std.proofs.lemmas.Option.{same_Some, none-some, slice_get-map}
use Rattle.std.proofs.lemmas.Bool.{and_parts, eqb-true}
use Rattle.spawn_frame.specs.Frames.{frame, frame_result}
use Rattle.spawn_frame.specs.Inlets.{heard_by}
use Rattle.spawn_frame.specs.Names.{same_name}
use Rattle.spawn_frame.specs.Picks.{either_unit, first_guest, is_ready, is_split, last_own}
use Rattle.spawn_frame.specs.Prefixes.{link_of}
use Rattle.spawn_frame.specs.Tables.{AllLawful, IsLawful, IsMadeBefore, is_here, is_out, parent_in, prefix_in}
use Rattle.spawn_frame.specs.Units.{Entry, is_guest, unit_of}
use Rattle.spawn_frame.specs.Works.{IsUnit, IsTable, IsWork, child_entry, child_work, entry_of, first_wanted, guest_entry, guest_work, heard_work, is_settled, is_wanted, last_wanted, table_of, wanted_unit, work_in}
use Rattle.spawn_frame.specs.declared.child.Child.{Child}
use Rattle.spawn_frame.specs.declared.guest.Guest.{Guest}
use Rattle.spawn_frame.specs.declared.site.ChildName.{ChildName}
use Rattle.spawn_frame.specs.declared.site.Site.{Site}
use Rattle.spawn_frame.specs.declared.status.Status.{Status}
use Rattle.spawn_frame.specs.declared.status.Status.TheVariants.{Aborted, Done, Dropped, Finished, Here, Out, Ready, Settled, Split}
use Rattle.spawn_frame.specs.declared.unit.Unit.{Unit as WorkUnit}
use Rattle.spawn_frame.specs.declared.unit.Unit.TheVariants as units
use Rattle.spawn_frame.specs.declared.wanted.Wanted.{Wanted}
use Rattle.spawn_frame.specs.declared.wanted.Wanted.TheVariants as wants
use Rattle.spawn_frame.specs.declared.work.Work.{Work}
use Rattle.spawn_frame.proofs.Frames.{same_heard}
use Rattle.spawn_frame.proofs.Grown.{path_seen}
use Rattle.spawn_frame.proofs.Kept.{each_weaker}
use Rattle.spawn_frame.proofs.Lookups.{guest_at}
use Rattle.spawn_frame.proofs.Sames.{name_path}

-- ---- one unit

guest_frame : (es : List Entry) (gs : List Guest) (n : ChildName) (a : ℕ) (w : Work) → AllByRecursion (λ g. IsUnit (units.Guest g.name g.work.attempt) g.work es) gs
    → guest_work gs n a ≡ Some w → IsUnit (units.Guest n a) w es
guest_frame es [] n a w p e = absurd (none-some w e)
guest_frame es (g ∷ gs) n a w p e = go (is_guest n a (guest_entry g)) refl e (λ q. guest_frame es gs n a w p.1 q)
  where
    go : (t : Bool) → is_guest n a (guest_entry g) ≡ t → cond t (Some g.work) (guest_work gs n a) ≡ Some w → (guest_work gs n a ≡ Some w → IsUnit (units.Guest n a) w es) → IsUnit (units.Guest n a) w es
    go true t q later =
        let parts = and_parts (same_name g.name n) (g.work.attempt == a) t in
        let name : g.name ≡ n = name_path g.name n parts.0 in
        let attempt : g.work.attempt ≡ a = eqb-true g.work.attempt a parts.1 in
        let work : g.work ≡ w = same_Some g.work w q in
        subst (λ (x : Work). IsUnit (units.Guest n a) x es) work
        (subst (λ (k : ChildName × ℕ). IsUnit (units.Guest k.0 k.1) g.work es) (λ i. (name i, attempt i)) p.0)
    go false t q later = later q

module _ (site : Site) (limit : ℕ) (own : List Child) (guests : List Guest) where
  abbrev there : WorkUnit → Option Entry
  there unit = unit_of (table_of site limit own guests) unit

  pub unit_work : IsTable (table_of site limit own guests) own guests → (unit : WorkUnit) (w : Work) → work_in own guests unit ≡ Some w → IsWork (table_of site limit own guests) unit w
  unit_work h (units.Own k) w e = go (slice_get own k) refl e
    where
      go : (o : Option Child) → slice_get own k ≡ o → child_work o ≡ Some w → IsWork (table_of site limit own guests) (units.Own k) w
      go None at q = absurd (none-some w q)
      go (Some c) at q =
          let same : c.work ≡ w = same_Some c.work w q in
          record {
            parent = c.parent;
            is = slice_get-map child_entry own k ∙ ap (option_map child_entry) at ∙ ap (λ x. Some (entry_of c.parent x)) same;
            in_step = subst (λ x. IsUnit (units.Own k) x (map child_entry own)) same (h.own_units k c at);
          }
  unit_work h (units.Guest n a) w e = record {
    parent = None;
    is = guest_at guests n a ∙ ap (option_map (λ x. entry_of None x)) e;
    in_step = guest_frame (map child_entry own) guests n a w h.guest_units e;
  }

  pub unit_none : (unit : WorkUnit) → work_in own guests unit ≡ None → unit_of (table_of site limit own guests) unit ≡ None
  unit_none (units.Own k) e = slice_get-map child_entry own k ∙ ap (option_map child_entry) (go (slice_get own k) e)
    where
      go : (o : Option Child) → child_work o ≡ None → o ≡ None
      go None q = refl
      go (Some c) q = absurd (none-some c.work (sym q))
  unit_none (units.Guest n a) e = guest_at guests n a ∙ ap (option_map (λ x. entry_of None x)) e

-- each unit of a table is at an attempt from 1, with a status of its kind
pub each_lawful : (site : Site) (limit : ℕ) (own : List Child) (guests : List Guest) → IsTable (table_of site limit own guests) own guests → AllLawful (table_of site limit own guests)
each_lawful site limit own guests h unit entry e = go (work_in own guests unit) refl
  where
    go : (o : Option Work) → work_in own guests unit ≡ o → IsLawful unit entry
    go None at = absurd (none-some entry (sym (unit_none site limit own guests unit at) ∙ e))
    go (Some w) at =
        let is_work = unit_work site limit own guests h unit w at in
        subst (λ c. IsLawful unit c) (same_Some (entry_of is_work.parent w) entry (sym is_work.is ∙ e))
        (record { attempt = is_work.in_step.attempt; status = is_work.in_step.status })

-- ---- the unit that is looked for

last_is : (wanted : Wanted) (test : WorkUnit → Entry → Bool) (own : List Child) (j : ℕ)
    → ((i : ℕ) (c : Child) → slice_get own i ≡ Some c → is_wanted wanted c.work ≡ test (units.Own (j + i)) (child_entry c)) → last_wanted wanted j own ≡ last_own test j (map child_entry own)
last_is wanted test [] j h = refl
last_is wanted test (c ∷ cs) j h =
    let rest : last_wanted wanted (suc j) cs ≡ last_own test (suc j) (map child_entry cs) = last_is wanted test cs (suc j) (λ i d at. h (suc i) d at ∙ ap (λ k. test (units.Own k) (child_entry d)) (omega arith)) in
    let here : is_wanted wanted c.work ≡ test (units.Own j) (child_entry c) = h 0 c refl ∙ ap (λ k. test (units.Own k) (child_entry c)) (omega arith) in
    λ i. either_unit (rest i) (cond (here i) (Some (units.Own j)) None)

first_is : (wanted : Wanted) (test : WorkUnit → Entry → Bool) (gs : List Guest) → AllByRecursion (λ g. is_wanted wanted g.work ≡ test (units.Guest g.name g.work.attempt) (entry_of None g.work)) gs
    → first_wanted wanted gs ≡ first_guest test (map guest_entry gs)
first_is wanted test [] h = refl
first_is wanted test (g ∷ gs) h =
    let rest : first_wanted wanted gs ≡ first_guest test (map guest_entry gs) = first_is wanted test gs h.1 in
    λ i. cond (h.0 i) (Some (units.Guest g.name g.work.attempt)) (rest i)

settled_is_some : (result : Option Rattle.spawn_frame.specs.declared.child_result.ChildResult.ChildResult) → is_settled (heard_by result) ≡ is_some result
settled_is_some None = refl
settled_is_some (Some r) = refl

-- a frame whose inlet is in step is settled where it gives a result
ripe_is : (unit : WorkUnit) (w : Work) (own : List Entry) → IsUnit unit w own → is_wanted wants.Ripe w ≡ (is_split w.status && is_some (frame_result (frame unit own)))
ripe_is unit w own h = go w.status refl
  where
    go : (s : Status) → w.status ≡ s → (is_split s && is_settled (heard_work w.inlet)) ≡ (is_split s && is_some (frame_result (frame unit own)))
    go Split e = ap (λ o. is_settled (heard_work o)) (h.split e) ∙ ap is_settled (same_heard unit own) ∙ settled_is_some (frame_result (frame unit own))
    go Ready e = refl
    go Here e = refl
    go (Out thief) e = refl
    go (Done result) e = refl
    go Aborted e = refl
    go (Finished result) e = refl
    go (Settled result) e = refl
    go Dropped e = refl

pub wanted_is : (site : Site) (limit : ℕ) (own : List Child) (guests : List Guest) → IsTable (table_of site limit own guests) own guests → (wanted : Wanted)
    → either_unit (last_wanted wanted 0 own) (first_wanted wanted guests) ≡ wanted_unit wanted (table_of site limit own guests)
wanted_is site limit own guests h wants.Ready =
    let test : WorkUnit → Entry → Bool = λ unit entry. is_ready entry.status in
    let last = last_is wants.Ready test own 0 (λ i c at. refl) in
    let first = first_is wants.Ready test guests (each_weaker (λ g. IsUnit (units.Guest g.name g.work.attempt) g.work (map child_entry own)) (λ g. is_wanted wants.Ready g.work ≡ is_ready g.work.status) (λ g p. refl) guests h.guest_units) in
    λ i. either_unit (last i) (first i)
wanted_is site limit own guests h wants.Ripe =
    let es : List Entry = map child_entry own in
    let test : WorkUnit → Entry → Bool = λ unit entry. is_split entry.status && is_some (frame_result (frame unit es)) in
    let last = last_is wants.Ripe test own 0 (λ i c at. ripe_is (units.Own i) c.work es (h.own_units i c at) ∙ ap (λ k. test (units.Own k) (child_entry c)) (omega arith)) in
    let first = first_is wants.Ripe test guests (each_weaker (λ g. IsUnit (units.Guest g.name g.work.attempt) g.work es) (λ g. is_wanted wants.Ripe g.work ≡ test (units.Guest g.name g.work.attempt) (entry_of None g.work)) (λ g p. ripe_is (units.Guest g.name g.work.attempt) g.work es p) guests h.guest_units) in
    λ i. either_unit (last i) (first i)
wanted_is site limit own guests h wants.Here =
    let test : WorkUnit → Entry → Bool = λ unit entry. is_here entry.status in
    let last = last_is wants.Here test own 0 (λ i c at. refl) in
    let first = first_is wants.Here test guests (each_weaker (λ g. IsUnit (units.Guest g.name g.work.attempt) g.work (map child_entry own)) (λ g. is_wanted wants.Here g.work ≡ is_here g.work.status) (λ g p. refl) guests h.guest_units) in
    λ i. either_unit (last i) (first i)
wanted_is site limit own guests h wants.Out =
    let test : WorkUnit → Entry → Bool = λ unit entry. is_out entry.status in
    let last = last_is wants.Out test own 0 (λ i c at. refl) in
    let first = first_is wants.Out test guests (each_weaker (λ g. IsUnit (units.Guest g.name g.work.attempt) g.work (map child_entry own)) (λ g. is_wanted wants.Out g.work ≡ is_out g.work.status) (λ g p. refl) guests h.guest_units) in
    λ i. either_unit (last i) (first i)

-- ---- parents

pub made_before : (site : Site) (limit : ℕ) (own : List Child) (guests : List Guest) → IsTable (table_of site limit own guests) own guests → (k : ℕ) (c : Child) → slice_get own k ≡ Some c
    → IfSome c.parent (λ parent. IsMadeBefore parent k)
made_before site limit own guests h k c at = go c.parent refl
  where
    go : (o : Option WorkUnit) → c.parent ≡ o → IfSome o (λ parent. IsMadeBefore parent k)
    go None e = tt
    go (Some (units.Own j)) e = h.parents.lower k j (child_entry c) (slice_get-map child_entry own k ∙ ap (option_map child_entry) at) e
    go (Some (units.Guest n a)) e = tt

pub parent_there : (site : Site) (limit : ℕ) (own : List Child) (guests : List Guest) → IsTable (table_of site limit own guests) own guests → (k : ℕ) (c : Child) → slice_get own k ≡ Some c
    → IfSome c.parent (λ parent. IsSome (unit_of (table_of site limit own guests) parent))
parent_there site limit own guests h k c at = go c.parent refl
  where
    go : (o : Option WorkUnit) → c.parent ≡ o → IfSome o (λ parent. IsSome (unit_of (table_of site limit own guests) parent))
    go None e = tt
    go (Some unit) e = h.parents.there k (child_entry c) unit (slice_get-map child_entry own k ∙ ap (option_map child_entry) at) e

-- the prefix of a child is its parent's with its option behind it
pub option_behind : (site : Site) (limit : ℕ) (own : List Child) (guests : List Guest) → IsTable (table_of site limit own guests) own guests → (k : ℕ) (c : Child) → slice_get own k ≡ Some c
    → (unit : WorkUnit) → parent_in (slice_get (map child_entry own) k) ≡ Some unit
    → prefix_in (slice_get (map child_entry own) k) ≡ prefix_in (unit_of (table_of site limit own guests) unit) ++ c.option ∷ []
option_behind site limit own guests h k c at unit of =
    let seen : slice_get (map child_entry own) k ≡ Some (child_entry c) = slice_get-map child_entry own k ∙ ap (option_map child_entry) at in
    let parent : c.parent ≡ Some unit = sym (ap parent_in seen) ∙ of in
    ap prefix_in seen
    ∙ h.grown.grown k (link_of c) unit (slice_get-map link_of own k ∙ ap (option_map link_of) at) parent
    ∙ ap (λ p. p ++ c.option ∷ []) (path_seen site limit own guests unit)
