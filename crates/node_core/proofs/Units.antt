-- What is true of the units of a site stays true where a step changes them.
use Rattle.std.proofs.Common.{◌≡◌, ℕ, suc, ◌<◌, ◌≤◌, Bool, true, false, cond, List, [], ◌∷◌, ◌++◌, length, map, filter, Option, Some, None, IsSome, is_some, slice_get, refl, sym, ap, subst, ◌∙◌, ⊎_elim, true≢false}
use Rattle.std.specs.List.{AllByRecursion}
use Rattle.std.proofs.lemmas.Bool.{and_parts, or_cases}
use Rattle.std.proofs.lemmas.List.{length-map}
use Rattle.std.proofs.lemmas.Option.{none-some, same_Some}
use Rattle.cover_problem.proofs.Firsts.{ArePrefixes}
use Rattle.cover_problem.specs.Prefix.{is_prefix}
use Rattle.cover_problem.specs.Problem.{Problem}
use Rattle.node_core.proofs.Each.{each_aborted, each_append, each_changed, each_mapped, guest_with, guests_changed, guests_dropped, kept_aborted, kept_changed, keys_changed, keys_dropped, may_abort}
use Rattle.node_core.proofs.Parents.{parents_added, parents_inserted, parents_same, unit_there}
use Rattle.node_core.proofs.Reaching.{parents}
use Rattle.node_core.proofs.Telling.{counted_more}
use Rattle.node_core.specs.Formed.{IsFormedChild, IsFormedGuest, IsFormedTable, is_another, is_child_status, is_guest_status}
use Rattle.node_core.specs.Arrivals.{is_lawful}
use Rattle.packet_wire.specs.WellFormed.{is_child, is_counted, is_result, is_serial}
use Rattle.spawn_frame.proofs.Admitted.{ascending_inserted, each_inserted, there_inserted}
use Rattle.spawn_frame.proofs.Kept.{ascending_kept}
use Rattle.spawn_frame.specs.Aborts.{AbortsBelow}
use Rattle.spawn_frame.specs.Frames.{cover_of, first_result, frame, frame_result, is_empty_handed, is_unit}
use Rattle.spawn_frame.specs.Gifts.{admit_each, gift_guest, is_there, name_of}
use Rattle.spawn_frame.specs.Splits.{new_child, split_into, with_result}
use Rattle.spawn_frame.specs.Tables.{guest_key}
use Rattle.spawn_frame.specs.Units.{Entry, GuestEntry, Table, change_at, change_guest, guest_in, insert_guest, last_attempt, redone, table_gets, table_guests, table_own, unit_of, with_status}
use Rattle.spawn_frame.specs.declared.child_result.ChildResult.{ChildResult}
use Rattle.spawn_frame.specs.declared.child_result.ChildResult.TheVariants.{Cover, Empty}
use Rattle.spawn_frame.specs.declared.gift.Gift.{Gift}
use Rattle.spawn_frame.specs.declared.site.ChildName.{ChildName}
use Rattle.spawn_frame.specs.declared.site.Site.{Site}
use Rattle.spawn_frame.specs.declared.status.Status.{Status}
use Rattle.spawn_frame.specs.declared.status.Status.TheVariants.{Aborted, Done, Dropped, Here, Out, Ready, Split}
use Rattle.spawn_frame.specs.declared.unit.Unit.{Unit as WorkUnit}
use Rattle.spawn_frame.specs.declared.unit.Unit.TheVariants.{Guest, Own}
use Rattle.steal_return.specs.Members.{IsRedoable, drop_lost, redo_if, redo_lost}
use Rattle.steal_return.proofs.Gifts.{admits_keep}
use Rattle.steal_return.proofs.Learns.{parents_redo}

-- ---- one unit

-- a status that a unit of this kind may have
abbrev pub FitsStatus : Site → WorkUnit → Status → Type 0
FitsStatus site (Own serial) status = is_child_status site status ≡ true
FitsStatus site (Guest name attempt) status = is_guest_status status ≡ true

pub result_fits : (site : Site) (unit : WorkUnit) (result : ChildResult) → is_result result ≡ true → FitsStatus site unit (with_result unit result)
result_fits site (Own serial) result h = h
result_fits site (Guest name attempt) result h = h

split_fits : (site : Site) (unit : WorkUnit) → FitsStatus site unit Split
split_fits site (Own serial) = refl
split_fits site (Guest name attempt) = refl

pub here_fits : (site : Site) (unit : WorkUnit) → FitsStatus site unit Here
here_fits site (Own serial) = refl
here_fits site (Guest name attempt) = refl

module _ (problem : Problem) where
  child_with : (site : Site) (s : Status) (c : Entry) → is_child_status site s ≡ true → IsFormedChild problem site c → IsFormedChild problem site (with_status s c)
  child_with site s c fit h = record { told = record { prefix = h.told.prefix; attempt = h.told.attempt }; status = fit }

  child_redone : (site : Site) (c : Entry) → c.attempt < last_attempt → IsFormedChild problem site c → IsFormedChild problem site (redone c)
  child_redone site c l h = record { told = record { prefix = h.told.prefix; attempt = counted_more c.attempt h.told.attempt l }; status = refl }

  guest_by : (site : Site) (s : Status) (g : GuestEntry) → is_guest_status s ≡ true → IsFormedGuest problem site g → IsFormedGuest problem site (guest_with s g)
  guest_by site s g fit h = record {
    owner = h.owner;
    serial = h.serial;
    told = record { prefix = h.told.prefix; attempt = h.told.attempt };
    status = fit;
  }

  -- ---- tables

  same_length : (old new : List Entry) → parents new ≡ parents old → length new ≡ length old
  same_length old new same = sym (length-map new (λ c. c.parent)) ∙ ap (λ ps. length ps) same ∙ length-map old (λ c. c.parent)

  own_formed : (table : Table) (own : List Entry) → parents own ≡ parents table.own → AllByRecursion (IsFormedChild problem table.site) own → IsFormedTable problem table → IsFormedTable problem (table_own table own)
  own_formed table own same each t = record {
    site = t.site;
    small = t.small;
    names = subst (λ n. n ≤ table.limit) (sym (same_length table.own own same)) t.names;
    parents = parents_same table (table_own table own) same refl t.parents;
    ascending = t.ascending;
    own = each;
    guests = t.guests;
  }

  guests_formed : (table : Table) (guests : List GuestEntry) → map guest_key guests ≡ map guest_key table.guests → AllByRecursion (IsFormedGuest problem table.site) guests → IsFormedTable problem table → IsFormedTable problem (table_guests table guests)
  guests_formed table guests same each t = record {
    site = t.site;
    small = t.small;
    names = t.names;
    parents = parents_same table (table_guests table guests) refl same t.parents;
    ascending = ascending_kept table.guests guests same t.ascending;
    own = t.own;
    guests = each;
  }

  pub gets_formed : (table : Table) (unit : WorkUnit) (s : Status) → FitsStatus table.site unit s → IsFormedTable problem table → IsFormedTable problem (table_gets table unit s)
  gets_formed table (Own k) s fit t =
      own_formed table (change_at (with_status s) table.own k)
      (kept_changed (λ c. c.parent) (with_status s) (λ c. refl) table.own k)
      (each_changed (IsFormedChild problem table.site) (with_status s) table.own k (λ c at h. child_with table.site s c fit h) t.own) t
  gets_formed table (Guest name attempt) s fit t =
      guests_formed table (change_guest (with_status s) table.guests name attempt)
      (keys_changed s table.guests name attempt)
      (guests_changed (IsFormedGuest problem table.site) s (λ g h. guest_by table.site s g fit h) table.guests name attempt t.guests) t

  pub redone_formed : (table : Table) (k : ℕ) → ((c : Entry) → slice_get table.own k ≡ Some c → c.attempt < last_attempt) → IsFormedTable problem table → IsFormedTable problem (table_own table (change_at redone table.own k))
  redone_formed table k few t =
      own_formed table (change_at redone table.own k)
      (kept_changed (λ c. c.parent) redone (λ c. refl) table.own k)
      (each_changed (IsFormedChild problem table.site) redone table.own k (λ c at h. child_redone table.site c (few c at) h) t.own) t

  each_redone : (site : Site) (lost : Site → Bool) (own : List Entry) → IsRedoable lost own → AllByRecursion (IsFormedChild problem site) own → AllByRecursion (IsFormedChild problem site) (redo_lost lost own)
  each_redone site lost [] r h = tt
  each_redone site lost (c ∷ cs) r h = (one c.status refl, each_redone site lost cs (λ k entry thief at. r (suc k) entry thief at) h.1)
    where
      by : (thief : Site) → c.status ≡ Out thief → (b : Bool) → lost thief ≡ b → IsFormedChild problem site (cond b (redone c) c)
      by thief e true t = child_redone site c (r 0 c thief refl e t) h.0
      by thief e false t = h.0

      one : (s : Status) → c.status ≡ s → IsFormedChild problem site (redo_if lost c s)
      one (Out thief) e = by thief e (lost thief) refl
      one Ready e = h.0
      one _ e = h.0

  pub redo_formed : (table : Table) (lost : Site → Bool) → IsRedoable lost table.own → IsFormedTable problem table → IsFormedTable problem (table_own table (redo_lost lost table.own))
  redo_formed table lost r t =
      own_formed table (redo_lost lost table.own) (sym (parents_redo lost table.own)) (each_redone table.site lost table.own r t.own) t

  pub aborts_formed : (table : Table) (top : WorkUnit → Bool) (own : List Entry) → AbortsBelow top table.own own → IsFormedTable problem table → IsFormedTable problem (table_own table own)
  aborts_formed table top own a t =
      let may = may_abort top table.own own a in
      own_formed table own (kept_aborted (λ c. c.parent) (λ c. refl) table.own own a.ends may)
      (each_aborted (IsFormedChild problem table.site) (λ c h. child_with table.site Aborted c refl h) table.own own a.ends may t.own) t

  pub drop_formed : (table : Table) (known : List ℕ) → IsFormedTable problem table → IsFormedTable problem (table_guests table (drop_lost known table.guests))
  drop_formed table known t =
      guests_formed table (drop_lost known table.guests) (keys_dropped known table.guests)
      (guests_dropped (IsFormedGuest problem table.site) known (λ g h. guest_by table.site Dropped g refl h) table.guests t.guests) t

  -- ---- more units

  added_formed : (table : Table) (unit : WorkUnit) (ps : List (List ℕ)) → ArePrefixes problem ps → IsSome (unit_of table unit) → length (table.own ++ map (λ p. new_child unit p) ps) ≤ table.limit
      → IsFormedTable problem table → IsFormedTable problem (table_own table (table.own ++ map (λ p. new_child unit p) ps))
  added_formed table unit ps prefixes here few t = record {
    site = t.site;
    small = t.small;
    names = few;
    parents = parents_added table unit ps t.parents here;
    ascending = t.ascending;
    own =
        each_append (IsFormedChild problem table.site) table.own (map (λ p. new_child unit p) ps) t.own
        (each_mapped (λ p. is_prefix problem p ≡ true) (IsFormedChild problem table.site) (λ p. new_child unit p) ps (λ p h. record { told = record { prefix = h; attempt = refl }; status = refl }) prefixes);
    guests = t.guests;
  }

  pub split_formed : (table : Table) (unit : WorkUnit) (ps : List (List ℕ)) → ArePrefixes problem ps → IsSome (unit_of table unit) → length (split_into table unit ps).own ≤ table.limit
      → IsFormedTable problem table → IsFormedTable problem (split_into table unit ps)
  split_formed table (Own k) ps prefixes here few t =
      let mid : Table = table_gets table (Own k) Split in
      added_formed mid (Own k) ps prefixes (unit_there table mid (kept_changed (λ c. c.parent) (with_status Split) (λ c. refl) table.own k) refl (Own k) here) few
      (gets_formed table (Own k) Split (split_fits table.site (Own k)) t)
  split_formed table (Guest name attempt) ps prefixes here few t =
      let mid : Table = table_gets table (Guest name attempt) Split in
      added_formed mid (Guest name attempt) ps prefixes (unit_there table mid refl (keys_changed Split table.guests name attempt) (Guest name attempt) here) few
      (gets_formed table (Guest name attempt) Split (split_fits table.site (Guest name attempt)) t)

  pub admit_formed : (table : Table) (new : GuestEntry) → guest_in table.guests new.name new.entry.attempt ≡ None → IsFormedGuest problem table.site new → IsFormedTable problem table
      → IsFormedTable problem (table_guests table (insert_guest new table.guests))
  admit_formed table new none formed t = record {
    site = t.site;
    small = t.small;
    names = t.names;
    parents = parents_inserted table new t.parents;
    ascending = ascending_inserted new table.guests none t.ascending;
    own = t.own;
    guests = each_inserted (IsFormedGuest problem table.site) new table.guests formed t.guests;
  }

  -- a child that is given can be told, and is there already or of a prefix
  abbrev pub IsWelcome : Site → List GuestEntry → Gift → Type 0
  IsWelcome from guests gift = (is_child gift.serial gift.attempt ≡ true) × (is_lawful problem from guests gift ≡ true)

  -- the table with these guests is formed, and all of its own are among them
  abbrev pub IsGrown : Table → List GuestEntry → Type 0
  IsGrown table guests = IsFormedTable problem (table_guests table guests) × ((n : ChildName) (a : ℕ) → IsSome (guest_in table.guests n a) → IsSome (guest_in guests n a))

  pub admits_formed : (table : Table) (from : Site) (gifts : List Gift) → is_another table.site from ≡ true → AllByRecursion (IsWelcome from table.guests) gifts → IsFormedTable problem table
      → IsFormedTable problem (table_guests table (admit_each from gifts table.guests))
  admits_formed table from gifts owner welcome t = (admits_keep (IsGrown table) (IsWelcome from table.guests) from one gifts table.guests welcome (t, λ n a h. h)).0
    where
      one : (gift : Gift) (guests : List GuestEntry) → IsWelcome from table.guests gift → guest_in guests (name_of from gift) gift.attempt ≡ None → IsGrown table guests → IsGrown table (insert_guest (gift_guest from gift) guests)
      one gift guests w none g =
          let named = and_parts (is_serial gift.serial) (is_counted gift.attempt) w.0 in
          let lawful : is_prefix problem gift.prefix ≡ true =
          ⊎_elim
          (λ (there : is_there from table.guests gift ≡ true). absurd (true≢false (sym (g.1 (name_of from gift) gift.attempt there) ∙ ap is_some none)))
          (λ (p : is_prefix problem gift.prefix ≡ true). p)
          (or_cases (is_there from table.guests gift) (is_prefix problem gift.prefix) w.1) in (
            admit_formed (table_guests table guests) (gift_guest from gift) none (record { owner = owner; serial = named.0; told = record { prefix = lawful; attempt = named.1 }; status = refl }) g.0,
            λ n a h. there_inserted (gift_guest from gift) guests n a (g.1 n a h),
          )

-- ---- results

covers_told : (site : Site) (s : Status) (options : List ℕ) → cover_of s ≡ Some options → is_child_status site s ≡ true → is_result (Cover options) ≡ true
covers_told site (Done (Cover found)) options e h = subst (λ os. is_result (Cover os) ≡ true) (same_Some found options e) h
covers_told site (Done Empty) options e h = absurd (none-some options e)
covers_told site Ready options e h = absurd (none-some options e)
covers_told site _ options e h = absurd (none-some options e)

first_told : (o : Option (List ℕ)) (empty : Bool) (rest : Option ChildResult) → ((options : List ℕ) → o ≡ Some options → is_result (Cover options) ≡ true) → ((r : ChildResult) → rest ≡ Some r → is_result r ≡ true)
    → (r : ChildResult) → first_result o empty rest ≡ Some r → is_result r ≡ true
first_told (Some options) empty rest f g r e = subst (λ x. is_result x ≡ true) (same_Some (Cover options) r e) (f options refl)
first_told None empty None f g r e = absurd (none-some r e)
first_told None empty (Some (Cover options)) f g r e = g r e
first_told None true (Some Empty) f g r e = g r e
first_told None false (Some Empty) f g r e = absurd (none-some r e)

module _ (problem : Problem) (site : Site) where
  frame_told : (own : List Entry) → AllByRecursion (IsFormedChild problem site) own → (r : ChildResult) → frame_result own ≡ Some r → is_result r ≡ true
  frame_told [] h r e = subst (λ x. is_result x ≡ true) (same_Some Empty r e) refl
  frame_told (c ∷ cs) h r e =
      first_told (cover_of c.status) (is_empty_handed c.status) (frame_result cs)
      (λ options at. covers_told site c.status options at h.0.status) (λ x at. frame_told cs h.1 x at) r e

  each_filtered : (test : Entry → Bool) (own : List Entry) → AllByRecursion (IsFormedChild problem site) own → AllByRecursion (IsFormedChild problem site) (filter test own)
  each_filtered test [] h = tt
  each_filtered test (c ∷ cs) h = go (test c) (each_filtered test cs h.1)
    where
      go : (b : Bool) → AllByRecursion (IsFormedChild problem site) (filter test cs) → AllByRecursion (IsFormedChild problem site) (cond b (c ∷ filter test cs) (filter test cs))
      go true later = (h.0, later)
      go false later = later

  pub result_told : (unit : WorkUnit) (own : List Entry) (r : ChildResult) → AllByRecursion (IsFormedChild problem site) own → frame_result (frame unit own) ≡ Some r → is_result r ≡ true
  result_told unit own r h e = frame_told (frame unit own) (each_filtered (λ c. is_unit c.parent unit) own h) r e
