-- The packets that a formed site puts out have a spelling.
use Rattle.std.proofs.Common.{◌≡◌, ℕ, suc, ◌+◌, ◌<◌, ◌≤◌, true, ◌&&◌, not, ◌==◌, List, [], ◌∷◌, length, Option, Some, None, slice_get, refl, sym, subst, arith, true≢false}
use Rattle.std.specs.Prelude.{nat_lt}
use Rattle.std.specs.List.{AllByRecursion}
use Rattle.std.proofs.lemmas.Bool.{and_from, and_parts, lt-ltb, ltb-true}
use Rattle.std.proofs.lemmas.List.{length-map}
use Rattle.cover_problem.specs.Prefix.{is_prefix}
use Rattle.std.proofs.lemmas.Option.{slice_get_within}
use Rattle.cover_problem.specs.Problem.{IsProblem, Problem}
use Rattle.node_core.proofs.Each.{each_append, each_at, each_mapped, guest_at}
use Rattle.node_core.proofs.Telling.{not_registry, packet_told, parent_told, prefix_told, serial_told, thief_told}
use Rattle.node_core.specs.Formed.{AllFormed, IsFormedChild, IsFormedGuest, IsFormedTable, IsTold, is_another, is_child_status, is_guest_status, is_thief}
use Rattle.node_core.specs.Requests.{give_again, gives_again, return_again, returns_again}
use Rattle.node_core.specs.Results.{return_packets}
use Rattle.node_core.specs.SiteView.{abort_packet, abort_packets}
use Rattle.packet_wire.specs.WellFormed.{are_options, are_siblings, is_body, is_child, is_counted, is_next_serial, is_option, is_parent, is_result, is_serial, is_site, is_well_formed}
use Rattle.packet_wire.specs.Gifts.{gifts_in, is_gift}
use Rattle.packet_wire.specs.declared.packet.Body.{Body}
use Rattle.packet_wire.specs.declared.packet.Body.TheVariants.{Abort, Give, GiveMany, Hello, Return}
use Rattle.spawn_frame.specs.Aborts.{Reached, reached, reached_one}
use Rattle.spawn_frame.specs.Gifts.{is_next, rise_from, serials_of, sibling_gift, sibling_gifts}
use Rattle.spawn_frame.specs.Units.{Entry, GuestEntry, Table, unit_of}
use Rattle.spawn_frame.specs.declared.siblings.Sibling.{Sibling}
use Rattle.spawn_frame.specs.declared.child_result.ChildResult.{ChildResult}
use Rattle.spawn_frame.specs.declared.gift.Gift.{Gift}
use Rattle.spawn_frame.specs.declared.site.Site.{Site}
use Rattle.spawn_frame.specs.declared.status.Status.{Status}
use Rattle.spawn_frame.specs.declared.status.Status.TheVariants.{Aborted, Finished, Out, Ready}
use Rattle.spawn_frame.specs.declared.unit.Unit.{Unit as WorkUnit}
use Rattle.spawn_frame.specs.declared.unit.Unit.TheVariants.{Guest, Own}

-- ---- aborts

-- a child that an Abort can name, whose thief it can reach
abbrev pub IsReachable : Site → Reached → Type 0
IsReachable site r = (is_child r.serial r.attempt ≡ true) × (is_thief site r.thief ≡ true)

one_reached : (site : Site) (serial attempt : ℕ) (s t : Status) → is_child serial attempt ≡ true → is_child_status site s ≡ true → AllByRecursion (IsReachable site) (reached_one serial attempt s t)
one_reached site serial attempt (Out thief) Aborted named fit = ((named, fit), tt)
one_reached site serial attempt (Out thief) Ready named fit = tt
one_reached site serial attempt (Out thief) _ named fit = tt
one_reached site serial attempt Ready t named fit = tt
one_reached site serial attempt _ t named fit = tt

module _ (problem : Problem) (site : Site) where
  pub reached_formed : (serial : ℕ) (old new : List Entry) → serial + length old < 4294967296 → AllByRecursion (IsFormedChild problem site) old → AllByRecursion (IsReachable site) (reached serial old new)
  reached_formed serial [] new few h = tt
  reached_formed serial (c ∷ cs) [] few h = tt
  reached_formed serial (c ∷ cs) (d ∷ ds) few h =
      each_append (IsReachable site) (reached_one serial c.attempt c.status d.status) (reached (suc serial) cs ds)
      (one_reached site serial c.attempt c.status d.status
      (and_from (is_serial serial) (is_counted c.attempt) (serial_told serial 4294967295 (omega (arith, few)) (omega arith)) h.0.told.attempt) h.0.status)
      (reached_formed (suc serial) cs ds (omega (arith, few)) h.1)

pub aborts_told : (site : Site) (outs : List Reached) → is_site site ≡ true → AllByRecursion (IsReachable site) outs → AllFormed (abort_packets site outs)
aborts_told site outs is h =
    each_mapped (IsReachable site) (λ p. is_well_formed p ≡ true) (λ r. abort_packet site r) outs
    (λ r f. thief_told site r.thief (Abort r.serial r.attempt) is f.1 refl f.0) h

-- ---- gives

pub give_told : (problem : Problem) (site thief : Site) (serial : ℕ) (entry : Entry) → IsProblem problem → is_site site ≡ true → is_thief site thief ≡ true → is_serial serial ≡ true → IsTold problem entry
    → is_well_formed (record { from = site; to = thief; body = Give serial entry.attempt entry.prefix }) ≡ true
give_told problem site thief serial entry p is other named told =
    thief_told site thief (Give serial entry.attempt entry.prefix) is other refl
    (and_from (is_child serial entry.attempt) (are_options 0 entry.prefix)
    (and_from (is_serial serial) (is_counted entry.attempt) named told.attempt) (prefix_told problem entry.prefix p told.prefix))

-- a child that is given, as a packet can tell it
abbrev pub IsTellable : Problem → Gift → Type 0
IsTellable problem gift = (is_child gift.serial gift.attempt ≡ true) × (is_prefix problem gift.prefix ≡ true)

-- children of one parent, whose serials rise
siblings_told : (problem : Problem) (last : Option ℕ) (prefix : List ℕ) (ss : List Sibling) → IsProblem problem → AllByRecursion (IsTellable problem) (sibling_gifts prefix ss)
    → rise_from last (serials_of (sibling_gifts prefix ss)) ≡ true → are_siblings last ss ≡ true
siblings_told problem last prefix [] p h r = refl
siblings_told problem last prefix (s ∷ ss) p h r =
    let named = and_parts (is_serial s.serial) (is_counted s.attempt) h.0.0 in
    let rises = and_parts (is_next last s.serial) (rise_from (Some s.serial) (serials_of (sibling_gifts prefix ss))) r in
    and_from (is_next_serial last s.serial && (is_counted s.attempt && is_option s.option)) (are_siblings (Some s.serial) ss)
    (and_from (is_next_serial last s.serial) (is_counted s.attempt && is_option s.option)
    (and_from (is_serial s.serial) (is_next last s.serial) named.0 rises.0)
    (and_from (is_counted s.attempt) (is_option s.option) named.1 (parent_told problem prefix s.option p h.0.1).1))
    (siblings_told problem (Some s.serial) prefix ss p h.1 rises.1)

first_told : (problem : Problem) (prefix : List ℕ) (ss : List Sibling) → IsProblem problem → nat_lt 1 (length ss) ≡ true → AllByRecursion (IsTellable problem) (sibling_gifts prefix ss) → is_parent prefix ≡ true
first_told problem prefix [] p more h = absurd (true≢false (sym more))
first_told problem prefix (s ∷ ss) p more h = (parent_told problem prefix s.option p h.0.1).0

many_told : (problem : Problem) (prefix : List ℕ) (ss : List Sibling) → IsProblem problem → nat_lt 1 (length ss) ≡ true → length (sibling_gifts prefix ss) ≤ 8 → rise_from None (serials_of (sibling_gifts prefix ss)) ≡ true
    → AllByRecursion (IsTellable problem) (sibling_gifts prefix ss) → is_body (GiveMany prefix ss) ≡ true
many_told problem prefix ss p more most rising h =
    and_from (nat_lt 1 (length ss) && nat_lt (length ss) 9) (is_parent prefix && are_siblings None ss)
    (and_from (nat_lt 1 (length ss)) (nat_lt (length ss) 9) more (lt-ltb (length ss) 9 (omega (arith, most, length-map ss (sibling_gift prefix)))))
    (and_from (is_parent prefix) (are_siblings None ss) (first_told problem prefix ss p more h) (siblings_told problem None prefix ss p h rising))

-- a packet that gives children; several are given by a node alone
pub gift_told : (problem : Problem) (site thief : Site) (body : Body) → IsProblem problem → is_site site ≡ true → is_thief site thief ≡ true → is_gift body ≡ true → length (gifts_in body) ≤ 8
    → rise_from None (serials_of (gifts_in body)) ≡ true → ((length (gifts_in body) ≡ 1 → ⊥) → 1 ≤ site.node) → AllByRecursion (IsTellable problem) (gifts_in body)
    → is_well_formed (record { from = site; to = thief; body = body }) ≡ true
gift_told problem site thief (Give serial attempt prefix) p is other spelled most rising node h =
    thief_told site thief (Give serial attempt prefix) is other refl (and_from (is_child serial attempt) (are_options 0 prefix) h.0.0 (prefix_told problem prefix p h.0.1))
gift_told problem site thief (GiveMany prefix ss) p is other spelled most rising node h =
    let o = and_parts (is_another site thief) (not (thief.node == 0)) other in
    let lt = ltb-true 1 (length ss) spelled in
    let owner : 1 ≤ site.node = node (λ one. omega (arith, lt, one, length-map ss (sibling_gift prefix))) in
    packet_told site thief (GiveMany prefix ss) is o.0 (and_from (not (site.node == 0)) (not (thief.node == 0)) (not_registry site.node owner) o.1) (many_told problem prefix ss p spelled most rising h)
gift_told problem site thief Hello p is other spelled most rising node h = absurd (true≢false (sym spelled))
gift_told problem site thief _ p is other spelled most rising node h = absurd (true≢false (sym spelled))

module _ (problem : Problem) (site : Site) (lawful : IsProblem problem) (is : is_site site ≡ true) where
  one_again : (serial : ℕ) (c : Entry) (s : Status) → is_serial serial ≡ true → IsTold problem c → is_child_status site s ≡ true → AllFormed (give_again site serial c s)
  one_again serial c (Out thief) named told fit = (give_told problem site thief serial c lawful is fit named told, tt)
  one_again serial c Ready named told fit = tt
  one_again serial c _ named told fit = tt

  pub gives_told : (serial : ℕ) (own : List Entry) → serial + length own < 4294967296 → AllByRecursion (IsFormedChild problem site) own → AllFormed (gives_again site serial own)
  gives_told serial [] few h = tt
  gives_told serial (c ∷ cs) few h =
      each_append (λ p. is_well_formed p ≡ true) (give_again site serial c c.status) (gives_again site (suc serial) cs)
      (one_again serial c c.status (serial_told serial 4294967295 (omega (arith, few)) (omega arith)) h.0.told h.0.status)
      (gives_told (suc serial) cs (omega (arith, few)) h.1)

-- ---- returns

module _ (problem : Problem) (site : Site) (is : is_site site ≡ true) (node : 1 ≤ site.node) where
  return_told : (g : GuestEntry) (result : ChildResult) → IsFormedGuest problem site g → is_result result ≡ true → AllFormed (return_packets site (Guest g.name g.entry.attempt) result)
  return_told g result h told = (
    packet_told site g.name.site (Return g.name.serial g.entry.attempt result) is h.owner (not_registry site.node node)
        (and_from (is_child g.name.serial g.entry.attempt) (is_result result) (and_from (is_serial g.name.serial) (is_counted g.entry.attempt) h.serial h.told.attempt) told),
    tt,
  )

  again_told : (g : GuestEntry) (s : Status) → IsFormedGuest problem site g → is_guest_status s ≡ true → AllFormed (return_again site g s)
  again_told g (Finished result) h fit = return_told g result h fit
  again_told g Ready h fit = tt
  again_told g _ h fit = tt

  pub returns_told : (gs : List GuestEntry) → AllByRecursion (IsFormedGuest problem site) gs → AllFormed (returns_again site gs)
  returns_told [] h = tt
  returns_told (g ∷ gs) h =
      each_append (λ p. is_well_formed p ≡ true) (return_again site g g.entry.status) (returns_again site gs) (again_told g g.entry.status h.0 h.0.status) (returns_told gs h.1)

-- what a unit of the table returns
pub unit_returns : (problem : Problem) (table : Table) (unit : WorkUnit) (entry : Entry) (result : ChildResult) → 1 ≤ table.site.node → IsFormedTable problem table → unit_of table unit ≡ Some entry → is_result result ≡ true
    → AllFormed (return_packets table.site unit result)
unit_returns problem table (Own serial) entry result node t is told = tt
unit_returns problem table (Guest name attempt) entry result node t is told =
    let g = guest_at (IsFormedGuest problem table.site) table.guests name attempt entry t.guests is in
    subst (λ a. AllFormed (return_packets table.site (Guest name a) result)) g.1
    (return_told problem table.site t.site node (record { name = name; entry = entry }) result g.0 told)

-- what a unit of the table has been told
pub unit_told : (problem : Problem) (table : Table) (unit : WorkUnit) (entry : Entry) → IsFormedTable problem table → unit_of table unit ≡ Some entry → IsTold problem entry
unit_told problem table (Own serial) entry t is = (each_at (IsFormedChild problem table.site) table.own serial entry t.own is).told
unit_told problem table (Guest name attempt) entry t is = (guest_at (IsFormedGuest problem table.site) table.guests name attempt entry t.guests is).0.told

pub own_serial : (problem : Problem) (table : Table) (serial : ℕ) (entry : Entry) → IsFormedTable problem table → slice_get table.own serial ≡ Some entry → is_serial serial ≡ true
own_serial problem table serial entry t is =
    let small : table.limit < 4294967296 = t.small in
    let names = t.names in
    serial_told serial table.limit (omega (arith, names, slice_get_within table.own serial entry is)) small
