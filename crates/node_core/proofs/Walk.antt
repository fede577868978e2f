-- Each step of a formed node leaves it formed, and what is put out has a spelling.
use Rattle.std.proofs.Common.{◌≡◌, ◌⊎◌, ℕ, ◌+◌, ◌<◌, ◌≤◌, Bool, true, false, ◌&&◌, cond, ◌==◌, nat_lt, List, [], ◌∷◌, ◌++◌, length, Option, Some, None, is_some, slice_get, refl, sym, ap, subst, ◌∙◌, inl, inr, arith}
use Rattle.std.specs.List.{AllByRecursion}
use Rattle.std.proofs.lemmas.Bool.{and_from, and_parts}
use Rattle.std.proofs.lemmas.Option.{same_Some}
use Rattle.cover_problem.proofs.Firsts.{children_prefixes}
use Rattle.cover_problem.proofs.Outcomes.{past_covers}
use Rattle.cover_problem.specs.Branching.{children}
use Rattle.cover_problem.specs.Prefix.{is_prefix}
use Rattle.cover_problem.specs.Problem.{Problem}
use Rattle.cover_problem.specs.Search.{Barren, Covers, Outcome, Spent, first, outcome}
use Rattle.node_core.proofs.Each.{each_append, each_at, each_both}
use Rattle.node_core.proofs.Knowing.{known_another, learns_known}
use Rattle.node_core.proofs.Packets.{IsTellable, aborts_told, gift_told, gives_told, own_serial, reached_formed, returns_told, unit_returns, unit_told}
use Rattle.node_core.proofs.Telling.{IsWell, cover_told, from_another, from_thief, not_registry, packet_told, thief_told, well_told}
use Rattle.node_core.proofs.Units.{FitsStatus, aborts_formed, admits_formed, drop_formed, gets_formed, here_fits, redo_formed, redone_formed, result_fits, result_told, split_formed}
use Rattle.node_core.specs.Arrivals.{AcceptStep, Answers, Denies, GiveStep, Gives, RefuseStep, is_lawful}
use Rattle.node_core.specs.Formed.{AllFormed, FormedStep, IsFormed, IsFormedChild, IsFormedNode, IsFormedTable, IsKnown, is_another, is_child_status, is_thief}
use Rattle.node_core.specs.Membership.{MembersStep}
use Rattle.node_core.specs.NodeStep.{EventStep, HearStep, over_now}
use Rattle.node_core.specs.Refusal.{IsFit}
use Rattle.node_core.specs.Requests.{AskStep, RedoStep, gives_again, known_site, registry, returns_again}
use Rattle.node_core.specs.Results.{FinishStep, Leaves, return_packets, split_up}
use Rattle.node_core.specs.SiteView.{View, abort_packets, unit_gets, with_ledger, with_own, with_table}
use Rattle.node_core.specs.Taking.{Stays, TakeStep}
use Rattle.node_core.specs.declared.event.Event.{Event}
use Rattle.node_core.specs.declared.event.Event.TheVariants.{Again, Ask, Deliver, Finish, Greet, Post, Redo, Take}
use Rattle.node_core.specs.declared.reply.Reply.{Reply}
use Rattle.node_core.specs.declared.reply.Reply.TheVariants.{Idle, Ignored, Moved, Ripe, Taken}
use Rattle.packet_wire.specs.WellFormed.{are_incarnations, are_siblings, is_child, is_counted, is_next_serial, is_option, is_parent, is_result, is_serial, is_sibling_count, is_well_formed}
use Rattle.packet_wire.specs.Gifts.{gifts_in}
use Rattle.packet_wire.specs.declared.packet.Body.{Body}
use Rattle.packet_wire.specs.declared.packet.Body.TheVariants as bodies
use Rattle.packet_wire.specs.declared.packet.Packet.{Packet}
use Rattle.spawn_frame.specs.Aborts.{reached}
use Rattle.spawn_frame.specs.Gifts.{admit_each, is_next, sibling_gifts}
use Rattle.spawn_frame.specs.Names.{same_unit}
use Rattle.spawn_frame.specs.Splits.{split_into, with_result}
use Rattle.spawn_frame.specs.Units.{Entry, Table, change_at, last_attempt, redone, table_gets, table_guests, table_own, unit_of}
use Rattle.spawn_frame.specs.declared.cause.Cause.TheVariants as causes
use Rattle.spawn_frame.specs.declared.child_result.ChildResult.{ChildResult}
use Rattle.spawn_frame.specs.declared.child_result.ChildResult.TheVariants.{Cover, Empty}
use Rattle.spawn_frame.specs.declared.gift.Gift.{Gift}
use Rattle.spawn_frame.specs.declared.site.ChildName.{ChildName}
use Rattle.spawn_frame.specs.declared.siblings.Sibling.{Sibling}
use Rattle.spawn_frame.specs.declared.site.Site.{Site}
use Rattle.spawn_frame.specs.declared.status.Status.{Status}
use Rattle.spawn_frame.specs.declared.status.Status.TheVariants.{Aborted, Done, Dropped, Here, Out, Ready, Settled}
use Rattle.spawn_frame.specs.declared.unit.Unit.{Unit as WorkUnit}
use Rattle.spawn_frame.specs.declared.unit.Unit.TheVariants.{Guest, Own}
use Rattle.steal_return.proofs.Gifts.{gives_keep}
use Rattle.steal_return.specs.Ledger.{Ledger}
use Rattle.steal_return.specs.Members.{drop_lost, is_lost_guest, redo_lost}
use Rattle.steal_return.specs.Returns.{Enters, Holds, Judgement, Refuses, if_out, judged, judged_by}
use Rattle.steal_return.specs.Steals.{GivesChildren, GivesEach, is_older}

-- ---- tables keep their site

pub gets_site : (table : Table) (unit : WorkUnit) (s : Status) → (table_gets table unit s).site ≡ table.site
gets_site table (Own serial) s = refl
gets_site table (Guest name attempt) s = refl

split_site : (table : Table) (unit : WorkUnit) (ps : List (List ℕ)) → (split_into table unit ps).site ≡ table.site
split_site table (Own serial) ps = refl
split_site table (Guest name attempt) ps = refl

split_limit : (table : Table) (unit : WorkUnit) (ps : List (List ℕ)) → (split_into table unit ps).limit ≡ table.limit
split_limit table (Own serial) ps = refl
split_limit table (Guest name attempt) ps = refl

-- ---- what is known of a result that is held

status_told : (site : Site) (s : Status) (from : Site) (at : Bool) (r : ChildResult) → judged_by s from at ≡ Holds r → is_child_status site s ≡ true → is_result r ≡ true
status_told site (Done result) from at r e h = let same : result ≡ r = cc in subst (λ x. is_result x ≡ true) same h
status_told site (Out thief) from at r e h = absurd (neither _ e)
  where
    neither : (b : Bool) → if_out b ≡ Holds r → ⊥
    neither true e = cc
    neither false e = cc
status_told site Aborted from at r e h = absurd (cc)
status_told site Ready from at r e h = absurd (cc)
status_told site _ from at r e h = absurd (cc)

judged_told : (site : Site) (o : Option Entry) (from : Site) (attempt : ℕ) (r : ChildResult) → judged o from attempt ≡ Holds r → ((c : Entry) → o ≡ Some c → is_child_status site c.status ≡ true) → is_result r ≡ true
judged_told site None from attempt r e h = absurd (cc)
judged_told site (Some c) from attempt r e h = go (nat_lt c.attempt attempt) e
  where
    go : (b : Bool) → cond b (Refuses causes.Unknown) (judged_by c.status from (c.attempt == attempt)) ≡ Holds r → is_result r ≡ true
    go true e' = absurd (cc)
    go false e' = status_told site c.status from (c.attempt == attempt) r e' (h c refl)

-- ---- steps

-- What a step leaves is formed, and what it puts out has a spelling.
pub record Follows (problem : Problem) (old : View) (out : List Packet) (new : View) : Type 0 where
  pub formed : IsFormed problem new
  pub site : new.site ≡ old.site
  pub packets : AllFormed out

module _ (problem : Problem) where
  pub follows : (old mid new : View) (outs out : List Packet) → new ≡ mid → out ≡ outs → IsFormed problem mid → mid.site ≡ old.site → AllFormed outs → Follows problem old out new
  follows old mid new outs out e o f s p = record {
    formed = subst (IsFormed problem) (sym e) f;
    site = ap (λ (v : View). v.site) e ∙ s;
    packets = subst AllFormed (sym o) p;
  }

  pub table_formed : (old : View) (table : Table) → table.site ≡ old.site → IsFormedTable problem table → IsFormed problem old → IsFormed problem (with_table old table)
  table_formed old table same t f = record {
    lawful = f.lawful;
    some = f.some;
    most = f.most;
    within = subst (λ (s : Site). s.node ≤ old.nodes) (sym same) f.within;
    known = f.known;
    units = t;
  }

  pub gets_view : (old : View) (unit : WorkUnit) (s : Status) → FitsStatus old.site unit s → IsFormed problem old → IsFormed problem (unit_gets old unit s)
  gets_view old unit s fit f = table_formed old (table_gets old.table unit s) (gets_site old.table unit s) (gets_formed problem old.table unit s fit f.units) f

  pub stays : (old : View) (out : List Packet) (new : View) → Stays old out new → IsFormed problem old → Follows problem old out new
  stays old out new h f = follows old old new [] out h.0 h.1 f refl tt

  over_formed : (old : View) → IsFormed problem old → IsFormed problem (over_now old)
  over_formed old f = record {
    lawful = f.lawful;
    some = f.some;
    most = f.most;
    within = f.within;
    known = f.known;
    units = f.units;
  }

  pub few_names : (table : Table) → IsFormedTable problem table → 0 + length table.own < 4294967296
  few_names table t =
      let small : table.limit < 4294967296 = t.small in
      let names = t.names in
      omega (arith, small, names)

  -- those below, whose thieves are told
  aborted_told : (site : Site) (table : Table) (own : List Entry) → table.site ≡ site → IsFormedTable problem table → AllFormed (abort_packets site (reached 0 table.own own))
  aborted_told site table own same t =
      subst (λ (s : Site). AllFormed (abort_packets s (reached 0 table.own own))) same
      (aborts_told table.site (reached 0 table.own own) t.site
      (reached_formed problem table.site 0 table.own own (few_names table t) t.own))

  -- ---- what a site does of itself

  take_follows : (old : View) (reply : Reply) (out : List Packet) (new : View) → TakeStep old reply out new → IsFormed problem old → Follows problem old out new
  take_follows old (Ripe unit) out new h f = stays old out new h.1 f
  take_follows old (Taken job prefix) out new h f =
      follows old (unit_gets old job.unit Here) new [] out h.after h.sends (gets_view old job.unit Here (here_fits old.site job.unit) f) (gets_site old.table job.unit Here) tt
  take_follows old Idle out new h f = stays old out new h.2 f
  take_follows old Moved out new h f = absurd h
  take_follows old Ignored out new h f = absurd h

  -- a unit gets a result, which is returned
  result_follows : (old : View) (unit : WorkUnit) (entry : Entry) (result : ChildResult) (out : List Packet) (new : View) → 1 ≤ old.site.node → unit_of old.table unit ≡ Some entry → is_result result ≡ true
      → new ≡ unit_gets old unit (with_result unit result) → out ≡ return_packets old.site unit result → IsFormed problem old → Follows problem old out new
  result_follows old unit entry result out new node is told e o f =
      follows old (unit_gets old unit (with_result unit result)) new (return_packets old.site unit result) out e o
      (gets_view old unit (with_result unit result) (result_fits old.site unit result told) f)
      (gets_site old.table unit (with_result unit result))
      (unit_returns problem old.table unit entry result node f.units is told)

  leaves_follow : (old : View) (unit : WorkUnit) (entry : Entry) (prefix : List ℕ) (fuel : ℕ) (o : Outcome) (out : List Packet) (new : View) → 1 ≤ old.site.node → unit_of old.table unit ≡ Some entry
      → is_prefix problem prefix ≡ true → o ≡ outcome problem prefix fuel → Leaves problem old unit prefix o out new → IsFormed problem old → Follows problem old out new
  leaves_follow old unit entry prefix fuel (Covers options) out new node is lawful e l f =
      result_follows old unit entry (Cover options) out new node is (cover_told problem prefix options f.lawful lawful (past_covers _ (first problem prefix) options (sym e))) l.0 l.1 f
  leaves_follow old unit entry prefix fuel Barren out new node is lawful e l f = result_follows old unit entry Empty out new node is refl l.0 l.1 f
  leaves_follow old unit entry prefix fuel Spent out new node is lawful e l f =
      let few : length (split_up problem old unit prefix).own ≤ old.limit = subst (λ (v : View). length v.own ≤ old.limit) l.0 l.1 in
      follows old (split_up problem old unit prefix) new [] out l.0 l.2
      (table_formed old (split_into old.table unit (children problem prefix)) (split_site old.table unit (children problem prefix))
      (split_formed problem old.table unit (children problem prefix) (children_prefixes problem prefix lawful) (ap is_some is) few f.units) f)
      (split_site old.table unit (children problem prefix)) tt

  finish_follows : (old : View) (unit : WorkUnit) (out : List Packet) (new : View) → 1 ≤ old.site.node → FinishStep old unit out new → IsFormed problem old → Follows problem old out new
  finish_follows old unit out new node h f =
      let told : is_result h.result ≡ true = result_told problem old.site unit old.own h.result f.units.own h.settled in
      let mid : Table = table_gets old.table unit (with_result unit h.result) in
      let site : mid.site ≡ old.site = gets_site old.table unit (with_result unit h.result) in
      let t : IsFormedTable problem mid = gets_formed problem old.table unit (with_result unit h.result) (result_fits old.site unit h.result told) f.units in
      follows old (with_table old (table_own mid h.own)) new (abort_packets old.site (reached 0 mid.own h.own) ++ return_packets old.site unit h.result) out
      (h.after ∙ ap (with_ledger old) h.finishes.after)
      (h.sends ∙ ap (λ outs. abort_packets old.site outs ++ return_packets old.site unit h.result) h.finishes.reaches)
      (table_formed old (table_own mid h.own) site (aborts_formed problem mid (same_unit unit) h.own h.aborts t) f) site
      (each_append (λ p. is_well_formed p ≡ true) (abort_packets old.site (reached 0 mid.own h.own)) (return_packets old.site unit h.result)
      (aborted_told old.site mid h.own site t)
      (unit_returns problem old.table unit h.entry h.result node f.units h.is told))

  ask_follows : (old : View) (victim : ℕ) (out : List Packet) (new : View) → 1 ≤ old.site.node → AskStep old victim out new → IsFormed problem old → Follows problem old out new
  ask_follows old victim out new node h f =
      follows old old new (record { from = old.site; to = known_site old victim; body = bodies.Steal } ∷ []) out h.after h.sends f refl
      (packet_told old.site (known_site old victim) bodies.Steal f.units.site (known_another old victim f.most f.known h.exists h.another) (not_registry old.site.node node) refl, tt)

  pub redo_follows : (old : View) (serial : ℕ) (out : List Packet) (new : View) → RedoStep old serial out new → IsFormed problem old → Follows problem old out new
  redo_follows old serial out new h f =
      follows old (with_own old (change_at redone old.own serial)) new [] out (h.after ∙ ap (with_ledger old) h.redoes.after) h.sends
      (table_formed old (table_own old.table (change_at redone old.own serial)) refl
      (redone_formed problem old.table serial (λ c at. subst (λ (x : Entry). x.attempt < last_attempt) (same_Some h.entry c (sym h.is ∙ at)) h.not_last) f.units) f) refl tt

  again_follows : (old : View) (out : List Packet) (new : View) → 1 ≤ old.site.node → out ≡ gives_again old.site 0 old.own ++ returns_again old.site old.guests → new ≡ old → IsFormed problem old → Follows problem old out new
  again_follows old out new node o e f =
      follows old old new (gives_again old.site 0 old.own ++ returns_again old.site old.guests) out e o f refl
      (each_append (λ p. is_well_formed p ≡ true) (gives_again old.site 0 old.own) (returns_again old.site old.guests)
      (gives_told problem old.site f.lawful f.units.site 0 old.own (few_names old.table f.units) f.units.own)
      (returns_told problem old.site f.units.site node old.guests f.units.guests))

  greet_follows : (old : View) (out : List Packet) (new : View) → 1 ≤ old.site.node → new ≡ old → out ≡ record { from = old.site; to = registry; body = bodies.Hello } ∷ [] → IsFormed problem old → Follows problem old out new
  greet_follows old out new node e o f =
      follows old old new (record { from = old.site; to = registry; body = bodies.Hello } ∷ []) out e o f refl
      (packet_told old.site registry bodies.Hello f.units.site (not_registry old.site.node node) refl refl, tt)

  -- ---- packets

  members_follow : (old : View) (incarnations : List ℕ) (out : List Packet) (new : View) → are_incarnations incarnations ≡ true → MembersStep old incarnations out new → IsFormed problem old → Follows problem old out new
  members_follow old incarnations out new told h f =
      let mid : Table = table_own old.table (redo_lost (is_older h.known) old.own) in
      let t : IsFormedTable problem mid = redo_formed problem old.table (is_older h.known) h.redoable f.units in
      let end : Table = table_guests (table_own old.table h.own) (drop_lost h.known old.guests) in
      let u : IsFormedTable problem end = drop_formed problem (table_own old.table h.own) h.known (aborts_formed problem mid (is_lost_guest h.known old.guests) h.own h.aborts t) in
      follows old (with_ledger old (record { table = end; nodes = old.nodes; known = h.known })) new (abort_packets old.site (reached 0 mid.own h.own)) out
      (h.after ∙ ap (with_ledger old) h.learns.after)
      (h.sends ∙ ap (abort_packets old.site) h.learns.reaches)
      (record {
        lawful = f.lawful;
        some = f.some;
        most = f.most;
        within = f.within;
        known = subst (IsKnown old.nodes) (sym h.known_is) (learns_known old.nodes old.site.node old.known incarnations told f.known);
        units = u;
      }) refl
      (aborted_told old.site mid h.own refl t)

  -- the children that are given become out, one after the other
  gives_formed : (old : View) (from : Site) (parent : Option WorkUnit) (gifts : List Gift) (new : Ledger) → is_thief old.site from ≡ true → GivesEach parent old.ledger from gifts new → IsFormed problem old
      → IsFormed problem (with_ledger old new) × (new.site ≡ old.site)
  gives_formed old from parent gifts new thief h f =
      gives_keep (λ l. IsFormed problem (with_ledger old l) × (l.site ≡ old.site)) from
      (λ l serial entry is ready p. (gets_view (with_ledger old l) (Own serial) (Out from) (ap (λ s. is_thief s from) p.1 ∙ thief) p.0, p.1))
      parent gifts old.ledger new h (f, refl)

  -- and packets can tell them
  gifts_told : (old : View) (from : Site) (parent : Option WorkUnit) (gifts : List Gift) (l new : Ledger) → is_thief l.site from ≡ true → GivesEach parent l from gifts new → IsFormed problem (with_ledger old l)
      → AllByRecursion (IsTellable problem) gifts
  gifts_told old from parent [] l new thief h f = tt
  gifts_told old from parent (gift ∷ gifts) l new thief h f =
      let told = unit_told problem l.table (Own gift.serial) h.1.entry f.units h.1.is in
      let mid_formed : IsFormed problem (with_ledger old h.0) = subst (λ m. IsFormed problem (with_ledger old m)) (sym h.1.after) (gets_view (with_ledger old l) (Own gift.serial) (Out from) thief f) in
      let mid_thief : is_thief h.0.site from ≡ true = subst (λ m. is_thief m.site from ≡ true) (sym h.1.after) thief in (
        (
          and_from (is_serial gift.serial) (is_counted gift.attempt) (own_serial problem l.table gift.serial h.1.entry f.units h.1.is) (ap is_counted h.1.attempt ∙ told.attempt),
          ap (is_prefix problem) h.1.prefix ∙ told.prefix,
        ),
        gifts_told old from parent gifts h.0 new mid_thief h.3 mid_formed,
      )

  -- a node, or a site none of whose children has a parent
  abbrev pub MayOwn : View → Type 0
  MayOwn old = (1 ≤ old.site.node) ⊎ ((k : ℕ) (c : Entry) → slice_get old.own k ≡ Some c → c.parent ≡ None)

  -- several children are given by a node alone: they have a parent
  many_by_node : (old : View) (from : Site) (gifts : List Gift) (new : Ledger) → MayOwn old → GivesChildren old.ledger from gifts new → (length gifts ≡ 1 → ⊥) → 1 ≤ old.site.node
  many_by_node old from gifts new (inl node) g many = node
  many_by_node old from gifts new (inr none) g many = absurd (many (g.alone (orphan gifts g.some g.each)))
    where
      orphan : (hs : List Gift) → 1 ≤ length hs → GivesEach g.parent old.ledger from hs new → g.parent ≡ None
      orphan [] some h = absurd (omega (arith, some))
      orphan (gift ∷ hs) some h = sym h.2 ∙ none gift.serial h.1.entry h.1.is

  pub steal_follows : (old : View) (from : Site) (out : List Packet) (new : View) → is_thief old.site from ≡ true → MayOwn old → Denies old from out new ⊎ Gives old from out new → IsFormed problem old → Follows problem old out new
  steal_follows old from out new thief owner (inl d) f =
      follows old old new (record { from = old.site; to = from; body = bodies.NoWork } ∷ []) out d.after d.sends f refl
      (thief_told old.site from bodies.NoWork f.units.site thief refl refl, tt)
  steal_follows old from out new thief owner (inr g) f =
      let after = gives_formed old from g.parent (gifts_in g.body) g.ledger thief g.each f in
      follows old (with_ledger old g.ledger) new (record { from = old.site; to = from; body = g.body } ∷ []) out g.after g.sends after.0 after.1 (
        gift_told problem old.site from g.body f.lawful f.units.site thief g.spelled g.gives.most g.rising (many_by_node old from (gifts_in g.body) g.ledger owner g.gives)
            (gifts_told old from g.parent (gifts_in g.body) old.ledger g.ledger thief g.each f),
        tt,
      )

  give_follows : (old : View) (from : Site) (gifts : List Gift) (reply : Reply) (out : List Packet) (new : View) → is_another old.site from ≡ true → AllByRecursion (λ g. is_child g.serial g.attempt ≡ true) gifts
      → GiveStep problem old from gifts reply out new → IsFormed problem old → Follows problem old out new
  give_follows old from gifts Moved out new owner named h f =
      follows old (with_table old (table_guests old.table (admit_each from gifts old.guests))) new [] out
      (h.after ∙ ap (with_ledger old) h.admits.after) h.sends
      (table_formed old (table_guests old.table (admit_each from gifts old.guests)) refl
      (admits_formed problem old.table from gifts owner (each_both (λ g. is_child g.serial g.attempt ≡ true) (is_lawful problem from old.guests) gifts named h.lawful) f.units) f) refl tt
  give_follows old from gifts Ignored out new owner named h f = stays old out new h.1 f
  give_follows old from gifts _ out new owner named h f = absurd h

  -- each of the children that come together is named
  siblings_named : (last : Option ℕ) (prefix : List ℕ) (ss : List Sibling) → are_siblings last ss ≡ true → AllByRecursion (λ g. is_child g.serial g.attempt ≡ true) (sibling_gifts prefix ss)
  siblings_named last prefix [] h = tt
  siblings_named last prefix (s ∷ ss) h =
      let first = and_parts (is_next_serial last s.serial && (is_counted s.attempt && is_option s.option)) (are_siblings (Some s.serial) ss) h in
      let parts = and_parts (is_next_serial last s.serial) (is_counted s.attempt && is_option s.option) first.0 in
      let serial = and_parts (is_serial s.serial) (is_next last s.serial) parts.0 in
      let attempt = and_parts (is_counted s.attempt) (is_option s.option) parts.1 in
      (and_from (is_serial s.serial) (is_counted s.attempt) serial.0 attempt.0, siblings_named (Some s.serial) prefix ss first.1)

  pub answers_follow : (old : View) (from : Site) (serial attempt : ℕ) (result : ChildResult) (j : Judgement) (out : List Packet) (new : View) → is_thief old.site from ≡ true → is_child serial attempt ≡ true → is_result result ≡ true
      → judged (slice_get old.own serial) from attempt ≡ j → Answers old from serial attempt result j out new → IsFormed problem old → Follows problem old out new
  answers_follow old from serial attempt result Enters out new thief named told e a f =
      follows old (unit_gets old (Own serial) (Done result)) new (record { from = old.site; to = from; body = bodies.Accept serial attempt result } ∷ []) out a.0 a.1
      (gets_view old (Own serial) (Done result) told f) refl
      (thief_told old.site from (bodies.Accept serial attempt result) f.units.site thief refl (and_from (is_child serial attempt) (is_result result) named told), tt)
  answers_follow old from serial attempt result (Holds held) out new thief named told e a f =
      follows old old new (record { from = old.site; to = from; body = bodies.Accept serial attempt held } ∷ []) out a.0 a.1 f refl (
        thief_told old.site from (bodies.Accept serial attempt held) f.units.site thief refl
            (and_from (is_child serial attempt) (is_result held) named
            (judged_told old.site (slice_get old.own serial) from attempt held e (λ c at. (each_at (IsFormedChild problem old.site) old.own serial c f.units.own at).status))),
        tt,
      )
  answers_follow old from serial attempt result (Refuses cause) out new thief named told e a f =
      follows old old new (record { from = old.site; to = from; body = bodies.Refuse serial attempt cause } ∷ []) out a.0 a.1 f refl
      (thief_told old.site from (bodies.Refuse serial attempt cause) f.units.site thief refl named, tt)

  accept_follows : (old : View) (name : ChildName) (attempt : ℕ) (result : ChildResult) (reply : Reply) (out : List Packet) (new : View) → is_result result ≡ true
      → AcceptStep old name attempt result reply out new → IsFormed problem old → Follows problem old out new
  accept_follows old name attempt result Moved out new told h f =
      follows old (unit_gets old (Guest name attempt) (Settled result)) new [] out (h.after ∙ ap (with_ledger old) h.settles.after) h.sends
      (gets_view old (Guest name attempt) (Settled result) told f) refl tt
  accept_follows old name attempt result Ignored out new told h f = stays old out new h.1 f
  accept_follows old name attempt result _ out new told h f = absurd h

  refuse_follows : (old : View) (name : ChildName) (attempt : ℕ) (reply : Reply) (out : List Packet) (new : View) → RefuseStep old name attempt reply out new → IsFormed problem old → Follows problem old out new
  refuse_follows old name attempt Moved out new h f =
      let mid : Table = table_gets old.table (Guest name attempt) Dropped in
      let t : IsFormedTable problem mid = gets_formed problem old.table (Guest name attempt) Dropped refl f.units in
      follows old (with_table old (table_own mid h.own)) new (abort_packets old.site (reached 0 old.own h.own)) out
      (h.after ∙ ap (with_ledger old) h.drops.after)
      (h.sends ∙ ap (abort_packets old.site) h.drops.reaches)
      (table_formed old (table_own mid h.own) refl (aborts_formed problem mid (same_unit (Guest name attempt)) h.own h.aborts t) f) refl
      (aborted_told old.site old.table h.own refl f.units)
  refuse_follows old name attempt Ignored out new h f = stays old out new h.1 f
  refuse_follows old name attempt _ out new h f = absurd h

  hear_follows : (old : View) (from : Site) (body : Body) (reply : Reply) (out : List Packet) (new : View) → 1 ≤ old.site.node → IsWell from old.site body → HearStep problem old from body reply out new → IsFormed problem old → Follows problem old out new
  hear_follows old from bodies.Hello reply out new node w h f = absurd h
  hear_follows old from (bodies.Members incarnations) reply out new node w h f = members_follow old incarnations out new w.told h.0 f
  hear_follows old from bodies.Steal reply out new node w h f = steal_follows old from out new (from_thief from old.site w.sender w.routed) (inl node) h.1 f
  hear_follows old from (bodies.Give serial attempt prefix) reply out new node w h f =
      give_follows old from (gifts_in (bodies.Give serial attempt prefix)) reply out new (from_another _ from old.site w.sender w.routed) ((and_parts (is_child serial attempt) _ w.told).0, tt) h f
  hear_follows old from (bodies.GiveMany prefix siblings) reply out new node w h f =
      let told = and_parts (is_parent prefix) (are_siblings None siblings) (and_parts (is_sibling_count (length siblings)) (is_parent prefix && are_siblings None siblings) w.told).1 in
      give_follows old from (gifts_in (bodies.GiveMany prefix siblings)) reply out new (from_another _ from old.site w.sender w.routed) (siblings_named None prefix siblings told.1) h f
  hear_follows old from bodies.NoWork reply out new node w h f = stays old out new h.1 f
  hear_follows old from (bodies.Return serial attempt result) reply out new node w h f =
      let told = and_parts (is_child serial attempt) (is_result result) w.told in
      answers_follow old from serial attempt result h.1.0 out new (from_thief from old.site w.sender w.routed) told.0 told.1 h.1.1 h.1.2 f
  hear_follows old from (bodies.Accept serial attempt result) reply out new node w h f =
      accept_follows old (record { site = from; serial = serial }) attempt result reply out new (and_parts (is_child serial attempt) (is_result result) w.told).1 h f
  hear_follows old from (bodies.Refuse serial attempt cause) reply out new node w h f = refuse_follows old (record { site = from; serial = serial }) attempt reply out new h f
  hear_follows old from (bodies.Abort serial attempt) reply out new node w h f = refuse_follows old (record { site = from; serial = serial }) attempt reply out new h f
  hear_follows old from bodies.Over reply out new node w h f = follows old (over_now old) new [] out h.1 h.2 (over_formed old f) refl tt

  event_follows : (old : View) (event : Event) (reply : Reply) (out : List Packet) (new : View) → 1 ≤ old.site.node → IsFit problem event → EventStep problem old event reply out new → IsFormed problem old → Follows problem old out new
  event_follows old Take reply out new node fit h f = take_follows old reply out new h f
  event_follows old (Post job finding) reply out new node fit h f =
      let told = unit_told problem old.table job.unit h.1.entry f.units h.1.is in
      leaves_follow old job.unit h.1.entry finding.prefix finding.fuel finding.outcome out new node h.1.is
      (subst (λ p. is_prefix problem p ≡ true) h.1.prefix told.prefix) h.1.right.outcome h.1.leaves f
  event_follows old (Finish unit) reply out new node fit h f = finish_follows old unit out new node h.1 f
  event_follows old (Ask victim) reply out new node fit h f = ask_follows old victim out new node h.1 f
  event_follows old (Redo serial) reply out new node fit h f = redo_follows old serial out new h.1 f
  event_follows old (Deliver packet) reply out new node fit h f = hear_follows old packet.from packet.body reply out new node (well_told packet old.site h.0 fit) h.2 f
  event_follows old Again reply out new node fit h f = again_follows old out new node h.0 h.1 f
  event_follows old Greet reply out new node fit h f = greet_follows old out new node h.1 h.2 f

  node_follows : (old new : View) (event : Event) (reply : Reply) (out : List Packet) → FormedStep problem old event reply out new → Follows problem old out new
  node_follows old new event reply out s = event_follows old event reply out new s.before.node s.fit s.step.1 s.before.formed

  pub node_kept : (old new : View) (event : Event) (reply : Reply) (out : List Packet) → FormedStep problem old event reply out new → IsFormedNode problem new
  node_kept old new event reply out s =
      let after = node_follows old new event reply out s in
      record { formed = after.formed; node = subst (λ (x : Site). 1 ≤ x.node) (sym after.site) s.before.node }

  pub node_sends : (old new : View) (event : Event) (reply : Reply) (out : List Packet) → FormedStep problem old event reply out new → AllFormed out
  node_sends old new event reply out s = (node_follows old new event reply out s).packets
