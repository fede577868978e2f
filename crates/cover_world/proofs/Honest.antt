-- What a site sends is so: its children are there, its answers are what it holds, and it returns what it finished.
use Rattle.std.proofs.Common.{◌≡◌, ◌≢◌, ◌⊎◌, ℕ, zero, suc, ◌+◌, Bool, true, false, cond, ◌==◌, List, [], ◌∷◌, Option, Some, None, slice_get, refl, sym, subst, ⊎_elim, arith}
use Rattle.std.proofs.lemmas.Option.{none-some}
use Rattle.std.proofs.lemmas.Bool.{and_parts}
use Rattle.cover_problem.specs.Problem.{Problem}
use Rattle.cover_problem.specs.Search.{Outcome, Covers, Barren, Spent}
use Rattle.spawn_frame.specs.declared.site.Site.{Site}
use Rattle.spawn_frame.specs.declared.site.ChildName.{ChildName}
use Rattle.spawn_frame.specs.declared.unit.Unit.{Unit as WorkUnit}
use Rattle.spawn_frame.specs.declared.unit.Unit.TheVariants.{Own, Guest}
use Rattle.spawn_frame.specs.declared.child_result.ChildResult.{ChildResult}
use Rattle.spawn_frame.specs.declared.child_result.ChildResult.TheVariants.{Cover, Empty}
use Rattle.spawn_frame.specs.declared.status.Status.{Status}
use Rattle.spawn_frame.specs.declared.status.Status.TheVariants.{Ready, Out, Done, Finished}
use Rattle.spawn_frame.specs.Units.{Entry, GuestEntry, guest_in, with_status, change_at, change_guest, is_guest}
use Rattle.cover_world.proofs.Changes.{after_drops, after_finish, after_members}
use Rattle.node_core.specs.SiteView.{View, unit_in, with_ledger, with_own, unit_gets, abort_packets}
use Rattle.spawn_frame.specs.Names.{same_name}
use Rattle.packet_wire.specs.Gifts.{gifts_in, is_gift}
use Rattle.packet_wire.specs.declared.packet.Body.{Body}
use Rattle.packet_wire.specs.declared.packet.Body.TheVariants.{Hello, Members, Steal, Give, GiveMany, NoWork, Return, Accept, Refuse, Abort, Over}
use Rattle.packet_wire.specs.declared.packet.Packet.{Packet}
use Rattle.spawn_frame.specs.Aborts.{Reached}
use Rattle.node_core.specs.declared.event.Event.{Event}
use Rattle.node_core.specs.declared.event.Event.TheVariants.{Take, Post, Finish, Ask, Redo, Deliver, Again, Greet}
use Rattle.node_core.specs.declared.reply.Reply.{Reply}
use Rattle.node_core.specs.declared.reply.Reply.TheVariants.{Taken, Ripe, Idle, Moved, Ignored}
use Rattle.node_core.specs.Results.{Leaves, return_packets}
use Rattle.spawn_frame.specs.Splits.{with_result}
use Rattle.node_core.specs.Requests.{give_again, gives_again, return_again, returns_again}
use Rattle.root_registry.specs.RegistryStep.{to_each, if_done, over_packets, RootAnswers, RootSteal, RootHears, RegistryStep, root_result}
use Rattle.node_core.specs.Arrivals.{Answers, GiveStep, AcceptStep, RefuseStep, Denies, Gives}
use Rattle.node_core.specs.NodeStep.{HearStep, EventStep}
use Rattle.node_core.specs.Taking.{TakeStep}
use Rattle.cover_world.specs.Worlds.{SiteStep}
use Rattle.cover_world.proofs.Grows.{get_changed}
use Rattle.cover_world.proofs.Steps.{judged_enters, judged_holds}
use Rattle.cover_world.proofs.Guests.{Every, every_append}
use Rattle.steal_return.proofs.Gifts.{gives_keep}
use Rattle.steal_return.specs.Ledger.{Ledger}
use Rattle.steal_return.specs.Returns.{Enters, Holds, Judgement, Refuses, judged}
use Rattle.steal_return.specs.Steals.{GivesEach}
use Rattle.spawn_frame.proofs.Sames.{name_path}
use Rattle.spawn_frame.specs.declared.gift.Gift.{Gift}

-- the site has this child
pub record HasOwn (view : View) (serial : ℕ) (P : Entry → Type 0) : Type 0 where
  pub entry : Entry
  pub is : slice_get view.own serial ≡ Some entry
  pub so : P entry

-- among the guests is one of this name that was finished with this result
pub data Returns (name : ChildName) (result : ChildResult) : List GuestEntry → Type 0 where
  here : {g : GuestEntry} {gs : List GuestEntry} → g.name ≡ name → g.entry.status ≡ Finished result → Returns name result (g ∷ gs)
  there : {g : GuestEntry} {gs : List GuestEntry} → Returns name result gs → Returns name result (g ∷ gs)

-- the site has the child that is given, with this prefix
abbrev pub GiftSo : View → Gift → Type 0
GiftSo view gift = HasOwn view gift.serial (λ c. c.prefix ≡ gift.prefix)

abbrev pub IsSo : View → Site → Body → Type 0
IsSo view to (Give serial attempt prefix) = Every (GiftSo view) (gifts_in (Give serial attempt prefix))
IsSo view to (GiveMany prefix siblings) = Every (GiftSo view) (gifts_in (GiveMany prefix siblings))
IsSo view to (Accept serial attempt result) = HasOwn view serial (λ c. c.status ≡ Done result)
IsSo view to (Return serial attempt result) = Returns (record { site = to; serial = serial }) result view.guests
IsSo view to _ = Unit {0}

abbrev pub Honest : View → Packet → Type 0
Honest view p = (p.from ≡ view.site) × IsSo view p.to p.body

abbrev pub AllHonest : View → List Packet → Type 0
AllHonest view out = Every (Honest view) out

quiet_aborts : (view : View) (from : Site) (outs : List Reached) → from ≡ view.site → AllHonest view (abort_packets from outs)
quiet_aborts view from [] e = tt
quiet_aborts view from (r ∷ rs) e = ((e, tt), quiet_aborts view from rs e)

pub returns_changed : (result : ChildResult) (gs : List GuestEntry) (name : ChildName) (attempt : ℕ) (entry : Entry) → guest_in gs name attempt ≡ Some entry
    → Returns name result (change_guest (with_status (Finished result)) gs name attempt)
returns_changed result [] name attempt entry e = absurd (none-some entry e)
returns_changed result (g ∷ gs) name attempt entry e = go (is_guest name attempt g) refl e (λ e'. returns_changed result gs name attempt entry e')
  where
    go : (b : Bool) → is_guest name attempt g ≡ b → cond b (Some g.entry) (guest_in gs name attempt) ≡ Some entry
        → (guest_in gs name attempt ≡ Some entry → Returns name result (change_guest (with_status (Finished result)) gs name attempt))
        → Returns name result (cond b (record { name = g.name; entry = with_status (Finished result) g.entry } ∷ gs) (g ∷ change_guest (with_status (Finished result)) gs name attempt))
    go true t e' later = here (name_path g.name name (and_parts (same_name g.name name) (g.entry.attempt == attempt) t).0) refl
    go false t e' later = there (later e')

-- the packets of a unit that gets a result
pub result_honest : (old : View) (unit : WorkUnit) (result : ChildResult) (entry : Entry) → unit_in old unit ≡ Some entry
    → AllHonest (unit_gets old unit (with_result unit result)) (return_packets old.site unit result)
result_honest old (Own serial) result entry is = tt
result_honest old (Guest name attempt) result entry is = ((refl, returns_changed result old.guests name attempt entry is), tt)

same_honest : (old new : View) (out : List Packet) → new ≡ old → AllHonest old out → AllHonest new out
same_honest old new out e h = subst (λ v. AllHonest v out) (sym e) h

no_packets : (view : View) (out : List Packet) → out ≡ [] → AllHonest view out
no_packets view out e = subst (AllHonest view) (sym e) tt

-- one packet that says nothing of a child
one_packet : (view : View) (out : List Packet) (from to : Site) (body : Body) → from ≡ view.site → IsSo view to body → out ≡ record { from = from; to = to; body = body } ∷ [] → AllHonest view out
one_packet view out from to body e so o = subst (AllHonest view) (sym o) ((e, so), tt)

leaves_honest : (problem : Problem) (old : View) (unit : WorkUnit) (prefix : List ℕ) (outcome : Outcome) (out : List Packet) (new : View) (entry : Entry)
    → unit_in old unit ≡ Some entry → Leaves problem old unit prefix outcome out new → AllHonest new out
leaves_honest problem old unit prefix (Covers options) out new entry is l =
    same_honest _ new out l.0 (subst (AllHonest _) (sym l.1) (result_honest old unit (Cover options) entry is))
leaves_honest problem old unit prefix Barren out new entry is l =
    same_honest _ new out l.0 (subst (AllHonest _) (sym l.1) (result_honest old unit Empty entry is))
leaves_honest problem old unit prefix Spent out new entry is l = no_packets new out l.2

give_honest : (view : View) (serial : ℕ) (entry : Entry) (s : Status) → slice_get view.own serial ≡ Some entry → AllHonest view (give_again view.site serial entry s)
give_honest view serial entry (Out thief) is = ((refl, (record { entry = entry; is = is; so = refl }, tt)), tt)
give_honest view serial entry Ready is = tt
give_honest view serial entry _ is = tt

gives_honest : (view : View) (serial : ℕ) (cs : List Entry) → ((j k : ℕ) (c : Entry) → serial + j ≡ k → slice_get cs j ≡ Some c → slice_get view.own k ≡ Some c) → AllHonest view (gives_again view.site serial cs)
gives_honest view serial [] h = tt
gives_honest view serial (c ∷ cs) h =
    every_append (Honest view) (give_again view.site serial c c.status) _ (give_honest view serial c c.status (h 0 serial c (omega arith) refl))
    (gives_honest view (suc serial) cs (λ j k d e is. h (suc j) k d (omega (arith, e)) is))

own_gives_honest : (view : View) → AllHonest view (gives_again view.site 0 view.own)
own_gives_honest view = gives_honest view 0 view.own (λ j k c e is. subst (λ m. slice_get view.own m ≡ Some c) (let s : j ≡ k = omega (arith, e) in s) is)

return_honest : (view : View) (g : GuestEntry) (s : Status) → ((result : ChildResult) → s ≡ Finished result → Returns g.name result view.guests) → AllHonest view (return_again view.site g s)
return_honest view g (Finished result) h = ((refl, h result refl), tt)
return_honest view g Ready h = tt
return_honest view g _ h = tt

returns_honest : (view : View) (gs : List GuestEntry) → ((name : ChildName) (result : ChildResult) → Returns name result gs → Returns name result view.guests) → AllHonest view (returns_again view.site gs)
returns_honest view [] h = tt
returns_honest view (g ∷ gs) h =
    every_append (Honest view) (return_again view.site g g.entry.status) _ (return_honest view g g.entry.status (λ r e. h g.name r (here refl e)))
    (returns_honest view gs (λ name r m. h name r (there m)))

each_honest : (view : View) (body : Body) (node : ℕ) (known : List ℕ) → ((to : Site) → IsSo view to body) → AllHonest view (to_each view.site body node known)
each_honest view body node [] h = tt
each_honest view body node (k ∷ ks) h = ((refl, h _), each_honest view body (suc node) ks h)

-- a child whose status was changed
has_changed : (old : View) (serial : ℕ) (s : Status) (entry : Entry) (P : Entry → Type 0) → slice_get old.own serial ≡ Some entry → P (with_status s entry)
    → HasOwn (with_own old (change_at (with_status s) old.own serial)) serial P
has_changed old serial s entry P is p =
    ⊎_elim
    (λ (h : (serial ≡ serial) × (slice_get (change_at (with_status s) old.own serial) serial ≡ Some (with_status s entry))). record { entry = with_status s entry; is = h.1; so = p })
    (λ (h : (serial ≢ serial) × (slice_get (change_at (with_status s) old.own serial) serial ≡ Some entry)). absurd (h.0 refl))
    (get_changed (with_status s) old.own serial serial entry is)

done_now : (old : View) (serial : ℕ) (result : ChildResult) (entry : Entry) → slice_get old.own serial ≡ Some entry
    → HasOwn (with_own old (change_at (with_status (Done result)) old.own serial)) serial (λ c. c.status ≡ Done result)
done_now old serial result entry is = has_changed old serial (Done result) entry (λ c. c.status ≡ Done result) is refl

site_kept : (old : View) (unit : WorkUnit) (s : Status) → old.site ≡ (unit_gets old unit s).site
site_kept old (Own serial) s = refl
site_kept old (Guest name attempt) s = refl

finish_honest : (old : View) (unit : WorkUnit) (result : ChildResult) (entry : Entry) (own : List Entry) → unit_in old unit ≡ Some entry
    → AllHonest (with_own (unit_gets old unit (with_result unit result)) own) (return_packets old.site unit result)
finish_honest old (Own serial) result entry own is = tt
finish_honest old (Guest name attempt) result entry own is = ((refl, returns_changed result old.guests name attempt entry is), tt)

refuse_honest : (old : View) (name : ChildName) (attempt : ℕ) (reply : Reply) (out : List Packet) (new : View) → RefuseStep old name attempt reply out new → AllHonest new out
refuse_honest old name attempt Moved out new h =
    same_honest _ new out (after_drops old name attempt out new h) (subst (AllHonest _) (sym h.sends) (quiet_aborts _ old.site h.outs refl))
refuse_honest old name attempt Ignored out new h = no_packets new out h.1.1
refuse_honest old name attempt _ out new h = absurd h

answers_honest : (old : View) (from : Site) (serial attempt : ℕ) (result : ChildResult) (j : Judgement) (out : List Packet) (new : View)
    → judged (slice_get old.own serial) from attempt ≡ j → Answers old from serial attempt result j out new → AllHonest new out
answers_honest old from serial attempt result Enters out new e a =
    let at = judged_enters (slice_get old.own serial) from attempt e in
    same_honest _ new out a.0 (one_packet _ out old.site from _ refl (done_now old serial result at.entry at.is) a.1)
answers_honest old from serial attempt result (Holds held) out new e a =
    let at = judged_holds (slice_get old.own serial) from attempt held e in
    same_honest old new out a.0 (one_packet old out old.site from _ refl (record { entry = at.entry; is = at.is; so = at.done }) a.1)
answers_honest old from serial attempt result (Refuses cause) out new e a = same_honest old new out a.0 (one_packet old out old.site from _ refl tt a.1)

root_answers_honest : (problem : Problem) (old : View) (from : Site) (serial attempt : ℕ) (result : ChildResult) (j : Judgement) (out : List Packet) (new : View)
    → judged (slice_get old.own serial) from attempt ≡ j → RootAnswers problem old from serial attempt result j out new → AllHonest new out
root_answers_honest problem old from serial attempt result Enters out new e a =
    let at = judged_enters (slice_get old.own serial) from attempt e in
    same_honest _ new out a.1
    (subst (AllHonest _) (sym a.2) ((refl, done_now old serial result at.entry at.is), each_honest _ Over 1 _ (λ to. tt)))
root_answers_honest problem old from serial attempt result (Holds held) out new e a = answers_honest old from serial attempt result (Holds held) out new e a
root_answers_honest problem old from serial attempt result (Refuses cause) out new e a = answers_honest old from serial attempt result (Refuses cause) out new e a

-- a child keeps its prefix where another one, or it itself, gets a status
keeps_prefix : (view : View) (gift : Gift) (s : Status) (k : ℕ) → GiftSo view gift → GiftSo (with_own view (change_at (with_status s) view.own k)) gift
keeps_prefix view gift s k h =
    ⊎_elim
    (λ (e : (gift.serial ≡ k) × (slice_get (change_at (with_status s) view.own k) gift.serial ≡ Some (with_status s h.entry))). record { entry = with_status s h.entry; is = e.1; so = h.so })
    (λ (e : (gift.serial ≢ k) × (slice_get (change_at (with_status s) view.own k) gift.serial ≡ Some h.entry)). record { entry = h.entry; is = e.1; so = h.so })
    (get_changed (with_status s) view.own k gift.serial h.entry h.is)

-- the children that are given are there
gifts_so : (parent : Option WorkUnit) (gifts : List Gift) (from : Site) (view : View) (new : Ledger) → GivesEach parent view.ledger from gifts new → Every (GiftSo (with_ledger view new)) gifts
gifts_so parent [] from view new h = tt
gifts_so parent (gift ∷ gifts) from view new h =
    let given : GiftSo (with_ledger view h.0) gift =
    subst (λ l. GiftSo (with_ledger view l) gift) (sym h.1.after) (has_changed view gift.serial (Out from) h.1.entry (λ c. c.prefix ≡ gift.prefix) h.1.is (sym h.1.prefix)) in (
      gives_keep (λ l. GiftSo (with_ledger view l) gift) from (λ l serial entry is ready q. keeps_prefix (with_ledger view l) gift (Out from) serial q) parent gifts h.0 new h.3 given,
      gifts_so parent gifts from (with_ledger view h.0) new h.3,
    )

-- so a packet that gives them is so
body_so : (view : View) (to : Site) (body : Body) → is_gift body ≡ true → Every (GiftSo view) (gifts_in body) → IsSo view to body
body_so view to (Give serial attempt prefix) s h = h
body_so view to (GiveMany prefix siblings) s h = h
body_so view to (Accept serial attempt result) s h = absurd (cc)
body_so view to (Return serial attempt result) s h = absurd (cc)
body_so view to Hello s h = tt
body_so view to _ s h = tt

steal_honest : (old : View) (from : Site) (out : List Packet) (new : View) → Denies old from out new ⊎ Gives old from out new → AllHonest new out
steal_honest old from out new =
    ⊎_elim
    (λ (d : Denies old from out new). same_honest old new out d.after (one_packet old out old.site from NoWork refl tt d.sends))
    (λ (g : Gives old from out new).
    let site : old.site ≡ g.ledger.site = gives_keep (λ l. old.site ≡ l.site) from (λ l serial entry is ready q. q) g.parent (gifts_in g.body) old.ledger g.ledger g.each refl in
    same_honest (with_ledger old g.ledger) new out g.after
    (one_packet (with_ledger old g.ledger) out old.site from g.body site (body_so (with_ledger old g.ledger) from g.body g.spelled (gifts_so g.parent (gifts_in g.body) from old g.ledger g.each)) g.sends))

root_steal_honest : (r : Option ChildResult) (old : View) (from : Site) (out : List Packet) (new : View) → RootSteal r old from out new → AllHonest new out
root_steal_honest (Some result) old from out new h = same_honest old new out h.0 (one_packet old out old.site from Over refl tt h.1)
root_steal_honest None old from out new h = steal_honest old from out new h

take_honest : (old : View) (reply : Reply) (out : List Packet) (new : View) → TakeStep old reply out new → AllHonest new out
take_honest old (Ripe unit) out new h = no_packets new out h.1.1
take_honest old (Taken job prefix) out new h = no_packets new out h.sends
take_honest old Idle out new h = no_packets new out h.2.1
take_honest old Moved out new h = absurd h
take_honest old Ignored out new h = absurd h

give_quiet : (problem : Problem) (old : View) (from : Site) (gifts : List Gift) (reply : Reply) (out : List Packet) (new : View) → GiveStep problem old from gifts reply out new → AllHonest new out
give_quiet problem old from gifts Moved out new h = no_packets new out h.sends
give_quiet problem old from gifts Ignored out new h = no_packets new out h.1.1
give_quiet problem old from gifts _ out new h = absurd h

hear_honest : (problem : Problem) (old : View) (from : Site) (body : Body) (reply : Reply) (out : List Packet) (new : View)
    → HearStep problem old from body reply out new → AllHonest new out
hear_honest problem old from Hello reply out new h = absurd h
hear_honest problem old from (Members incarnations) reply out new h =
    same_honest _ new out (after_members old incarnations out new h.0) (subst (AllHonest _) (sym h.0.sends) (quiet_aborts _ old.site h.0.outs refl))
hear_honest problem old from Steal reply out new h = steal_honest old from out new h.1
hear_honest problem old from (Give serial attempt prefix) reply out new h = give_quiet problem old from (gifts_in (Give serial attempt prefix)) reply out new h
hear_honest problem old from (GiveMany prefix siblings) reply out new h = give_quiet problem old from (gifts_in (GiveMany prefix siblings)) reply out new h
hear_honest problem old from NoWork reply out new h = no_packets new out h.1.1
hear_honest problem old from (Return serial attempt result) reply out new h = answers_honest old from serial attempt result h.1.0 out new h.1.1 h.1.2
hear_honest problem old from (Accept serial attempt result) reply out new h = accept_quiet reply h
  where
    accept_quiet : (reply : Reply) → AcceptStep old (record { site = from; serial = serial }) attempt result reply out new → AllHonest new out
    accept_quiet Moved h = no_packets new out h.sends
    accept_quiet Ignored h = no_packets new out h.1.1
    accept_quiet _ h = absurd h
hear_honest problem old from (Refuse serial attempt cause) reply out new h = refuse_honest old _ attempt reply out new h
hear_honest problem old from (Abort serial attempt) reply out new h = refuse_honest old _ attempt reply out new h
hear_honest problem old from Over reply out new h = no_packets new out h.2

event_honest : (problem : Problem) (old : View) (event : Event) (reply : Reply) (out : List Packet) (new : View)
    → EventStep problem old event reply out new → AllHonest new out
event_honest problem old Take reply out new h = take_honest old reply out new h
event_honest problem old (Post job finding) reply out new h =
    leaves_honest problem old job.unit finding.prefix finding.outcome out new h.1.entry h.1.is h.1.leaves
event_honest problem old (Finish unit) reply out new h =
    same_honest _ new out (after_finish old unit out new h.1)
    (subst (AllHonest _) (sym h.1.sends)
    (every_append (Honest _) (abort_packets old.site h.1.outs) _ (quiet_aborts _ old.site h.1.outs (site_kept old unit _))
    (finish_honest old unit h.1.result h.1.entry h.1.own h.1.is)))
event_honest problem old (Ask victim) reply out new h = same_honest old new out h.1.after (one_packet old out old.site _ Steal refl tt h.1.sends)
event_honest problem old (Redo serial) reply out new h = no_packets new out h.1.sends
event_honest problem old (Deliver packet) reply out new h = hear_honest problem old packet.from packet.body reply out new h.2
event_honest problem old Again reply out new h =
    same_honest old new out h.1
    (subst (AllHonest old) (sym h.0) (every_append (Honest old) (gives_again old.site 0 old.own) _ (own_gives_honest old) (returns_honest old old.guests (λ name r m. m))))
event_honest problem old Greet reply out new h = same_honest old new out h.1 (one_packet old out old.site _ Hello refl tt h.2)

root_hears_honest : (problem : Problem) (old : View) (from : Site) (body : Body) (reply : Reply) (out : List Packet) (new : View)
    → RootHears problem old from body reply out new → AllHonest new out
root_hears_honest problem old from Hello reply out new h =
    same_honest _ new out h.1.after (subst (AllHonest _) (sym h.1.sends) (each_honest _ _ 1 _ (λ to. tt)))
root_hears_honest problem old from Steal reply out new h = root_steal_honest (root_result old) old from out new h.1
root_hears_honest problem old from (Return serial attempt result) reply out new h = root_answers_honest problem old from serial attempt result h.1.0 out new h.1.1 h.1.2
root_hears_honest problem old from _ reply out new h = absurd h

registry_honest : (problem : Problem) (old : View) (event : Event) (reply : Reply) (out : List Packet) (new : View)
    → RegistryStep problem old event reply out new → AllHonest new out
registry_honest problem old (Redo serial) reply out new h = no_packets new out h.1.sends
registry_honest problem old (Deliver packet) reply out new h = root_hears_honest problem old packet.from packet.body reply out new h.2
registry_honest problem old Again reply out new h =
    same_honest old new out h.1
    (subst (AllHonest old) (sym h.0) (every_append (Honest old) (gives_again old.site 0 old.own) _ (own_gives_honest old) (overs (root_result old))))
  where
    overs : (r : Option ChildResult) → AllHonest old (if_done r (over_packets old))
    overs None = tt
    overs (Some result) = each_honest old Over 1 _ (λ to. tt)
registry_honest problem old _ reply out new h = absurd h

pub site_honest : (node : ℕ) (problem : Problem) (old : View) (event : Event) (reply : Reply) (out : List Packet) (new : View)
    → SiteStep node problem old event reply out new → AllHonest new out
site_honest zero problem old event reply out new h = registry_honest problem old event reply out new h
site_honest (suc node) problem old event reply out new h = event_honest problem old event reply out new h.1
