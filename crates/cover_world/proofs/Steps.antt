-- Each step of a site keeps its name, and its own children only grow.
use Rattle.std.proofs.Common.{◌≡◌, ◌⊎◌, ℕ, Bool, true, false, List, map, Option, Some, None, slice_get, if◌then◌else◌, cond, refl, sym, ap, ◌∙◌, subst, ⊎_elim}
use Rattle.std.proofs.lemmas.Option.{same_Some}
use Rattle.std.proofs.lemmas.Bool.{and_parts, eqb-true}
use Rattle.cover_problem.specs.Problem.{Problem}
use Rattle.cover_problem.specs.Branching.{children}
use Rattle.cover_problem.specs.Search.{Outcome, Covers, Barren, Spent}
use Rattle.spawn_frame.specs.declared.cause.Cause.TheVariants as causes
use Rattle.spawn_frame.specs.declared.site.Site.{Site}
use Rattle.spawn_frame.specs.declared.site.ChildName.{ChildName}
use Rattle.spawn_frame.specs.declared.unit.Unit.{Unit as WorkUnit}
use Rattle.spawn_frame.specs.declared.unit.Unit.TheVariants.{Own, Guest}
use Rattle.spawn_frame.specs.declared.child_result.ChildResult.{ChildResult}
use Rattle.spawn_frame.specs.declared.child_result.ChildResult.TheVariants.{Cover, Empty}
use Rattle.spawn_frame.specs.declared.status.Status.{Status}
use Rattle.spawn_frame.specs.declared.status.Status.TheVariants.{Ready, Here, Split, Out, Done}
use Rattle.spawn_frame.specs.Units.{Entry, with_status, redone, change_at}
use Rattle.cover_world.proofs.Changes.{after_admits, after_drops, after_finish, after_members, after_redo, after_settles, kept_by_gives}
use Rattle.node_core.specs.SiteView.{View, unit_in, with_own, unit_gets}
use Rattle.spawn_frame.specs.Aborts.{is_open}
use Rattle.packet_wire.specs.Gifts.{gifts_in}
use Rattle.packet_wire.specs.declared.packet.Body.{Body}
use Rattle.packet_wire.specs.declared.packet.Body.TheVariants.{Hello, Members, Steal, Give, GiveMany, NoWork, Return, Accept, Refuse, Abort, Over}
use Rattle.packet_wire.specs.declared.packet.Packet.{Packet}
use Rattle.node_core.specs.declared.event.Event.{Event}
use Rattle.node_core.specs.declared.event.Event.TheVariants.{Take, Post, Finish, Ask, Redo, Deliver, Again, Greet}
use Rattle.node_core.specs.declared.reply.Reply.{Reply}
use Rattle.node_core.specs.declared.reply.Reply.TheVariants.{Taken, Ripe, Idle, Moved, Ignored}
use Rattle.node_core.specs.Results.{Leaves}
use Rattle.spawn_frame.specs.Splits.{with_result, new_child}
use Rattle.node_core.specs.Arrivals.{Answers, GiveStep, AcceptStep, RefuseStep, Denies, Gives}
use Rattle.root_registry.specs.RegistryStep.{RootAnswers, RootSteal, RootHears, RegistryStep, root_result}
use Rattle.node_core.specs.NodeStep.{HearStep, EventStep, NodeStep}
use Rattle.node_core.specs.Taking.{TakeStep}
use Rattle.cover_world.proofs.Grows.{Grows, grows_same, grows_open, grows_redone, OwnGrows, own_same, own_then, own_append, own_change, own_map, own_aborts}
use Rattle.spawn_frame.specs.declared.gift.Gift.{Gift}
use Rattle.steal_return.specs.Members.{redo_if, redo_lost}
use Rattle.steal_return.specs.Returns.{Enters, Holds, Judgement, Refuses, if_out, judged, judged_by}

pub record SiteGrows (old new : View) : Type 0 where
  pub site : new.site ≡ old.site
  pub nodes : new.nodes ≡ old.nodes
  pub own : OwnGrows old.own new.own

stays : (old new : View) → new ≡ old → SiteGrows old new
stays old new e = subst (λ v. SiteGrows old v) (sym e) (record { site = refl; nodes = refl; own = own_same old.own })

open_by : (s t : Status) → s ≡ t → is_open t ≡ true → is_open s ≡ true
open_by s t e h = ap is_open e ∙ h

own_gets : (v : View) (serial : ℕ) (s : Status) (c : Entry) → slice_get v.own serial ≡ Some c → is_open c.status ≡ true → OwnGrows v.own (change_at (with_status s) v.own serial)
own_gets v serial s c is h = own_change (with_status s) v.own serial (λ d e. grows_open s d (subst (λ x. is_open x.status ≡ true) (same_Some c d (sym is ∙ e)) h))

-- an open unit may get any status
pub gets_grows : (v : View) (unit : WorkUnit) (s : Status) (c : Entry) → unit_in v unit ≡ Some c → is_open c.status ≡ true → SiteGrows v (unit_gets v unit s)
gets_grows v (Own serial) s c is h = record { site = refl; nodes = refl; own = own_gets v serial s c is h }
gets_grows v (Guest name attempt) s c is h = record { site = refl; nodes = refl; own = own_same v.own }

grown_own : (v w : View) (own : List Entry) → SiteGrows v w → OwnGrows w.own own → SiteGrows v (with_own w own)
grown_own v w own g h = record { site = g.site; nodes = g.nodes; own = own_then v.own w.own own g.own h }

by_equation : (v w x : View) → x ≡ w → SiteGrows v w → SiteGrows v x
by_equation v w x e g = subst (λ y. SiteGrows v y) (sym e) g

leaves_grows : (problem : Problem) (old : View) (unit : WorkUnit) (prefix : List ℕ) (outcome : Outcome) (out : List Packet) (new : View) (c : Entry)
    → unit_in old unit ≡ Some c → is_open c.status ≡ true → Leaves problem old unit prefix outcome out new → SiteGrows old new
leaves_grows problem old unit prefix (Covers options) out new c is h l = by_equation old _ new l.0 (gets_grows old unit (with_result unit (Cover options)) c is h)
leaves_grows problem old unit prefix Barren out new c is h l = by_equation old _ new l.0 (gets_grows old unit (with_result unit Empty) c is h)
leaves_grows problem old unit prefix Spent out new c is h l =
    by_equation old _ new l.0
    (grown_own old (unit_gets old unit Split) _ (gets_grows old unit Split c is h)
    (own_append (unit_gets old unit Split).own (map (λ p. new_child unit p) (children problem prefix))))

pub redo_if_grows : (lost : Site → Bool) (c : Entry) (s : Status) → c.status ≡ s → Grows c (redo_if lost c s)
redo_if_grows lost c (Out thief) e =
    elim (lost thief) as (λ b. Grows c (if b then redone c else c)) [ true ↦ grows_redone c (ap is_open e) | false ↦ grows_same c ]
redo_if_grows lost c Ready e = grows_same c
redo_if_grows lost c _ e = grows_same c

pub redo_lost_grows : (lost : Site → Bool) (own : List Entry) → OwnGrows own (redo_lost lost own)
redo_lost_grows lost own = own_map (λ c. redo_if lost c c.status) own (λ c. redo_if_grows lost c c.status refl)

-- ---- what the answer to a return says

pub record EntersAt (o : Option Entry) (attempt : ℕ) : Type 0 where
  pub entry : Entry
  pub is : o ≡ Some entry
  pub out_there : is_open entry.status ≡ true
  pub attempt_is : entry.attempt ≡ attempt

pub record HoldsAt (o : Option Entry) (result : ChildResult) : Type 0 where
  pub entry : Entry
  pub is : o ≡ Some entry
  pub done : entry.status ≡ Done result

past_test : (b : Bool) (j k : Judgement) → (Refuses causes.Unknown ≡ k → ⊥) → cond b (Refuses causes.Unknown) j ≡ k → j ≡ k
past_test true j k n e = absurd (n e)
past_test false j k n e = e

if_out_enters : (b : Bool) → if_out b ≡ Enters → b ≡ true
if_out_enters true e = refl
if_out_enters false e = absurd (cc)

if_out_holds : (b : Bool) (r : ChildResult) → if_out b ≡ Holds r → ⊥
if_out_holds true r e = cc
if_out_holds false r e = cc

enters_status : (s : Status) (from : Site) (t : Bool) → judged_by s from t ≡ Enters → (is_open s ≡ true) × (t ≡ true)
enters_status (Out thief) from t e = (refl, (and_parts _ t (if_out_enters _ e)).1)
enters_status Ready from t e = absurd (cc)
enters_status _ from t e = absurd (cc)

holds_status : (s : Status) (from : Site) (t : Bool) (r : ChildResult) → judged_by s from t ≡ Holds r → s ≡ Done r
holds_status (Out thief) from t r e = absurd (if_out_holds _ r e)
holds_status (Done q) from t r e = cc
holds_status _ from t r e = absurd (cc)

pub judged_enters : (o : Option Entry) (from : Site) (attempt : ℕ) → judged o from attempt ≡ Enters → EntersAt o attempt
judged_enters None from attempt e = absurd (cc)
judged_enters (Some c) from attempt e =
    let h = enters_status c.status from _ (past_test _ _ Enters (λ p. cc) e) in
    record { entry = c; is = refl; out_there = h.0; attempt_is = eqb-true c.attempt attempt h.1 }

pub judged_holds : (o : Option Entry) (from : Site) (attempt : ℕ) (r : ChildResult) → judged o from attempt ≡ Holds r → HoldsAt o r
judged_holds None from attempt r e = absurd (cc)
judged_holds (Some c) from attempt r e =
    record { entry = c; is = refl; done = holds_status c.status from _ r (past_test _ _ (Holds r) (λ p. cc) e) }

-- ---- each event

answers_grow : (old : View) (from : Site) (serial attempt : ℕ) (result : ChildResult) (j : Judgement) (out : List Packet) (new : View)
    → judged (slice_get old.own serial) from attempt ≡ j → Answers old from serial attempt result j out new → SiteGrows old new
answers_grow old from serial attempt result Enters out new e a =
    let at = judged_enters (slice_get old.own serial) from attempt e in
    by_equation old _ new a.0 (record { site = refl; nodes = refl; own = own_gets old serial (Done result) at.entry at.is at.out_there })
answers_grow old from serial attempt result (Holds held) out new e a = stays old new a.0
answers_grow old from serial attempt result (Refuses cause) out new e a = stays old new a.0

root_answers_grow : (problem : Problem) (old : View) (from : Site) (serial attempt : ℕ) (result : ChildResult) (j : Judgement) (out : List Packet) (new : View)
    → judged (slice_get old.own serial) from attempt ≡ j → RootAnswers problem old from serial attempt result j out new → SiteGrows old new
root_answers_grow problem old from serial attempt result Enters out new e a = answers_grow old from serial attempt result Enters _ new e (a.1, refl)
root_answers_grow problem old from serial attempt result (Holds held) out new e a = answers_grow old from serial attempt result (Holds held) out new e a
root_answers_grow problem old from serial attempt result (Refuses cause) out new e a = answers_grow old from serial attempt result (Refuses cause) out new e a

steal_grows : (old : View) (from : Site) (out : List Packet) (new : View) → Denies old from out new ⊎ Gives old from out new → SiteGrows old new
steal_grows old from out new =
    ⊎_elim
    (λ (d : Denies old from out new). stays old new d.after)
    (λ (g : Gives old from out new).
    kept_by_gives (SiteGrows old) from
    (λ view serial entry is ready h. record { site = h.site; nodes = h.nodes; own = own_then old.own view.own (change_at (with_status (Out from)) view.own serial) h.own (own_gets view serial (Out from) entry is (ap is_open ready)) })
    old out new g (record { site = refl; nodes = refl; own = own_same old.own }))

root_steal_grows : (r : Option ChildResult) (old : View) (from : Site) (out : List Packet) (new : View) → RootSteal r old from out new → SiteGrows old new
root_steal_grows (Some result) old from out new h = stays old new h.0
root_steal_grows None old from out new h = steal_grows old from out new h

take_grows : (old : View) (reply : Reply) (out : List Packet) (new : View) → TakeStep old reply out new → SiteGrows old new
take_grows old (Ripe unit) out new h = stays old new h.1.0
take_grows old (Taken job prefix) out new h = by_equation old _ new h.after (gets_grows old job.unit Here h.entry h.is (ap is_open h.ready))
take_grows old Idle out new h = stays old new h.2.0
take_grows old Moved out new h = absurd h
take_grows old Ignored out new h = absurd h

give_grows : (problem : Problem) (old : View) (from : Site) (gifts : List Gift) (reply : Reply) (out : List Packet) (new : View)
    → GiveStep problem old from gifts reply out new → SiteGrows old new
give_grows problem old from gifts Moved out new h =
    by_equation old _ new (after_admits problem old from gifts out new h) (record { site = refl; nodes = refl; own = own_same old.own })
give_grows problem old from gifts Ignored out new h = stays old new h.1.0
give_grows problem old from gifts _ out new h = absurd h

accept_grows : (old : View) (name : ChildName) (attempt : ℕ) (result : ChildResult) (reply : Reply) (out : List Packet) (new : View)
    → AcceptStep old name attempt result reply out new → SiteGrows old new
accept_grows old name attempt result Moved out new h =
    by_equation old _ new (after_settles old name attempt result out new h) (record { site = refl; nodes = refl; own = own_same old.own })
accept_grows old name attempt result Ignored out new h = stays old new h.1.0
accept_grows old name attempt result _ out new h = absurd h

refuse_grows : (old : View) (name : ChildName) (attempt : ℕ) (reply : Reply) (out : List Packet) (new : View)
    → RefuseStep old name attempt reply out new → SiteGrows old new
refuse_grows old name attempt Moved out new h =
    by_equation old _ new (after_drops old name attempt out new h) (record { site = refl; nodes = refl; own = own_aborts _ old.own h.own h.aborts })
refuse_grows old name attempt Ignored out new h = stays old new h.1.0
refuse_grows old name attempt _ out new h = absurd h

hear_grows : (problem : Problem) (old : View) (from : Site) (body : Body) (reply : Reply) (out : List Packet) (new : View)
    → HearStep problem old from body reply out new → SiteGrows old new
hear_grows problem old from Hello reply out new h = absurd h
hear_grows problem old from (Members incarnations) reply out new h =
    by_equation old _ new (after_members old incarnations out new h.0) (record { site = refl; nodes = refl; own = own_then old.own _ h.0.own (redo_lost_grows _ old.own) (own_aborts _ _ h.0.own h.0.aborts) })
hear_grows problem old from Steal reply out new h = steal_grows old from out new h.1
hear_grows problem old from (Give serial attempt prefix) reply out new h = give_grows problem old from (gifts_in (Give serial attempt prefix)) reply out new h
hear_grows problem old from (GiveMany prefix siblings) reply out new h = give_grows problem old from (gifts_in (GiveMany prefix siblings)) reply out new h
hear_grows problem old from NoWork reply out new h = stays old new h.1.0
hear_grows problem old from (Return serial attempt result) reply out new h = answers_grow old from serial attempt result h.1.0 out new h.1.1 h.1.2
hear_grows problem old from (Accept serial attempt result) reply out new h = accept_grows old _ attempt result reply out new h
hear_grows problem old from (Refuse serial attempt cause) reply out new h = refuse_grows old _ attempt reply out new h
hear_grows problem old from (Abort serial attempt) reply out new h = refuse_grows old _ attempt reply out new h
hear_grows problem old from Over reply out new h = by_equation old _ new h.1 (record { site = refl; nodes = refl; own = own_same old.own })

event_grows : (problem : Problem) (old : View) (event : Event) (reply : Reply) (out : List Packet) (new : View)
    → EventStep problem old event reply out new → SiteGrows old new
event_grows problem old Take reply out new h = take_grows old reply out new h
event_grows problem old (Post job finding) reply out new h =
    leaves_grows problem old job.unit finding.prefix finding.outcome out new h.1.entry h.1.is (ap is_open h.1.here) h.1.leaves
event_grows problem old (Finish unit) reply out new h =
    by_equation old _ new (after_finish old unit out new h.1)
    (grown_own old _ h.1.own (gets_grows old unit (with_result unit h.1.result) h.1.entry h.1.is (ap is_open h.1.split)) (own_aborts _ _ h.1.own h.1.aborts))
event_grows problem old (Ask victim) reply out new h = stays old new h.1.after
event_grows problem old (Redo serial) reply out new h =
    by_equation old _ new (after_redo old serial out new h.1)
    (record { site = refl; nodes = refl; own = own_change redone old.own serial (λ d e. grows_redone d (subst (λ x. is_open x.status ≡ true) (same_Some h.1.entry d (sym h.1.is ∙ e)) (ap is_open h.1.out_there))) })
event_grows problem old (Deliver packet) reply out new h = hear_grows problem old packet.from packet.body reply out new h.2
event_grows problem old Again reply out new h = stays old new h.1
event_grows problem old Greet reply out new h = stays old new h.1

pub node_grows : (problem : Problem) (old : View) (event : Event) (reply : Reply) (out : List Packet) (new : View)
    → NodeStep problem old event reply out new → SiteGrows old new
node_grows problem old event reply out new h = event_grows problem old event reply out new h.1

root_hears_grows : (problem : Problem) (old : View) (from : Site) (body : Body) (reply : Reply) (out : List Packet) (new : View)
    → RootHears problem old from body reply out new → SiteGrows old new
root_hears_grows problem old from Hello reply out new h =
    by_equation old _ new h.1.after (record { site = refl; nodes = refl; own = redo_lost_grows _ old.own })
root_hears_grows problem old from Steal reply out new h = root_steal_grows (root_result old) old from out new h.1
root_hears_grows problem old from (Return serial attempt result) reply out new h =
    root_answers_grow problem old from serial attempt result h.1.0 out new h.1.1 h.1.2
root_hears_grows problem old from _ reply out new h = absurd h

pub registry_grows : (problem : Problem) (old : View) (event : Event) (reply : Reply) (out : List Packet) (new : View)
    → RegistryStep problem old event reply out new → SiteGrows old new
registry_grows problem old (Redo serial) reply out new h = event_grows problem old (Redo serial) reply out new h
registry_grows problem old (Deliver packet) reply out new h = root_hears_grows problem old packet.from packet.body reply out new h.2
registry_grows problem old Again reply out new h = stays old new h.1
registry_grows problem old _ reply out new h = absurd h
