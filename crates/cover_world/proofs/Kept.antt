-- What holds of each guest and is no matter of its status holds after each step; an Accept settles one, and a Give adds some.
use Rattle.std.proofs.Common.{◌≡◌, ◌⊎◌, ℕ, zero, suc, List, Option, Some, None, sym, subst, ⊎_elim}
use Rattle.cover_problem.specs.Problem.{Problem}
use Rattle.cover_problem.specs.Search.{Outcome, Covers, Barren, Spent}
use Rattle.spawn_frame.specs.declared.site.Site.{Site}
use Rattle.spawn_frame.specs.declared.site.ChildName.{ChildName}
use Rattle.spawn_frame.specs.declared.unit.Unit.{Unit as WorkUnit}
use Rattle.spawn_frame.specs.declared.unit.Unit.TheVariants.{Own, Guest}
use Rattle.spawn_frame.specs.declared.child_result.ChildResult.{ChildResult}
use Rattle.spawn_frame.specs.declared.status.Status.{Status}
use Rattle.spawn_frame.specs.declared.status.Status.TheVariants.{Here, Split, Settled, Dropped}
use Rattle.spawn_frame.specs.Gifts.{gift_guest}
use Rattle.spawn_frame.specs.Units.{Entry, GuestEntry, with_status}
use Rattle.steal_return.proofs.Gifts.{admits_keep}
use Rattle.cover_world.proofs.Changes.{after_admits, after_drops, after_finish, after_members, after_redo, after_settles, kept_by_gives}
use Rattle.node_core.specs.SiteView.{View, unit_in, unit_gets}
use Rattle.packet_wire.specs.Gifts.{gifts_in}
use Rattle.packet_wire.specs.declared.packet.Body.{Body}
use Rattle.packet_wire.specs.declared.packet.Body.TheVariants.{Hello, Members, Steal, Give, GiveMany, NoWork, Return, Accept, Refuse, Abort, Over}
use Rattle.packet_wire.specs.declared.packet.Packet.{Packet}
use Rattle.node_core.specs.declared.event.Event.{Event}
use Rattle.node_core.specs.declared.event.Event.TheVariants.{Take, Post, Finish, Ask, Redo, Deliver, Again, Greet}
use Rattle.node_core.specs.declared.reply.Reply.{Reply}
use Rattle.node_core.specs.declared.reply.Reply.TheVariants.{Taken, Ripe, Idle, Moved, Ignored}
use Rattle.node_core.specs.Results.{Leaves}
use Rattle.spawn_frame.specs.Splits.{with_result}
use Rattle.node_core.specs.Arrivals.{Answers, GiveStep, AcceptStep, RefuseStep, Denies, Gives}
use Rattle.root_registry.specs.RegistryStep.{RootAnswers, RootSteal, RootHears, RegistryStep, root_result}
use Rattle.node_core.specs.NodeStep.{HearStep, EventStep}
use Rattle.node_core.specs.Taking.{TakeStep}
use Rattle.cover_world.specs.Worlds.{SiteStep}
use Rattle.cover_world.proofs.Guests.{Every, every_changed, every_inserted, every_dropped}
use Rattle.spawn_frame.specs.declared.gift.Gift.{Gift}
use Rattle.steal_return.specs.Returns.{Enters, Holds, Judgement, Refuses}

-- a status that is no settlement
abbrev pub IsUnsettled : Status → Type 0
IsUnsettled s = (r : ChildResult) → s ≡ Settled r → ⊥

module _ (P : GuestEntry → Type 0) where
  abbrev pub AnyStatus : Type 0
  AnyStatus = (name : ChildName) (entry : Entry) (s : Status) → IsUnsettled s → P (record { name = name; entry = entry }) → P (record { name = name; entry = with_status s entry })

  -- what a child has to show that is given
  abbrev pub GiftShows : Site → Gift → Type 0
  GiftShows from gift = P (gift_guest from gift)

  -- what a packet has to show
  abbrev pub BodyShows : Site → Body → Type 0
  BodyShows from (Accept serial attempt result) =
      (entry : Entry) → P (record { name = record { site = from; serial = serial }; entry = entry }) → P (record { name = record { site = from; serial = serial }; entry = with_status (Settled result) entry })
  BodyShows from (Give serial attempt prefix) = Every (GiftShows from) (gifts_in (Give serial attempt prefix))
  BodyShows from (GiveMany prefix siblings) = Every (GiftShows from) (gifts_in (GiveMany prefix siblings))
  BodyShows from _ = Unit {0}

  abbrev pub EventShows : Event → Type 0
  EventShows (Deliver packet) = BodyShows packet.from packet.body
  EventShows _ = Unit {0}

  kept_same : (old new : View) → new ≡ old → Every P old.guests → Every P new.guests
  kept_same old new e h = subst (λ v. Every P v.guests) (sym e) h

  kept_as : (mid new : View) → new ≡ mid → Every P mid.guests → Every P new.guests
  kept_as mid new e h = subst (λ v. Every P v.guests) (sym e) h

  gets_kept : AnyStatus → (old : View) (unit : WorkUnit) (s : Status) (entry : Entry) → unit_in old unit ≡ Some entry → IsUnsettled s → Every P old.guests → Every P (unit_gets old unit s).guests
  gets_kept any old (Own serial) s entry is u h = h
  gets_kept any old (Guest name attempt) s entry is u h = every_changed P s old.guests name attempt entry is (any name entry s u) h

  result_unsettled : (unit : WorkUnit) (r : ChildResult) → IsUnsettled (with_result unit r)
  result_unsettled (Own serial) r q e = cc
  result_unsettled (Guest name attempt) r q e = cc

  leaves_kept : AnyStatus → (problem : Problem) (old : View) (unit : WorkUnit) (prefix : List ℕ) (outcome : Outcome) (out : List Packet) (new : View) (entry : Entry)
      → unit_in old unit ≡ Some entry → Leaves problem old unit prefix outcome out new → Every P old.guests → Every P new.guests
  leaves_kept any problem old unit prefix (Covers options) out new entry is l h = kept_as _ new l.0 (gets_kept any old unit _ entry is (result_unsettled unit _) h)
  leaves_kept any problem old unit prefix Barren out new entry is l h = kept_as _ new l.0 (gets_kept any old unit _ entry is (result_unsettled unit _) h)
  leaves_kept any problem old unit prefix Spent out new entry is l h = kept_as _ new l.0 (gets_kept any old unit Split entry is (λ r e. cc) h)

  answers_kept : (old : View) (from : Site) (serial attempt : ℕ) (result : ChildResult) (j : Judgement) (out : List Packet) (new : View) → Answers old from serial attempt result j out new → Every P old.guests → Every P new.guests
  answers_kept old from serial attempt result Enters out new a h = kept_as _ new a.0 h
  answers_kept old from serial attempt result (Holds held) out new a h = kept_as _ new a.0 h
  answers_kept old from serial attempt result (Refuses cause) out new a h = kept_as _ new a.0 h

  root_answers_kept : (problem : Problem) (old : View) (from : Site) (serial attempt : ℕ) (result : ChildResult) (j : Judgement) (out : List Packet) (new : View) → RootAnswers problem old from serial attempt result j out new → Every P old.guests → Every P new.guests
  root_answers_kept problem old from serial attempt result Enters out new a h = kept_as _ new a.1 h
  root_answers_kept problem old from serial attempt result (Holds held) out new a h = kept_as _ new a.0 h
  root_answers_kept problem old from serial attempt result (Refuses cause) out new a h = kept_as _ new a.0 h

  steal_kept : (old : View) (from : Site) (out : List Packet) (new : View) → Denies old from out new ⊎ Gives old from out new → Every P old.guests → Every P new.guests
  steal_kept old from out new s h =
      ⊎_elim (λ (d : Denies old from out new). kept_as _ new d.after h) (λ (g : Gives old from out new). kept_by_gives (λ v. Every P v.guests) from (λ view serial entry is ready q. q) old out new g h) s

  root_steal_kept : (r : Option ChildResult) (old : View) (from : Site) (out : List Packet) (new : View) → RootSteal r old from out new → Every P old.guests → Every P new.guests
  root_steal_kept (Some result) old from out new s h = kept_as _ new s.0 h
  root_steal_kept None old from out new s h = steal_kept old from out new s h

  take_kept : AnyStatus → (old : View) (reply : Reply) (out : List Packet) (new : View) → TakeStep old reply out new → Every P old.guests → Every P new.guests
  take_kept any old (Ripe unit) out new s h = kept_as _ new s.1.0 h
  take_kept any old (Taken job prefix) out new s h = kept_as _ new s.after (gets_kept any old job.unit Here s.entry s.is (λ r e. cc) h)
  take_kept any old Idle out new s h = kept_as _ new s.2.0 h
  take_kept any old Moved out new s h = absurd s
  take_kept any old Ignored out new s h = absurd s

  give_kept : (problem : Problem) (old : View) (from : Site) (gifts : List Gift) (reply : Reply) (out : List Packet) (new : View)
      → Every (GiftShows from) gifts → GiveStep problem old from gifts reply out new → Every P old.guests → Every P new.guests
  give_kept problem old from gifts Moved out new p s h =
      kept_as _ new (after_admits problem old from gifts out new s)
      (admits_keep (Every P) (GiftShows from) from (λ gift guests shows none q. every_inserted P (gift_guest from gift) guests shows q) gifts old.guests p h)
  give_kept problem old from gifts Ignored out new p s h = kept_as _ new s.1.0 h
  give_kept problem old from gifts _ out new p s h = absurd s

  accept_kept : (old : View) (from : Site) (serial attempt : ℕ) (result : ChildResult) (reply : Reply) (out : List Packet) (new : View)
      → BodyShows from (Accept serial attempt result) → AcceptStep old (record { site = from; serial = serial }) attempt result reply out new → Every P old.guests → Every P new.guests
  accept_kept old from serial attempt result Moved out new p s h = kept_as _ new (after_settles old _ attempt result out new s) (every_changed P (Settled result) old.guests _ attempt s.entry s.is (p s.entry) h)
  accept_kept old from serial attempt result Ignored out new p s h = kept_as _ new s.1.0 h
  accept_kept old from serial attempt result _ out new p s h = absurd s

  refuse_kept : AnyStatus → (old : View) (name : ChildName) (attempt : ℕ) (reply : Reply) (out : List Packet) (new : View) → RefuseStep old name attempt reply out new → Every P old.guests → Every P new.guests
  refuse_kept any old name attempt Moved out new s h = kept_as _ new (after_drops old name attempt out new s) (every_changed P Dropped old.guests name attempt s.entry s.is (any name s.entry Dropped (λ r e. cc)) h)
  refuse_kept any old name attempt Ignored out new s h = kept_as _ new s.1.0 h
  refuse_kept any old name attempt _ out new s h = absurd s

  hear_kept : AnyStatus → (problem : Problem) (old : View) (from : Site) (body : Body) (reply : Reply) (out : List Packet) (new : View)
      → BodyShows from body → HearStep problem old from body reply out new → Every P old.guests → Every P new.guests
  hear_kept any problem old from Hello reply out new p s h = absurd s
  hear_kept any problem old from (Members incarnations) reply out new p s h =
      kept_as _ new (after_members old incarnations out new s.0) (every_dropped P s.0.known old.guests (λ g q. any g.name g.entry Dropped (λ r e. cc) q) h)
  hear_kept any problem old from Steal reply out new p s h = steal_kept old from out new s.1 h
  hear_kept any problem old from (Give serial attempt prefix) reply out new p s h = give_kept problem old from (gifts_in (Give serial attempt prefix)) reply out new p s h
  hear_kept any problem old from (GiveMany prefix siblings) reply out new p s h = give_kept problem old from (gifts_in (GiveMany prefix siblings)) reply out new p s h
  hear_kept any problem old from NoWork reply out new p s h = kept_as _ new s.1.0 h
  hear_kept any problem old from (Return serial attempt result) reply out new p s h = answers_kept old from serial attempt result s.1.0 out new s.1.2 h
  hear_kept any problem old from (Accept serial attempt result) reply out new p s h = accept_kept old from serial attempt result reply out new p s h
  hear_kept any problem old from (Refuse serial attempt cause) reply out new p s h = refuse_kept any old _ attempt reply out new s h
  hear_kept any problem old from (Abort serial attempt) reply out new p s h = refuse_kept any old _ attempt reply out new s h
  hear_kept any problem old from Over reply out new p s h = kept_as _ new s.1 h

  event_kept : AnyStatus → (problem : Problem) (old : View) (event : Event) (reply : Reply) (out : List Packet) (new : View)
      → EventShows event → EventStep problem old event reply out new → Every P old.guests → Every P new.guests
  event_kept any problem old Take reply out new p s h = take_kept any old reply out new s h
  event_kept any problem old (Post job finding) reply out new p s h =
      leaves_kept any problem old job.unit finding.prefix finding.outcome out new s.1.entry s.1.is s.1.leaves h
  event_kept any problem old (Finish unit) reply out new p s h =
      kept_as _ new (after_finish old unit out new s.1) (gets_kept any old unit _ s.1.entry s.1.is (result_unsettled unit s.1.result) h)
  event_kept any problem old (Ask victim) reply out new p s h = kept_as _ new s.1.after h
  event_kept any problem old (Redo serial) reply out new p s h = kept_as _ new (after_redo old serial out new s.1) h
  event_kept any problem old (Deliver packet) reply out new p s h = hear_kept any problem old packet.from packet.body reply out new p s.2 h
  event_kept any problem old Again reply out new p s h = kept_as _ new s.1 h
  event_kept any problem old Greet reply out new p s h = kept_as _ new s.1 h

  root_hears_kept : (problem : Problem) (old : View) (from : Site) (body : Body) (reply : Reply) (out : List Packet) (new : View)
      → RootHears problem old from body reply out new → Every P old.guests → Every P new.guests
  root_hears_kept problem old from Hello reply out new s h = kept_as _ new s.1.after h
  root_hears_kept problem old from Steal reply out new s h = root_steal_kept (root_result old) old from out new s.1 h
  root_hears_kept problem old from (Return serial attempt result) reply out new s h = root_answers_kept problem old from serial attempt result s.1.0 out new s.1.2 h
  root_hears_kept problem old from _ reply out new s h = absurd s

  registry_kept : (problem : Problem) (old : View) (event : Event) (reply : Reply) (out : List Packet) (new : View)
      → RegistryStep problem old event reply out new → Every P old.guests → Every P new.guests
  registry_kept problem old (Redo serial) reply out new s h = kept_as _ new (after_redo old serial out new s.1) h
  registry_kept problem old (Deliver packet) reply out new s h = root_hears_kept problem old packet.from packet.body reply out new s.2 h
  registry_kept problem old Again reply out new s h = kept_as _ new s.1 h
  registry_kept problem old _ reply out new s h = absurd s

  pub site_kept : AnyStatus → (node : ℕ) (problem : Problem) (old : View) (event : Event) (reply : Reply) (out : List Packet) (new : View)
      → EventShows event → SiteStep node problem old event reply out new → Every P old.guests → Every P new.guests
  site_kept any zero problem old event reply out new p s h = registry_kept problem old event reply out new s h
  site_kept any (suc node) problem old event reply out new p s h = event_kept any problem old event reply out new p s.1 h
