-- Packets that are refused.
use Rattle.std.proofs.Common.{◌≡◌, ◌≢◌, ℕ, ◌<◌, ◌≤◌, Bool, true, false, ◌==◌, ◌&&◌, ◌||◌, if◌then◌else◌, List, Some, None, is_some, slice_get, nat_lt, refl, sym, ap, subst, ◌∙◌, ⊎_elim, arith, true≢false}
use Rattle.std.proofs.lemmas.Bool.{le-ltb, ne_eqb}
use Rattle.cover_world.specs.Refusals.{Refused}
use Rattle.cover_problem.specs.Prefix.{is_prefix}
use Rattle.cover_problem.specs.Problem.{Problem}
use Rattle.node_core.specs.Arrivals.{Answers, GiveStep}
use Rattle.node_core.specs.NodeStep.{HearStep, NodeStep}
use Rattle.node_core.specs.SiteView.{View}
use Rattle.node_core.specs.declared.event.Event.TheVariants.{Deliver}
use Rattle.node_core.specs.declared.reply.Reply.{Reply}
use Rattle.node_core.specs.declared.reply.Reply.TheVariants.{Idle, Ignored, Moved, Ripe, Taken}
use Rattle.packet_wire.specs.Gifts.{gifts_in}
use Rattle.packet_wire.specs.declared.packet.Body.TheVariants.{Give, Return}
use Rattle.packet_wire.specs.declared.packet.Packet.{Packet}
use Rattle.root_registry.specs.RegistryStep.{IsAcceptable, RegistryStep, RootAnswers, RootHears}
use Rattle.spawn_frame.specs.Aborts.{is_open}
use Rattle.spawn_frame.specs.Names.{same_site}
use Rattle.spawn_frame.specs.Units.{Entry, guest_in}
use Rattle.spawn_frame.specs.declared.cause.Cause.TheVariants as causes
use Rattle.spawn_frame.specs.declared.child_result.ChildResult.{ChildResult}
use Rattle.spawn_frame.specs.declared.site.Site.{Site}
use Rattle.spawn_frame.specs.declared.status.Status.{Status}
use Rattle.spawn_frame.specs.declared.status.Status.TheVariants.{Aborted, Done, Dropped, Finished, Here, Out, Ready, Settled, Split}
use Rattle.steal_return.specs.Returns.{Enters, Refuses, if_out, judged, judged_by}
use Rattle.steal_return.specs.Steals.{is_older}
use Rattle.spawn_frame.proofs.Sames.{site_path}

pub give_refused : (problem : Problem) (old : View) (from : Site) (serial attempt : ℕ) (prefix : List ℕ) (reply : Reply) (out : List Packet) (new : View)
    → is_older old.known from ≡ false → guest_in old.guests (record { site = from; serial = serial }) attempt ≡ None → is_prefix problem prefix ≡ false
    → GiveStep problem old from (gifts_in (Give serial attempt prefix)) reply out new → ⊥
give_refused problem old from serial attempt prefix Moved out new fresh none unlawful step =
    true≢false (sym step.lawful ∙ (λ i. (is_some (none i) || unlawful i) && true))
give_refused problem old from serial attempt prefix Ignored out new fresh none unlawful step =
    ⊎_elim
    (λ (older : is_older old.known from ≡ true). true≢false (sym older ∙ fresh))
    (λ (there : (is_some (guest_in old.guests (record { site = from; serial = serial }) attempt) && true) ≡ true). true≢false (sym there ∙ ap (λ o. is_some o && true) none))
    step.0
give_refused problem old from serial attempt prefix Idle out new fresh none unlawful step = step
give_refused problem old from serial attempt prefix (Taken job p) out new fresh none unlawful step = step
give_refused problem old from serial attempt prefix (Ripe unit) out new fresh none unlawful step = step

-- an open child at another attempt is superseded
pub open_superseded : (status : Status) (from : Site) → is_open status ≡ true → judged_by status from false ≡ Refuses causes.Superseded
open_superseded Ready from o = refl
open_superseded Here from o = refl
open_superseded Split from o = refl
open_superseded (Out thief) from o = both (same_site thief from)
  where
    both : (b : Bool) → if_out (b && false) ≡ Refuses causes.Superseded
    both true = refl
    both false = refl
open_superseded (Finished result) from o = refl
open_superseded (Done result) from o = absurd (true≢false (sym o))
open_superseded Aborted from o = absurd (true≢false (sym o))
open_superseded (Settled result) from o = absurd (true≢false (sym o))
open_superseded Dropped from o = absurd (true≢false (sym o))

pub below_is_superseded : (entry : Entry) (from : Site) (attempt : ℕ) → attempt < entry.attempt → is_open entry.status ≡ true
    → judged (Some entry) from attempt ≡ Refuses causes.Superseded
below_is_superseded entry from attempt below opened =
    let not_above : nat_lt entry.attempt attempt ≡ false = le-ltb entry.attempt attempt (omega (arith, below)) in
    let other : (entry.attempt == attempt) ≡ false = ne_eqb entry.attempt attempt (omega (arith, below)) in
    ap (λ b. if b then Refuses causes.Unknown else judged_by entry.status from (entry.attempt == attempt)) not_above
    ∙ ap (λ b. judged_by entry.status from b) other
    ∙ open_superseded entry.status from opened

-- a result of another site than the thief is superseded, at whatever attempt
pub stranger_is_superseded : (entry : Entry) (thief from : Site) (attempt : ℕ) → attempt ≤ entry.attempt → entry.status ≡ Out thief → thief ≢ from
    → judged (Some entry) from attempt ≡ Refuses causes.Superseded
stranger_is_superseded entry thief from attempt within out other =
    let not_above : nat_lt entry.attempt attempt ≡ false = le-ltb entry.attempt attempt within in
    ap (λ b. if b then Refuses causes.Unknown else judged_by entry.status from (entry.attempt == attempt)) not_above
    ∙ ap (λ s. judged_by s from (entry.attempt == attempt)) out
    ∙ go (same_site thief from) refl
  where
    go : (b : Bool) → same_site thief from ≡ b → if_out (b && (entry.attempt == attempt)) ≡ Refuses causes.Superseded
    go true same = absurd (other (site_path thief from same))
    go false differ = refl

pub refused_so : (problem : Problem) (old new : View) (packet : Packet) (serial attempt : ℕ) (returned : ChildResult) (entry : Entry) (reply : Reply) (out : List Packet)
    → packet.body ≡ Return serial attempt returned → slice_get old.own serial ≡ Some entry → judged (Some entry) packet.from attempt ≡ Refuses causes.Superseded
    → NodeStep problem old (Deliver packet) reply out new → Refused old packet.from serial attempt causes.Superseded reply out new
refused_so problem old new packet serial attempt returned entry reply out body is judgement step =
    let heard : HearStep problem old packet.from (Return serial attempt returned) reply out new =
    subst (λ b. HearStep problem old packet.from b reply out new) body (step.1.2) in
    let refuses : heard.1.0 ≡ Refuses causes.Superseded = sym (heard.1.1) ∙ ap (λ e. judged e packet.from attempt) is ∙ judgement in
    let answers : Answers old packet.from serial attempt returned (Refuses causes.Superseded) out new =
    subst (λ j. Answers old packet.from serial attempt returned j out new) refuses (heard.1.2) in
    (heard.0, answers.0, answers.1)

pub cover_refused : (problem : Problem) (old : View) (packet : Packet) (serial attempt : ℕ) (returned : ChildResult) (reply : Reply) (out : List Packet) (new : View)
    → packet.body ≡ Return serial attempt returned → judged (slice_get old.own serial) packet.from attempt ≡ Enters → (IsAcceptable problem returned → ⊥)
    → RegistryStep problem old (Deliver packet) reply out new → ⊥
cover_refused problem old packet serial attempt returned reply out new body enters wrong step =
    let heard : RootHears problem old packet.from (Return serial attempt returned) reply out new = subst (λ b. RootHears problem old packet.from b reply out new) body (step.2) in
    let answers : RootAnswers problem old packet.from serial attempt returned Enters out new =
    subst (λ j. RootAnswers problem old packet.from serial attempt returned j out new) (sym (heard.1.1) ∙ enters) (heard.1.2) in
    wrong (answers.0)
