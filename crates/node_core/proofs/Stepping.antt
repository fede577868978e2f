-- Where a node has a step of an event, nothing refuses it.
use Rattle.std.proofs.Common.{◌≡◌, ℕ, zero, suc, ◌+◌, ◌≤◌, true, false, ◌&&◌, not, cond, List, [], ◌∷◌, length, map, Some, None, slice_get, refl, ap, subst, ◌∙◌, inl, inr, arith}
use Rattle.std.specs.Prelude.{is_none, nat_eq, nat_le, ◌==◌}
use Rattle.std.specs.Cmp.Lexicographic.{bytes_decides, pointwise}
use Rattle.std.specs.List.{list_all}
use Rattle.std.proofs.lemmas.Bool.{and_from, cond-false, eq-eqb, le-ltb, lt-leb, ne_eqb, or_from, or_left, or_right}
use Rattle.std.proofs.lemmas.List.{length-append, length-map}
use Rattle.brancher.specs.Finding.{Finding}
use Rattle.cover_problem.specs.Branching.{children}
use Rattle.cover_problem.specs.Problem.{Problem}
use Rattle.cover_problem.specs.Search.{Barren, Covers, Outcome, Spent}
use Rattle.node_core.proofs.Picking.{site_itself}
use Rattle.node_core.proofs.Spending.{none_spent}
use Rattle.node_core.specs.Arrivals.{GiveStep, is_lawful}
use Rattle.node_core.specs.Membership.{MembersStep}
use Rattle.node_core.specs.NodeStep.{HearStep, NodeStep}
use Rattle.node_core.specs.Refusal.{any_spent, ask_refusal, finish_refusal, give_refusal, hear_refusal, is_awaited, is_beyond, is_ignored, is_misdirected, is_spent, lacks_names, members_refusal, node_refusal, post_refusal, redo_refusal}
use Rattle.node_core.specs.Requests.{AskStep, RedoStep}
use Rattle.node_core.specs.Results.{FinishStep, Leaves, PostStep, split_up}
use Rattle.node_core.specs.SiteView.{View, unit_in}
use Rattle.node_core.specs.declared.act_fault.ActFault.TheVariants as faults
use Rattle.node_core.specs.declared.event.Event.{Event}
use Rattle.node_core.specs.declared.event.Event.TheVariants.{Again, Ask, Deliver, Finish, Greet, Post, Redo, Take}
use Rattle.node_core.specs.declared.reply.Reply.{Reply}
use Rattle.node_core.specs.declared.reply.Reply.TheVariants.{Idle, Ignored, Moved, Ripe, Taken}
use Rattle.packet_wire.specs.Gifts.{gifts_in}
use Rattle.packet_wire.specs.declared.packet.Body.{Body}
use Rattle.packet_wire.specs.declared.packet.Body.TheVariants.{Abort, Accept, Give, GiveMany, Hello, Members, NoWork, Over, Refuse, Return, Steal}
use Rattle.packet_wire.specs.declared.packet.Packet.{Packet}
use Rattle.spawn_frame.specs.Frames.{frame, frame_result}
use Rattle.spawn_frame.specs.Names.{same_site}
use Rattle.spawn_frame.specs.Picks.{is_split}
use Rattle.spawn_frame.specs.Splits.{new_child}
use Rattle.spawn_frame.specs.Tables.{attempt_in, has_status, is_here, is_out, prefix_in}
use Rattle.spawn_frame.specs.Units.{Entry, change_at, last_attempt, with_status}
use Rattle.spawn_frame.specs.declared.gift.Gift.{Gift}
use Rattle.spawn_frame.specs.declared.site.Site.{Site}
use Rattle.spawn_frame.specs.declared.status.Status.TheVariants.{Split}
use Rattle.spawn_frame.specs.declared.unit.Job.{Job}
use Rattle.spawn_frame.specs.declared.unit.Unit.{Unit as WorkUnit}
use Rattle.spawn_frame.specs.declared.unit.Unit.TheVariants.{Guest, Own}
use Rattle.steal_return.specs.Guests.{NoneIsNew}
use Rattle.steal_return.specs.Steals.{is_older}

-- ---- splitting

length_changed : (f : Entry → Entry) (own : List Entry) (k : ℕ) → length (change_at f own k) ≡ length own
length_changed f [] k = refl
length_changed f (c ∷ cs) zero = refl
length_changed f (c ∷ cs) (suc k) = ap suc (length_changed f cs k)

-- a unit that is split brings as many children as its prefix has
pub split_length : (problem : Problem) (view : View) (unit : WorkUnit) (prefix : List ℕ) → length (split_up problem view unit prefix).own ≡ length view.own + length (children problem prefix)
split_length problem view (Own k) prefix =
    let news : List Entry = map (λ p. new_child (Own k) p) (children problem prefix) in
    omega (arith, length-append (change_at (with_status Split) view.own k) news, length_changed (with_status Split) view.own k, length-map (children problem prefix) (λ p. new_child (Own k) p))
split_length problem view (Guest name attempt) prefix =
    let news : List Entry = map (λ p. new_child (Guest name attempt) p) (children problem prefix) in
    omega (arith, length-append view.own news, length-map (children problem prefix) (λ p. new_child (Guest name attempt) p))

-- ---- what the site does of itself

leaves_names : (problem : Problem) (view : View) (unit : WorkUnit) (prefix : List ℕ) (outcome : Outcome) (out : List Packet) (new : View)
    → Leaves problem view unit prefix outcome out new → (is_spent outcome && lacks_names problem view prefix) ≡ false
leaves_names problem view unit prefix (Covers options) out new h = refl
leaves_names problem view unit prefix Barren out new h = refl
leaves_names problem view unit prefix Spent out new h =
    let few : length (split_up problem view unit prefix).own ≤ view.limit = subst (λ (v : View). length v.own ≤ view.limit) h.0 h.1 in
    le-ltb view.limit (length view.own + length (children problem prefix)) (omega (arith, few, split_length problem view unit prefix))

is_awaited_by : (problem : Problem) (view : View) (job : Job) (finding : Finding) (out : List Packet) (new : View) → PostStep problem view job finding out new → is_awaited view job finding ≡ true
is_awaited_by problem view job finding out new h =
    and_from (has_status is_here (unit_in view job.unit)) _
    (ap (has_status is_here) h.is ∙ ap is_here h.here)
    (and_from (attempt_in (unit_in view job.unit) == job.attempt) (pointwise nat_eq (prefix_in (unit_in view job.unit)) finding.prefix)
    (eq-eqb (attempt_in (unit_in view job.unit)) job.attempt (ap attempt_in h.is ∙ h.attempt))
    ((bytes_decides (prefix_in (unit_in view job.unit)) finding.prefix).1 (ap prefix_in h.is ∙ h.prefix)))

post_passes : (problem : Problem) (view : View) (job : Job) (finding : Finding) (out : List Packet) (new : View) → PostStep problem view job finding out new → post_refusal problem view job finding ≡ None
post_passes problem view job finding out new h =
    ap (λ b. cond (not b) (Some faults.StaleJob) (cond (is_spent finding.outcome && lacks_names problem view finding.prefix) (Some faults.NamesSpent) None)) (is_awaited_by problem view job finding out new h)
    ∙ ap (λ b. cond b (Some faults.NamesSpent) None) (leaves_names problem view job.unit finding.prefix finding.outcome out new h.leaves)

finish_passes : (view : View) (unit : WorkUnit) (out : List Packet) (new : View) → FinishStep view unit out new → finish_refusal view unit ≡ None
finish_passes view unit out new h =
    let split : has_status is_split (unit_in view unit) ≡ true = ap (has_status is_split) h.is ∙ ap is_split h.split in
    ap (λ b. cond (not b) (Some faults.NotOpen) (cond (is_none (frame_result (frame unit view.own))) (Some faults.NotSettled) None)) split
    ∙ ap (λ o. cond (is_none o) (Some faults.NotSettled) None) h.settled

ask_passes : (view : View) (victim : ℕ) (out : List Packet) (new : View) → AskStep view victim out new → ask_refusal view victim ≡ None
ask_passes view victim out new h =
    ap (λ b. cond b (Some faults.OtherSite) None)
    (or_from (victim == view.site.node) (is_beyond view victim) (ne_eqb victim view.site.node h.another) (le-ltb view.nodes victim h.exists))

pub redo_passes : (view : View) (serial : ℕ) (out : List Packet) (new : View) → RedoStep view serial out new → redo_refusal view serial ≡ None
redo_passes view serial out new h =
    let there : has_status is_out (slice_get view.own serial) ≡ true = ap (has_status is_out) h.is ∙ ap is_out h.out_there in
    ap (λ b. cond (not b) (Some faults.NotOut) (cond (nat_le last_attempt (attempt_in (slice_get view.own serial))) (Some faults.NamesSpent) None)) there
    ∙ ap (λ o. cond (nat_le last_attempt (attempt_in o)) (Some faults.NamesSpent) None) h.is
    ∙ ap (λ b. cond b (Some faults.NamesSpent) None) (lt-leb last_attempt h.entry.attempt h.not_last)

-- ---- packets

pub well_directed : (view : View) (packet : Packet) → packet.to ≡ view.site → packet.from.node ≤ view.nodes → is_misdirected view packet ≡ false
well_directed view packet here there =
    or_from (not (same_site packet.to view.site)) (is_beyond view packet.from.node)
    (ap not (site_itself packet.to view.site here)) (le-ltb view.nodes packet.from.node there)

members_pass : (view : View) (incarnations : List ℕ) (out : List Packet) (new : View) → MembersStep view incarnations out new → members_refusal view incarnations ≡ None
members_pass view incarnations out new h =
    ap (λ b. cond b (Some faults.NamesSpent) None)
    (subst (λ known. any_spent (is_older known) view.own ≡ false) h.known_is (none_spent (is_older h.known) view.own h.redoable))

give_passes : (problem : Problem) (view : View) (from : Site) (gifts : List Gift) (reply : Reply) (out : List Packet) (new : View) → GiveStep problem view from gifts reply out new → give_refusal problem view from gifts ≡ None
give_passes problem view from gifts Moved out new h =
    ap (λ b. cond b None (Some faults.BadPrefix)) (or_right (is_ignored view from gifts) (list_all (is_lawful problem from view.guests) gifts) h.lawful)
give_passes problem view from gifts Ignored out new h =
    ap (λ b. cond b None (Some faults.BadPrefix)) (or_left (is_ignored view from gifts) (list_all (is_lawful problem from view.guests) gifts) (ignored h.0))
  where
    ignored : NoneIsNew view.ledger from gifts → is_ignored view from gifts ≡ true
    ignored (inl older) = or_left (is_older view.known from) _ older
    ignored (inr there) = or_right (is_older view.known from) _ there
give_passes problem view from gifts Idle out new h = absurd h
give_passes problem view from gifts (Ripe unit) out new h = absurd h
give_passes problem view from gifts (Taken job p) out new h = absurd h

hear_passes : (problem : Problem) (view : View) (from : Site) (body : Body) (reply : Reply) (out : List Packet) (new : View) → HearStep problem view from body reply out new → hear_refusal problem view from body ≡ None
hear_passes problem view from Hello reply out new h = refl
hear_passes problem view from (Members incarnations) reply out new h = members_pass view incarnations out new h.0
hear_passes problem view from Steal reply out new h = refl
hear_passes problem view from (Give serial attempt prefix) reply out new h = give_passes problem view from (gifts_in (Give serial attempt prefix)) reply out new h
hear_passes problem view from (GiveMany prefix siblings) reply out new h = give_passes problem view from (gifts_in (GiveMany prefix siblings)) reply out new h
hear_passes problem view from NoWork reply out new h = refl
hear_passes problem view from (Return serial attempt result) reply out new h = refl
hear_passes problem view from (Accept serial attempt result) reply out new h = refl
hear_passes problem view from (Refuse serial attempt cause) reply out new h = refl
hear_passes problem view from (Abort serial attempt) reply out new h = refl
hear_passes problem view from Over reply out new h = refl

-- ---- the first fault

pub step_passes : (problem : Problem) (view : View) (event : Event) (reply : Reply) (out : List Packet) (new : View) → NodeStep problem view event reply out new → node_refusal problem view event ≡ None
step_passes problem view Take reply out new h = cond-false view.over _ _ h.0
step_passes problem view (Post job finding) reply out new h = cond-false view.over _ _ h.0 ∙ post_passes problem view job finding out new h.1.1
step_passes problem view (Finish unit) reply out new h = cond-false view.over _ _ h.0 ∙ finish_passes view unit out new h.1.1
step_passes problem view (Ask victim) reply out new h = cond-false view.over _ _ h.0 ∙ ask_passes view victim out new h.1.1
step_passes problem view (Redo serial) reply out new h = cond-false view.over _ _ h.0 ∙ redo_passes view serial out new h.1.1
step_passes problem view (Deliver packet) reply out new h =
    cond-false (is_misdirected view packet) _ _ (well_directed view packet h.1.0 h.1.1)
    ∙ cond-false view.over _ _ h.0
    ∙ hear_passes problem view packet.from packet.body reply out new h.1.2
step_passes problem view Again reply out new h = cond-false view.over _ _ h.0
step_passes problem view Greet reply out new h = cond-false view.over _ _ h.0
