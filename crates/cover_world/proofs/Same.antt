-- A step of a node is determined by its view and the event, but for the child that is given.
use Rattle.std.proofs.Common.{◌≡◌, ◌⊎◌, ℕ, suc, ◌<◌, ◌≤◌, Bool, true, false, List, [], ◌∷◌, ◌++◌, Some, None, length, get_or, slice_get, refl, sym, ap, subst, ◌∙◌, inl, inr, arith, true≢false}
use Rattle.std.proofs.lemmas.Option.{none-some, same_Some, slice_get_cases, slice_get_past}
use Rattle.cover_problem.specs.Problem.{Problem}
use Rattle.cover_problem.specs.Search.{Barren, Covers, Outcome, Spent}
use Rattle.cover_world.proofs.Changes.{after_admits, after_drops, after_finish, after_members, after_redo, after_settles, with_known}
use Rattle.cover_world.specs.Determined.{SameStep, asks_for_work, may_choose}
use Rattle.node_core.specs.Arrivals.{AcceptStep, Admits, Answers, Drops, GiveStep, RefuseStep}
use Rattle.node_core.specs.Membership.{MembersStep}
use Rattle.node_core.specs.NodeStep.{EventStep, HearStep, Tells}
use Rattle.node_core.specs.Requests.{moved_by}
use Rattle.node_core.specs.Results.{FinishStep, Leaves, return_packets}
use Rattle.node_core.specs.SiteView.{View, abort_packets, unit_gets, unit_in, with_own}
use Rattle.node_core.specs.Taking.{Stays, TakeStep, TakesUp}
use Rattle.node_core.specs.declared.event.Event.{Event}
use Rattle.node_core.specs.declared.event.Event.TheVariants.{Again, Ask, Deliver, Finish, Greet, Post, Redo, Take}
use Rattle.node_core.specs.declared.reply.Reply.{Reply}
use Rattle.node_core.specs.declared.reply.Reply.TheVariants.{Idle, Ignored, Moved, Ripe, Taken}
use Rattle.packet_wire.specs.Gifts.{gifts_in}
use Rattle.packet_wire.specs.declared.packet.Body.{Body}
use Rattle.packet_wire.specs.declared.packet.Body.TheVariants.{Abort, Accept, Give, GiveMany, Hello, Members, NoWork, Over, Refuse, Return, Steal}
use Rattle.packet_wire.specs.declared.packet.Packet.{Packet}
use Rattle.spawn_frame.specs.Aborts.{AbortsBelow, IsBelow, is_open, reached}
use Rattle.spawn_frame.specs.Names.{same_unit}
use Rattle.spawn_frame.specs.Splits.{with_result}
use Rattle.spawn_frame.specs.Units.{Entry, with_status}
use Rattle.spawn_frame.specs.declared.child_result.ChildResult.{ChildResult}
use Rattle.spawn_frame.specs.declared.gift.Gift.{Gift}
use Rattle.spawn_frame.specs.declared.site.ChildName.{ChildName}
use Rattle.spawn_frame.specs.declared.site.Site.{Site}
use Rattle.spawn_frame.specs.declared.status.Status.TheVariants.{Aborted, Dropped, Here}
use Rattle.spawn_frame.specs.declared.unit.Job.{Job}
use Rattle.spawn_frame.specs.declared.unit.Unit.{Unit as WorkUnit}
use Rattle.spawn_frame.specs.declared.unit.Unit.TheVariants.{Guest}
use Rattle.steal_return.specs.Guests.{NoneIsNew}
use Rattle.steal_return.specs.Members.{is_lost_guest, redo_lost}
use Rattle.steal_return.specs.Returns.{Enters, Holds, Judgement, Refuses}
use Rattle.steal_return.specs.Steals.{is_older}

pub same_list : (xs ys : List Entry) → ((k : ℕ) → slice_get xs k ≡ slice_get ys k) → xs ≡ ys
same_list [] [] h = refl
same_list [] (y ∷ ys) h = absurd (none-some y (h 0))
same_list (x ∷ xs) [] h = absurd (none-some x (sym (h 0)))
same_list (x ∷ xs) (y ∷ ys) h = λ t. same_Some x y (h 0) t ∷ same_list xs ys (λ k. h (suc k)) t

-- an abort leaves one list
pub aborts_same : (top : WorkUnit → Bool) (old xs ys : List Entry) → AbortsBelow top old xs → AbortsBelow top old ys → xs ≡ ys
aborts_same top old xs ys h k = same_list xs ys (λ i. at i (slice_get_cases old i).1)
  where
    pair : (i : ℕ) (entry : Entry)
        → (IsBelow top old i × (is_open entry.status ≡ true) × (slice_get xs i ≡ Some (with_status Aborted entry))) ⊎ ((IsBelow top old i → is_open entry.status ≡ true → ⊥) × (slice_get xs i ≡ Some entry))
        → (IsBelow top old i × (is_open entry.status ≡ true) × (slice_get ys i ≡ Some (with_status Aborted entry))) ⊎ ((IsBelow top old i → is_open entry.status ≡ true → ⊥) × (slice_get ys i ≡ Some entry))
        → slice_get xs i ≡ slice_get ys i
    pair i entry (inl a) (inl b) = a.2 ∙ sym b.2
    pair i entry (inl a) (inr b) = absurd (b.0 a.0 a.1)
    pair i entry (inr a) (inl b) = absurd (a.0 b.0 b.1)
    pair i entry (inr a) (inr b) = a.1 ∙ sym b.1

    at : (i : ℕ) → ((x : Entry) × (i < length old) × (slice_get old i ≡ Some x) × (get_or old i x ≡ x)) ⊎ ((length old ≤ i) × (slice_get old i ≡ None)) → slice_get xs i ≡ slice_get ys i
    at i (inl a) = pair i a.0 (h.each i a.0 a.2) (k.each i a.0 a.2)
    at i (inr a) = slice_get_past xs i (omega (arith, h.ends, a.0)) ∙ sym (slice_get_past ys i (omega (arith, k.ends, a.0)))

pub stay_both : (old : View) (reply : Reply) (p q : List Packet) (v w : View) → Stays old p v → Stays old q w → SameStep reply reply p q v w
stay_both old reply p q v w h k = (refl, h.1 ∙ sym k.1, h.0 ∙ sym k.0)

pub job_path : (i j : Job) → i.unit ≡ j.unit → i.attempt ≡ j.attempt → i ≡ j
job_path i j u a = λ t. record { unit = u t; attempt = a t }

pub takes_same : (old : View) (i j : Job) (xs ys : List ℕ) (p q : List Packet) (v w : View) → TakesUp old i xs p v → TakesUp old j ys q w → SameStep (Taken i xs) (Taken j ys) p q v w
takes_same old i j xs ys p q v w h k =
    let unit : i.unit ≡ j.unit = same_Some i.unit j.unit (sym h.first ∙ k.first) in
    let entry : h.entry ≡ k.entry = same_Some h.entry k.entry (sym h.is ∙ ap (λ u. unit_in old u) unit ∙ k.is) in
    let job : i ≡ j = job_path i j unit (h.attempt ∙ ap (λ e. e.attempt) entry ∙ sym k.attempt) in
    let prefix : xs ≡ ys = h.prefix_is ∙ ap (λ e. e.prefix) entry ∙ sym k.prefix_is in
    ((λ t. Taken (job t) (prefix t)), h.sends ∙ sym k.sends, h.after ∙ ap (λ u. unit_gets old u Here) unit ∙ sym k.after)

pub take_same : (old : View) (r s : Reply) (p q : List Packet) (v w : View) → TakeStep old r p v → TakeStep old s q w → SameStep r s p q v w
take_same old (Ripe t) (Ripe u) p q v w h k = (ap Ripe (same_Some t u (sym h.0 ∙ k.0)), h.1.1 ∙ sym k.1.1, h.1.0 ∙ sym k.1.0)
take_same old (Ripe t) (Taken j ys) p q v w h k = absurd (none-some t (sym k.none_ripe ∙ h.0))
take_same old (Ripe t) Idle p q v w h k = absurd (none-some t (sym k.0 ∙ h.0))
take_same old (Ripe t) Moved p q v w h k = absurd k
take_same old (Ripe t) Ignored p q v w h k = absurd k
take_same old (Taken i xs) (Ripe u) p q v w h k = absurd (none-some u (sym h.none_ripe ∙ k.0))
take_same old (Taken i xs) (Taken j ys) p q v w h k = takes_same old i j xs ys p q v w h k
take_same old (Taken i xs) Idle p q v w h k = absurd (none-some i.unit (sym k.1 ∙ h.first))
take_same old (Taken i xs) Moved p q v w h k = absurd k
take_same old (Taken i xs) Ignored p q v w h k = absurd k
take_same old Idle (Ripe u) p q v w h k = absurd (none-some u (sym h.0 ∙ k.0))
take_same old Idle (Taken j ys) p q v w h k = absurd (none-some j.unit (sym h.1 ∙ k.first))
take_same old Idle Idle p q v w h k = stay_both old Idle p q v w h.2 k.2
take_same old Idle Moved p q v w h k = absurd k
take_same old Idle Ignored p q v w h k = absurd k
take_same old Moved s p q v w h k = absurd h
take_same old Ignored s p q v w h k = absurd h

pub leaves_same : (problem : Problem) (old : View) (unit : WorkUnit) (prefix : List ℕ) (outcome : Outcome) (p q : List Packet) (v w : View)
    → Leaves problem old unit prefix outcome p v → Leaves problem old unit prefix outcome q w → (p ≡ q) × (v ≡ w)
leaves_same problem old unit prefix (Covers options) p q v w h k = (h.1 ∙ sym k.1, h.0 ∙ sym k.0)
leaves_same problem old unit prefix Barren p q v w h k = (h.1 ∙ sym k.1, h.0 ∙ sym k.0)
leaves_same problem old unit prefix Spent p q v w h k = (h.2 ∙ sym k.2, h.0 ∙ sym k.0)

abbrev pub with_its_result : View → WorkUnit → ChildResult → View
with_its_result old unit result = unit_gets old unit (with_result unit result)

pub finish_same : (old : View) (unit : WorkUnit) (p q : List Packet) (v w : View) → FinishStep old unit p v → FinishStep old unit q w → (p ≡ q) × (v ≡ w)
finish_same old unit p q v w h k =
    let result : h.result ≡ k.result = same_Some h.result k.result (sym h.settled ∙ k.settled) in
    let aborts : AbortsBelow (same_unit unit) (with_its_result old unit h.result).own k.own =
    subst (λ r. AbortsBelow (same_unit unit) (with_its_result old unit r).own k.own) (sym result) k.aborts in
    let own : h.own ≡ k.own = aborts_same (same_unit unit) (with_its_result old unit h.result).own h.own k.own h.aborts aborts in
    let outs : h.outs ≡ k.outs = h.finishes.reaches ∙ (λ t. reached 0 (with_its_result old unit (result t)).own (own t)) ∙ sym k.finishes.reaches in (
      h.sends ∙ (λ t. abort_packets old.site (outs t) ++ return_packets old.site unit (result t)) ∙ sym k.sends,
      after_finish old unit p v h ∙ (λ t. with_own (with_its_result old unit (result t)) (own t)) ∙ sym (after_finish old unit q w k),
    )

pub members_same : (old : View) (incarnations : List ℕ) (p q : List Packet) (v w : View) → MembersStep old incarnations p v → MembersStep old incarnations q w → (p ≡ q) × (v ≡ w)
members_same old incarnations p q v w h k =
    let known : h.known ≡ k.known = h.known_is ∙ sym k.known_is in
    let aborts : AbortsBelow (is_lost_guest h.known old.guests) (redo_lost (is_older h.known) old.own) k.own =
    subst (λ n. AbortsBelow (is_lost_guest n old.guests) (redo_lost (is_older n) old.own) k.own) (sym known) k.aborts in
    let own : h.own ≡ k.own = aborts_same (is_lost_guest h.known old.guests) (redo_lost (is_older h.known) old.own) h.own k.own h.aborts aborts in
    let outs : h.outs ≡ k.outs = h.learns.reaches ∙ (λ t. reached 0 (redo_lost (is_older (known t)) old.own) (own t)) ∙ sym k.learns.reaches in (
      h.sends ∙ ap (abort_packets old.site) outs ∙ sym k.sends,
      after_members old incarnations p v h ∙ (λ t. with_known old (known t) (own t)) ∙ sym (after_members old incarnations q w k),
    )

pub drops_same : (old : View) (name : ChildName) (attempt : ℕ) (p q : List Packet) (v w : View) → Drops old name attempt p v → Drops old name attempt q w → SameStep Moved Moved p q v w
drops_same old name attempt p q v w h k =
    let own : h.own ≡ k.own = aborts_same (same_unit (Guest name attempt)) old.own h.own k.own h.aborts k.aborts in
    let outs : h.outs ≡ k.outs = h.drops.reaches ∙ ap (reached 0 old.own) own ∙ sym k.drops.reaches in (
      refl,
      h.sends ∙ ap (abort_packets old.site) outs ∙ sym k.sends,
      after_drops old name attempt p v h ∙ ap (with_own (unit_gets old (Guest name attempt) Dropped)) own ∙ sym (after_drops old name attempt q w k),
    )

pub admits_or_not : (problem : Problem) (old : View) (from : Site) (gifts : List Gift) (p : List Packet) (v : View) → Admits problem old from gifts p v → NoneIsNew old.ledger from gifts → ⊥
admits_or_not problem old from gifts p v h (inl older) = true≢false (sym older ∙ h.not_older)
admits_or_not problem old from gifts p v h (inr there) = true≢false (sym there ∙ h.some_new)

pub answers_same : (old : View) (from : Site) (serial attempt : ℕ) (result : ChildResult) (judgement : Judgement) (p q : List Packet) (v w : View)
    → Answers old from serial attempt result judgement p v → Answers old from serial attempt result judgement q w → (p ≡ q) × (v ≡ w)
answers_same old from serial attempt result Enters p q v w h k = (h.1 ∙ sym k.1, h.0 ∙ sym k.0)
answers_same old from serial attempt result (Holds held) p q v w h k = (h.1 ∙ sym k.1, h.0 ∙ sym k.0)
answers_same old from serial attempt result (Refuses cause) p q v w h k = (h.1 ∙ sym k.1, h.0 ∙ sym k.0)

pub give_same : (problem : Problem) (old : View) (from : Site) (gifts : List Gift) (r s : Reply) (p q : List Packet) (v w : View)
    → GiveStep problem old from gifts r p v → GiveStep problem old from gifts s q w → SameStep r s p q v w
give_same problem old from gifts Moved Moved p q v w h k =
    (refl, h.sends ∙ sym k.sends, after_admits problem old from gifts p v h ∙ sym (after_admits problem old from gifts q w k))
give_same problem old from gifts Moved Ignored p q v w h k = absurd (admits_or_not problem old from gifts p v h k.0)
give_same problem old from gifts Moved Idle p q v w h k = absurd k
give_same problem old from gifts Moved (Ripe u) p q v w h k = absurd k
give_same problem old from gifts Moved (Taken j ys) p q v w h k = absurd k
give_same problem old from gifts Ignored Moved p q v w h k = absurd (admits_or_not problem old from gifts q w k h.0)
give_same problem old from gifts Ignored Ignored p q v w h k = stay_both old Ignored p q v w h.1 k.1
give_same problem old from gifts Ignored Idle p q v w h k = absurd k
give_same problem old from gifts Ignored (Ripe u) p q v w h k = absurd k
give_same problem old from gifts Ignored (Taken j ys) p q v w h k = absurd k
give_same problem old from gifts Idle s p q v w h k = absurd h
give_same problem old from gifts (Ripe t) s p q v w h k = absurd h
give_same problem old from gifts (Taken i xs) s p q v w h k = absurd h

pub accept_same : (old : View) (name : ChildName) (attempt : ℕ) (result : ChildResult) (r s : Reply) (p q : List Packet) (v w : View)
    → AcceptStep old name attempt result r p v → AcceptStep old name attempt result s q w → SameStep r s p q v w
accept_same old name attempt result Moved Moved p q v w h k =
    (refl, h.sends ∙ sym k.sends, after_settles old name attempt result p v h ∙ sym (after_settles old name attempt result q w k))
accept_same old name attempt result Moved Ignored p q v w h k = absurd (true≢false (sym h.finished ∙ k.0 h.entry h.is))
accept_same old name attempt result Moved Idle p q v w h k = absurd k
accept_same old name attempt result Moved (Ripe u) p q v w h k = absurd k
accept_same old name attempt result Moved (Taken j ys) p q v w h k = absurd k
accept_same old name attempt result Ignored Moved p q v w h k = absurd (true≢false (sym k.finished ∙ h.0 k.entry k.is))
accept_same old name attempt result Ignored Ignored p q v w h k = stay_both old Ignored p q v w h.1 k.1
accept_same old name attempt result Ignored Idle p q v w h k = absurd k
accept_same old name attempt result Ignored (Ripe u) p q v w h k = absurd k
accept_same old name attempt result Ignored (Taken j ys) p q v w h k = absurd k
accept_same old name attempt result Idle s p q v w h k = absurd h
accept_same old name attempt result (Ripe t) s p q v w h k = absurd h
accept_same old name attempt result (Taken i xs) s p q v w h k = absurd h

pub refuse_same : (old : View) (name : ChildName) (attempt : ℕ) (r s : Reply) (p q : List Packet) (v w : View)
    → RefuseStep old name attempt r p v → RefuseStep old name attempt s q w → SameStep r s p q v w
refuse_same old name attempt Moved Moved p q v w h k = drops_same old name attempt p q v w h k
refuse_same old name attempt Moved Ignored p q v w h k = absurd (true≢false (sym h.open_still ∙ k.0 h.entry h.is))
refuse_same old name attempt Moved Idle p q v w h k = absurd k
refuse_same old name attempt Moved (Ripe u) p q v w h k = absurd k
refuse_same old name attempt Moved (Taken j ys) p q v w h k = absurd k
refuse_same old name attempt Ignored Moved p q v w h k = absurd (true≢false (sym k.open_still ∙ h.0 k.entry k.is))
refuse_same old name attempt Ignored Ignored p q v w h k = stay_both old Ignored p q v w h.1 k.1
refuse_same old name attempt Ignored Idle p q v w h k = absurd k
refuse_same old name attempt Ignored (Ripe u) p q v w h k = absurd k
refuse_same old name attempt Ignored (Taken j ys) p q v w h k = absurd k
refuse_same old name attempt Idle s p q v w h k = absurd h
refuse_same old name attempt (Ripe t) s p q v w h k = absurd h
refuse_same old name attempt (Taken i xs) s p q v w h k = absurd h

pub tells_same : (old : View) (r s : Reply) (p q : List Packet) (v w : View) → Tells old p v r → Tells old q w s → p ≡ q → v ≡ w → r ≡ s
tells_same old Moved Moved p q v w h k out new = refl
tells_same old Moved Ignored p q v w h k out new = absurd (h (new ∙ k.0, out ∙ k.1))
tells_same old Moved Idle p q v w h k out new = absurd k
tells_same old Moved (Ripe u) p q v w h k out new = absurd k
tells_same old Moved (Taken j ys) p q v w h k out new = absurd k
tells_same old Ignored Moved p q v w h k out new = absurd (k (sym new ∙ h.0, sym out ∙ h.1))
tells_same old Ignored Ignored p q v w h k out new = refl
tells_same old Ignored Idle p q v w h k out new = absurd k
tells_same old Ignored (Ripe u) p q v w h k out new = absurd k
tells_same old Ignored (Taken j ys) p q v w h k out new = absurd k
tells_same old Idle s p q v w h k out new = absurd h
tells_same old (Ripe t) s p q v w h k out new = absurd h
tells_same old (Taken i xs) s p q v w h k out new = absurd h

pub hear_same : (problem : Problem) (old : View) (from : Site) (body : Body) (r s : Reply) (p q : List Packet) (v w : View) → asks_for_work body ≡ false
    → HearStep problem old from body r p v → HearStep problem old from body s q w → SameStep r s p q v w
hear_same problem old from Hello r s p q v w other h k = absurd h
hear_same problem old from (Members incarnations) r s p q v w other h k =
    let same = members_same old incarnations p q v w h.0 k.0 in
    (tells_same old r s p q v w h.1 k.1 same.0 same.1, same.0, same.1)
hear_same problem old from Steal r s p q v w other h k = absurd (true≢false other)
hear_same problem old from (Give serial attempt prefix) r s p q v w other h k = give_same problem old from (gifts_in (Give serial attempt prefix)) r s p q v w h k
hear_same problem old from (GiveMany prefix siblings) r s p q v w other h k = give_same problem old from (gifts_in (GiveMany prefix siblings)) r s p q v w h k
hear_same problem old from NoWork r s p q v w other h k = (h.0 ∙ sym k.0, h.1.1 ∙ sym k.1.1, h.1.0 ∙ sym k.1.0)
hear_same problem old from (Return serial attempt result) r s p q v w other h k =
    let judgement : h.1.0 ≡ k.1.0 = sym h.1.1 ∙ k.1.1 in
    let same = answers_same old from serial attempt result k.1.0 p q v w (subst (λ j. Answers old from serial attempt result j p v) judgement h.1.2) k.1.2 in
    (h.0 ∙ sym k.0, same.0, same.1)
hear_same problem old from (Accept serial attempt result) r s p q v w other h k = accept_same old (record { site = from; serial = serial }) attempt result r s p q v w h k
hear_same problem old from (Refuse serial attempt cause) r s p q v w other h k = refuse_same old (record { site = from; serial = serial }) attempt r s p q v w h k
hear_same problem old from (Abort serial attempt) r s p q v w other h k = refuse_same old (record { site = from; serial = serial }) attempt r s p q v w h k
hear_same problem old from Over r s p q v w other h k = (h.0 ∙ sym k.0, h.2 ∙ sym k.2, h.1 ∙ sym k.1)

pub event_same : (problem : Problem) (old : View) (event : Event) (r s : Reply) (p q : List Packet) (v w : View) → may_choose event ≡ false
    → EventStep problem old event r p v → EventStep problem old event s q w → SameStep r s p q v w
event_same problem old Take r s p q v w other h k = take_same old r s p q v w h k
event_same problem old (Post job finding) r s p q v w other h k =
    let same = leaves_same problem old job.unit finding.prefix finding.outcome p q v w h.1.leaves k.1.leaves in
    (h.0 ∙ sym k.0, same.0, same.1)
event_same problem old (Finish unit) r s p q v w other h k =
    let same = finish_same old unit p q v w h.1 k.1 in
    (h.0 ∙ sym k.0, same.0, same.1)
event_same problem old (Ask victim) r s p q v w other h k = (h.0 ∙ sym k.0, h.1.sends ∙ sym k.1.sends, h.1.after ∙ sym k.1.after)
event_same problem old (Redo serial) r s p q v w other h k =
    (h.0 ∙ sym k.0, h.1.sends ∙ sym k.1.sends, after_redo old serial p v h.1 ∙ sym (after_redo old serial q w k.1))
event_same problem old (Deliver packet) r s p q v w other h k = hear_same problem old packet.from packet.body r s p q v w other h.2 k.2
event_same problem old Again r s p q v w other h k = (h.2 ∙ ap moved_by (h.0 ∙ sym k.0) ∙ sym k.2, h.0 ∙ sym k.0, h.1 ∙ sym k.1)
event_same problem old Greet r s p q v w other h k = (h.0 ∙ sym k.0, h.2 ∙ sym k.2, h.1 ∙ sym k.1)
