-- What holds at each site holds after each of its steps.
use Rattle.std.proofs.Common.{◌≡◌, ◌≢◌, ◌⊎◌, ℕ, zero, suc, ◌≤◌, Bool, true, false, cond, ◌&&◌, List, Option, Some, None, slice_get, refl, sym, ap, ◌∙◌, subst, inl, inr, ⊎_elim}
use Rattle.std.proofs.lemmas.Option.{same_Some, none-some}
use Rattle.std.proofs.lemmas.Bool.{true≢false, and_parts, and_from}
use Rattle.cover_problem.specs.Problem.{Problem}
use Rattle.cover_problem.specs.Prefix.{IsBarren}
use Rattle.cover_problem.specs.Branching.{branch_item}
use Rattle.cover_problem.specs.Search.{Outcome, Covers, Barren, Spent, outcome}
use Rattle.spawn_frame.specs.declared.site.Site.{Site}
use Rattle.spawn_frame.specs.declared.site.ChildName.{ChildName}
use Rattle.spawn_frame.specs.declared.unit.Unit.{Unit as WorkUnit}
use Rattle.spawn_frame.specs.declared.unit.Unit.TheVariants.{Own, Guest}
use Rattle.spawn_frame.specs.declared.child_result.ChildResult.{ChildResult}
use Rattle.spawn_frame.specs.declared.child_result.ChildResult.TheVariants.{Cover, Empty}
use Rattle.spawn_frame.specs.declared.status.Status.{Status}
use Rattle.spawn_frame.specs.declared.status.Status.TheVariants.{Ready, Here, Split, Out, Done, Aborted, Settled, Dropped}
use Rattle.spawn_frame.specs.Gifts.{admit_each, gift_guest}
use Rattle.spawn_frame.specs.Units.{Entry, guest_in, with_status, redone, change_at}
use Rattle.steal_return.proofs.Gifts.{admits_keep, any_gift}
use Rattle.cover_world.proofs.Changes.{after_admits, after_drops, after_finish, after_members, after_redo, after_settles, kept_by_gives}
use Rattle.node_core.specs.SiteView.{View, unit_in, with_own, with_guests, unit_gets}
use Rattle.spawn_frame.specs.Names.{same_unit}
use Rattle.spawn_frame.specs.Frames.{frame, frame_result}
use Rattle.spawn_frame.specs.Aborts.{is_open, AbortsBelow}
use Rattle.packet_wire.specs.Gifts.{gifts_in}
use Rattle.packet_wire.specs.declared.packet.Body.{Body}
use Rattle.packet_wire.specs.declared.packet.Body.TheVariants.{Hello, Members, Steal, Give, GiveMany, NoWork, Return, Accept, Refuse, Abort, Over}
use Rattle.packet_wire.specs.declared.packet.Packet.{Packet}
use Rattle.node_core.specs.declared.event.Event.{Event}
use Rattle.node_core.specs.declared.event.Event.TheVariants.{Take, Post, Finish, Ask, Redo, Deliver, Again, Greet}
use Rattle.node_core.specs.declared.reply.Reply.{Reply}
use Rattle.node_core.specs.declared.reply.Reply.TheVariants.{Taken, Ripe, Idle, Moved, Ignored}
use Rattle.node_core.specs.Results.{Leaves, split_up}
use Rattle.spawn_frame.specs.Splits.{with_result}
use Rattle.spawn_frame.specs.Tables.{has_status}
use Rattle.node_core.specs.Arrivals.{Answers, GiveStep, AcceptStep, RefuseStep, Denies, Gives}
use Rattle.root_registry.specs.RegistryStep.{RootAnswers, RootSteal, RootHears, RegistryStep, root_result}
use Rattle.node_core.specs.NodeStep.{HearStep, EventStep}
use Rattle.node_core.specs.Taking.{TakeStep}
use Rattle.cover_world.specs.Worlds.{SiteStep}
use Rattle.cover_world.proofs.Grows.{get_changed, get_mapped}
use Rattle.cover_world.proofs.Steps.{judged_enters}
use Rattle.cover_world.proofs.Published.{changed_back, mapped_back}
use Rattle.cover_problem.proofs.Outcomes.{barren_is_barren, spent_branches}
use Rattle.cover_world.proofs.Frames.{shape, changed_shapes, mapped_shapes, gets_same, if_lost, dropped_guest}
use Rattle.cover_world.proofs.Sound.{Sound, FrameOf, Barrens, Redoes, sound_gets, sound_alike, sound_redoes, sound_aborts, finish_barren}
use Rattle.cover_world.proofs.Splitting.{sound_splits, sound_admits, sound_drops, lost_some}
use Rattle.steal_return.specs.Members.{drop_lost, is_lost_guest, redo_if, redo_lost}
use Rattle.steal_return.specs.Returns.{Enters, Holds, Judgement, Refuses, judged}
use Rattle.steal_return.specs.Steals.{is_older}
use Rattle.spawn_frame.proofs.Sames.{unit_path}
use Rattle.spawn_frame.specs.declared.gift.Gift.{Gift}

-- a result that is returned empty-handed is of a barren prefix
abbrev pub ResultHopes : Problem → List Entry → ℕ → ChildResult → Type 0
ResultHopes problem own serial (Cover options) = Unit {0}
ResultHopes problem own serial Empty = (c : Entry) → slice_get own serial ≡ Some c → IsBarren problem c.prefix

abbrev pub BodyHopes : Problem → List Entry → Body → Type 0
BodyHopes problem own (Return serial attempt result) = ResultHopes problem own serial result
BodyHopes problem own _ = Unit {0}

abbrev pub EventHopes : Problem → List Entry → Event → Type 0
EventHopes problem own (Deliver packet) = BodyHopes problem own packet.body
EventHopes problem own _ = Unit {0}

module _ (problem : Problem) where
  as_is : (mid new : View) → new ≡ mid → Sound problem mid → Sound problem new
  as_is mid new e s = subst (Sound problem) (sym e) s

  result_frame : (own : List Entry) (unit : WorkUnit) (prefix : List ℕ) (r : ChildResult) → FrameOf problem own unit prefix (with_result unit r)
  result_frame own (Own k) prefix r = tt
  result_frame own (Guest m b) prefix r = tt

  result_open : (unit : WorkUnit) (r : ChildResult) → with_result unit r ≡ Aborted → ⊥
  result_open (Own k) r e = cc
  result_open (Guest m b) r e = cc

  result_no_frame : (unit : WorkUnit) (r : ChildResult) → with_result unit r ≡ Split → ⊥
  result_no_frame (Own k) r e = cc
  result_no_frame (Guest m b) r e = cc

  cover_barrens : (unit : WorkUnit) (prefix : List ℕ) (o : List ℕ) → Barrens problem prefix (with_result unit (Cover o))
  cover_barrens (Own k) prefix o = tt
  cover_barrens (Guest m b) prefix o = tt

  empty_barrens : (unit : WorkUnit) (prefix : List ℕ) → IsBarren problem prefix → Barrens problem prefix (with_result unit Empty)
  empty_barrens (Own k) prefix h = h
  empty_barrens (Guest m b) prefix h = h

  sound_result : (view : View) → Sound problem view → (unit : WorkUnit) (r : ChildResult) (entry : Entry) → unit_in view unit ≡ Some entry → Barrens problem entry.prefix (with_result unit r)
      → Sound problem (unit_gets view unit (with_result unit r))
  sound_result view s unit r entry is b = sound_gets problem view s unit (with_result unit r) entry is (result_open unit r) (result_frame view.own unit entry.prefix r) b

  -- ---- own events

  take_sound : (old : View) (reply : Reply) (out : List Packet) (new : View) → TakeStep old reply out new → Sound problem old → Sound problem new
  take_sound old (Ripe unit) out new h s = as_is old new h.1.0 s
  take_sound old (Taken job prefix) out new h s =
      as_is _ new h.after
      (sound_gets problem old s job.unit Here h.entry h.is (λ e. cc) (subst (λ t. FrameOf problem old.own job.unit h.entry.prefix t) h.ready (s.frames job.unit h.entry h.is)) tt)
  take_sound old Idle out new h s = as_is old new h.2.0 s
  take_sound old Moved out new h s = absurd h
  take_sound old Ignored out new h s = absurd h

  leaves_sound : (old : View) (unit : WorkUnit) (prefix : List ℕ) (fuel : ℕ) (o : Outcome) (out : List Packet) (new : View) (entry : Entry)
      → unit_in old unit ≡ Some entry → entry.status ≡ Here → entry.prefix ≡ prefix → 1 ≤ fuel → o ≡ outcome problem prefix fuel
      → Leaves problem old unit prefix o out new → Sound problem old → Sound problem new
  leaves_sound old unit prefix fuel (Covers options) out new entry is here p f e l s = as_is _ new l.0 (sound_result old s unit (Cover options) entry is (cover_barrens unit entry.prefix options))
  leaves_sound old unit prefix fuel Barren out new entry is here p f e l s =
      as_is _ new l.0
      (sound_result old s unit Empty entry is (empty_barrens unit entry.prefix (subst (IsBarren problem) (sym p) (barren_is_barren problem prefix fuel (sym e)))))
  leaves_sound old unit prefix fuel Spent out new entry is here p f e l s =
      let b = spent_branches problem prefix fuel f (sym e) in
      as_is _ new l.0
      (subst (λ q. Sound problem (split_up problem old unit q)) p
      (sound_splits problem old s unit entry is here b.0 (ap (branch_item problem) p ∙ b.1)))

  settled_barrens : (old : View) → Sound problem old → (unit : WorkUnit) (entry : Entry) → unit_in old unit ≡ Some entry → entry.status ≡ Split → (r : ChildResult)
      → frame_result (frame unit old.own) ≡ Some r → Barrens problem entry.prefix (with_result unit r)
  settled_barrens old s unit entry is split (Cover o) e = cover_barrens unit entry.prefix o
  settled_barrens old s unit entry is split Empty e =
      empty_barrens unit entry.prefix
      (finish_barren problem old s unit entry.prefix (subst (λ t. FrameOf problem old.own unit entry.prefix t) split (s.frames unit entry is)) e)

  finish_sound : (old : View) (unit : WorkUnit) (entry : Entry) (r : ChildResult) (own : List Entry) → unit_in old unit ≡ Some entry → entry.status ≡ Split → frame_result (frame unit old.own) ≡ Some r
      → AbortsBelow (same_unit unit) (unit_gets old unit (with_result unit r)).own own → Sound problem old → Sound problem (with_own (unit_gets old unit (with_result unit r)) own)
  finish_sound old unit entry r own is split e a s =
      sound_aborts problem (same_unit unit) (unit_gets old unit (with_result unit r)) own
      (sound_result old s unit r entry is (settled_barrens old s unit entry is split r e)) a
      (λ u d t at sp.
      let here : unit_in (unit_gets old unit (with_result unit r)) u ≡ Some (with_status (with_result unit r) entry) =
      ap (unit_in (unit_gets old unit (with_result unit r))) (sym (unit_path unit u t)) ∙ gets_same old unit (with_result unit r) entry is in
      result_no_frame unit r (ap (λ x. x.status) (same_Some (with_status (with_result unit r) entry) d (sym here ∙ at)) ∙ sp))

  redo_redoes : (own : List Entry) (serial : ℕ) (entry : Entry) (thief : Site) → slice_get own serial ≡ Some entry → entry.status ≡ Out thief → Redoes own (change_at redone own serial)
  redo_redoes own serial entry thief is o = record {
    shaped = changed_shapes redone (λ c. refl) own serial;
    none = λ k at. none k at (slice_get own k) refl;
    each = λ k d at. ⊎_elim
        (λ (b : (c : Entry) × (slice_get own k ≡ Some c) × (d ≡ redone c) × (k ≡ serial)).
        let same : entry ≡ b.0 = same_Some entry b.0 (sym is ∙ ap (slice_get own) (sym b.3) ∙ b.1) in
        (b.0, b.1, inr (b.2, (thief, ap (λ x. x.status) (sym same) ∙ o))))
        (λ (b : (k ≢ serial) × (slice_get own k ≡ Some d)). (d, b.1, inl refl))
        (changed_back redone own serial k d at);
  }
    where
      none : (k : ℕ) → slice_get (change_at redone own serial) k ≡ None → (o : Option Entry) → slice_get own k ≡ o → slice_get own k ≡ None
      none k at None e = e
      none k at (Some c) e =
          ⊎_elim
          (λ (h : (k ≡ serial) × (slice_get (change_at redone own serial) k ≡ Some (redone c))). absurd (none-some (redone c) (sym at ∙ h.1)))
          (λ (h : (k ≢ serial) × (slice_get (change_at redone own serial) k ≡ Some c)). absurd (none-some c (sym at ∙ h.1)))
          (get_changed redone own serial k c e)

  redo_if_shape : (lost : Site → Bool) (c : Entry) (t : Status) → shape (redo_if lost c t) ≡ shape c
  redo_if_shape lost c (Out thief) = (elim (lost thief) as (λ b. shape (cond b (redone c) c) ≡ shape c) [ true ↦ refl | false ↦ refl ])
  redo_if_shape lost c Ready = refl
  redo_if_shape lost c _ = refl

  redo_if_which : (lost : Site → Bool) (c : Entry) (t : Status) → c.status ≡ t → (redo_if lost c t ≡ c) ⊎ ((redo_if lost c t ≡ redone c) × ((thief : Site) × (c.status ≡ Out thief)))
  redo_if_which lost c (Out thief) e =
      (elim (lost thief) as (λ b. (cond b (redone c) c ≡ c) ⊎ ((cond b (redone c) c ≡ redone c) × ((thief : Site) × (c.status ≡ Out thief)))) [ true ↦ inr (refl, (thief, e)) | false ↦ inl refl ])
  redo_if_which lost c Ready e = inl refl
  redo_if_which lost c _ e = inl refl

  lost_redoes : (lost : Site → Bool) (own : List Entry) → Redoes own (redo_lost lost own)
  lost_redoes lost own = record {
    shaped = mapped_shapes (λ c. redo_if lost c c.status) (λ c. redo_if_shape lost c c.status) own;
    none = λ k at. none k at (slice_get own k) refl;
    each = λ k d at.
        let b = mapped_back (λ c. redo_if lost c c.status) own k d at in (
          b.0,
          b.1,
          ⊎_elim
              (λ (h : redo_if lost b.0 b.0.status ≡ b.0). inl (b.2 ∙ h))
              (λ (h : (redo_if lost b.0 b.0.status ≡ redone b.0) × ((thief : Site) × (b.0.status ≡ Out thief))). inr (b.2 ∙ h.0, h.1))
              (redo_if_which lost b.0 b.0.status refl),
        );
  }
    where
      none : (k : ℕ) → slice_get (redo_lost lost own) k ≡ None → (o : Option Entry) → slice_get own k ≡ o → slice_get own k ≡ None
      none k at None e = e
      none k at (Some c) e = absurd (none-some (redo_if lost c c.status) (sym at ∙ get_mapped (λ c. redo_if lost c c.status) own k c e))

  -- ---- packets

  steal_sound : (old : View) (from : Site) (out : List Packet) (new : View) → Denies old from out new ⊎ Gives old from out new → Sound problem old → Sound problem new
  steal_sound old from out new h s =
      ⊎_elim
      (λ (d : Denies old from out new). as_is old new d.after s)
      (λ (g : Gives old from out new).
      kept_by_gives (Sound problem) from
      (λ view serial entry is ready t. sound_gets problem view t (Own serial) (Out from) entry is (λ e. cc)
      (subst (λ x. FrameOf problem view.own (Own serial) entry.prefix x) ready (t.frames (Own serial) entry is)) tt)
      old out new g s)
      h

  root_steal_sound : (r : Option ChildResult) (old : View) (from : Site) (out : List Packet) (new : View) → RootSteal r old from out new → Sound problem old → Sound problem new
  root_steal_sound (Some result) old from out new h s = as_is old new h.0 s
  root_steal_sound None old from out new h s = steal_sound old from out new h s

  done_by : (old : View) (serial : ℕ) (r : ChildResult) (c : Entry) → ResultHopes problem old.own serial r → slice_get old.own serial ≡ Some c → Barrens problem c.prefix (Done r)
  done_by old serial (Cover o) c h is = tt
  done_by old serial Empty c h is = h c is

  answers_sound : (old : View) (from : Site) (serial attempt : ℕ) (result : ChildResult) (j : Judgement) (out : List Packet) (new : View)
      → ResultHopes problem old.own serial result → judged (slice_get old.own serial) from attempt ≡ j → Answers old from serial attempt result j out new → Sound problem old → Sound problem new
  answers_sound old from serial attempt result Enters out new h e a s =
      let at = judged_enters (slice_get old.own serial) from attempt e in
      as_is _ new a.0 (sound_gets problem old s (Own serial) (Done result) at.entry at.is (λ q. cc) tt (done_by old serial result at.entry h at.is))
  answers_sound old from serial attempt result (Holds held) out new h e a s = as_is old new a.0 s
  answers_sound old from serial attempt result (Refuses cause) out new h e a s = as_is old new a.0 s

  root_answers_sound : (old : View) (from : Site) (serial attempt : ℕ) (result : ChildResult) (j : Judgement) (out : List Packet) (new : View)
      → ResultHopes problem old.own serial result → judged (slice_get old.own serial) from attempt ≡ j → RootAnswers problem old from serial attempt result j out new → Sound problem old → Sound problem new
  root_answers_sound old from serial attempt result Enters out new h e a s = answers_sound old from serial attempt result Enters _ new h e (a.1, refl) s
  root_answers_sound old from serial attempt result (Holds held) out new h e a s = as_is old new a.0 s
  root_answers_sound old from serial attempt result (Refuses cause) out new h e a s = as_is old new a.0 s

  give_sound : (old : View) (from : Site) (gifts : List Gift) (reply : Reply) (out : List Packet) (new : View) → GiveStep problem old from gifts reply out new → Sound problem old → Sound problem new
  give_sound old from gifts Moved out new h s =
      as_is (with_guests old (admit_each from gifts old.guests)) new (after_admits problem old from gifts out new h)
      (admits_keep (λ gs. Sound problem (with_guests old gs)) (λ g. Unit {0}) from (λ gift guests u none t. sound_admits problem (with_guests old guests) t (gift_guest from gift) refl none) gifts old.guests (any_gift gifts) s)
  give_sound old from gifts Ignored out new h s = as_is old new h.1.0 s
  give_sound old from gifts _ out new h s = absurd h

  accept_sound : (old : View) (name : ChildName) (attempt : ℕ) (result : ChildResult) (reply : Reply) (out : List Packet) (new : View) → AcceptStep old name attempt result reply out new → Sound problem old → Sound problem new
  accept_sound old name attempt result Moved out new h s = as_is _ new (after_settles old name attempt result out new h) (sound_gets problem old s (Guest name attempt) (Settled result) h.entry h.is (λ e. cc) tt tt)
  accept_sound old name attempt result Ignored out new h s = as_is old new h.1.0 s
  accept_sound old name attempt result _ out new h s = absurd h

  refuse_sound : (old : View) (name : ChildName) (attempt : ℕ) (reply : Reply) (out : List Packet) (new : View) → RefuseStep old name attempt reply out new → Sound problem old → Sound problem new
  refuse_sound old name attempt Moved out new h s =
      let unit = Guest name attempt in
      let mid = unit_gets old unit Dropped in
      as_is _ new (after_drops old name attempt out new h)
      (sound_aborts problem (same_unit unit) mid h.own (sound_gets problem old s unit Dropped h.entry h.is (λ e. cc) tt tt) h.aborts
      (λ u d t at sp.
      let here : unit_in mid u ≡ Some (with_status Dropped h.entry) = ap (unit_in mid) (sym (unit_path unit u t)) ∙ gets_same old unit Dropped h.entry h.is in
      let e : Dropped ≡ Split = ap (λ x. x.status) (same_Some (with_status Dropped h.entry) d (sym here ∙ at)) ∙ sp in
      cc))
  refuse_sound old name attempt Ignored out new h s = as_is old new h.1.0 s
  refuse_sound old name attempt _ out new h s = absurd h

  lost_no_frame : (known : List ℕ) (old mid : View) → mid.guests ≡ drop_lost known old.guests → (u : WorkUnit) (d : Entry) → is_lost_guest known old.guests u ≡ true → unit_in mid u ≡ Some d → d.status ≡ Split → ⊥
  lost_no_frame known old mid g (Own k) d t at sp = true≢false (sym t)
  lost_no_frame known old mid g (Guest m b) d t at sp =
      let p = and_parts (is_older known m.site) (has_status is_open (guest_in old.guests m b)) t in
      let e = lost_some known m (guest_in old.guests m b) d (sym (dropped_guest known old.guests m b) ∙ ap (λ l. guest_in l m b) (sym g) ∙ at) in
      let lost : (is_older known m.site && is_open e.0.status) ≡ true = and_from _ _ p.0 (ap (has_status is_open) (sym e.1) ∙ p.1) in
      let s : Dropped ≡ Split = sym (ap (λ x. (if_lost x e.0).status) lost) ∙ ap (λ x. x.status) (sym e.2) ∙ sp in
      cc

  hear_sound : (old : View) (from : Site) (body : Body) (reply : Reply) (out : List Packet) (new : View) → BodyHopes problem old.own body → HearStep problem old from body reply out new → Sound problem old → Sound problem new
  hear_sound old from Hello reply out new b h s = absurd h
  hear_sound old from (Members incarnations) reply out new b h s =
      let known = h.0.known in
      let own = redo_lost (is_older known) old.own in
      let mid = with_guests (with_own old own) (drop_lost known old.guests) in
      let mid_sound = sound_drops problem (with_own old own) (sound_redoes problem old s own (lost_redoes (is_older known) old.own)) known in
      as_is _ new (after_members old incarnations out new h.0)
      (sound_alike problem (with_own mid h.0.own) _ refl refl
      (sound_aborts problem (is_lost_guest known old.guests) mid h.0.own mid_sound h.0.aborts (lost_no_frame known old mid refl)))
  hear_sound old from Steal reply out new b h s = steal_sound old from out new h.1 s
  hear_sound old from (Give serial attempt prefix) reply out new b h s = give_sound old from (gifts_in (Give serial attempt prefix)) reply out new h s
  hear_sound old from (GiveMany prefix siblings) reply out new b h s = give_sound old from (gifts_in (GiveMany prefix siblings)) reply out new h s
  hear_sound old from NoWork reply out new b h s = as_is old new h.1.0 s
  hear_sound old from (Return serial attempt result) reply out new b h s = answers_sound old from serial attempt result h.1.0 out new b h.1.1 h.1.2 s
  hear_sound old from (Accept serial attempt result) reply out new b h s = accept_sound old _ attempt result reply out new h s
  hear_sound old from (Refuse serial attempt cause) reply out new b h s = refuse_sound old _ attempt reply out new h s
  hear_sound old from (Abort serial attempt) reply out new b h s = refuse_sound old _ attempt reply out new h s
  hear_sound old from Over reply out new b h s = as_is _ new h.1 (sound_alike problem old _ refl refl s)

  event_sound : (old : View) (event : Event) (reply : Reply) (out : List Packet) (new : View) → EventHopes problem old.own event → EventStep problem old event reply out new → Sound problem old → Sound problem new
  event_sound old Take reply out new b h s = take_sound old reply out new h s
  event_sound old (Post job finding) reply out new b h s =
      leaves_sound old job.unit finding.prefix finding.fuel finding.outcome out new h.1.entry h.1.is h.1.here h.1.prefix h.1.right.fuel h.1.right.outcome h.1.leaves s
  event_sound old (Finish unit) reply out new b h s =
      as_is _ new (after_finish old unit out new h.1) (finish_sound old unit h.1.entry h.1.result h.1.own h.1.is h.1.split h.1.settled h.1.aborts s)
  event_sound old (Ask victim) reply out new b h s = as_is old new h.1.after s
  event_sound old (Redo serial) reply out new b h s =
      as_is _ new (after_redo old serial out new h.1) (sound_redoes problem old s _ (redo_redoes old.own serial h.1.entry h.1.thief h.1.is h.1.out_there))
  event_sound old (Deliver packet) reply out new b h s = hear_sound old packet.from packet.body reply out new b h.2 s
  event_sound old Again reply out new b h s = as_is old new h.1 s
  event_sound old Greet reply out new b h s = as_is old new h.1 s

  root_hears_sound : (old : View) (from : Site) (body : Body) (reply : Reply) (out : List Packet) (new : View) → BodyHopes problem old.own body → RootHears problem old from body reply out new → Sound problem old → Sound problem new
  root_hears_sound old from Hello reply out new b h s =
      as_is _ new h.1.after
      (sound_alike problem (with_own old (redo_lost _ old.own)) _ refl refl (sound_redoes problem old s _ (lost_redoes _ old.own)))
  root_hears_sound old from Steal reply out new b h s = root_steal_sound (root_result old) old from out new h.1 s
  root_hears_sound old from (Return serial attempt result) reply out new b h s = root_answers_sound old from serial attempt result h.1.0 out new b h.1.1 h.1.2 s
  root_hears_sound old from _ reply out new b h s = absurd h

  registry_sound : (old : View) (event : Event) (reply : Reply) (out : List Packet) (new : View) → EventHopes problem old.own event → RegistryStep problem old event reply out new → Sound problem old → Sound problem new
  registry_sound old (Redo serial) reply out new b h s = event_sound old (Redo serial) reply out new b h s
  registry_sound old (Deliver packet) reply out new b h s = root_hears_sound old packet.from packet.body reply out new b h.2 s
  registry_sound old Again reply out new b h s = as_is old new h.1 s
  registry_sound old _ reply out new b h s = absurd h

  pub site_sound : (node : ℕ) (old : View) (event : Event) (reply : Reply) (out : List Packet) (new : View) → EventHopes problem old.own event → SiteStep node problem old event reply out new → Sound problem old → Sound problem new
  site_sound zero old event reply out new b h s = registry_sound old event reply out new b h s
  site_sound (suc node) old event reply out new b h s = event_sound old event reply out new b h.1 s
