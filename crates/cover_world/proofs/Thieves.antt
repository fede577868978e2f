-- A step that aborts a child that was out tells its thief.
use Rattle.std.proofs.Common.{◌≡◌, ◌≢◌, ℕ, zero, suc, ◌+◌, Bool, true, false, cond, List, [], ◌∷◌, ◌++◌, map, option_map, Some, slice_get, refl, sym, ap, subst, ◌∙◌, inl, inr, ⊎_elim, arith}
use Rattle.std.proofs.lemmas.Option.{same_Some, none-some, slice_get-map}
use Rattle.cover_problem.specs.Problem.{Problem}
use Rattle.cover_problem.specs.Search.{Barren, Covers, Outcome, Spent}
use Rattle.cover_world.proofs.Changes.{after_admits, after_drops, after_finish, after_members, after_redo, after_settles, kept_by_gives}
use Rattle.cover_world.proofs.Published.{changed_back}
use Rattle.cover_world.specs.Thieves.{CallsOff, PutsOut}
use Rattle.node_core.specs.Arrivals.{AcceptStep, Drops, GiveStep, RefuseStep, ReturnStep}
use Rattle.node_core.specs.Membership.{MembersStep}
use Rattle.node_core.specs.NodeStep.{EventStep, HearStep}
use Rattle.node_core.specs.Results.{FinishStep, Leaves, return_packets, split_up}
use Rattle.node_core.specs.SiteView.{View, abort_packet, abort_packets, unit_gets, unit_in}
use Rattle.node_core.specs.Taking.{TakeStep}
use Rattle.node_core.specs.declared.event.Event.{Event}
use Rattle.node_core.specs.declared.event.Event.TheVariants.{Again, Ask, Deliver, Finish, Greet, Post, Redo, Take}
use Rattle.node_core.specs.declared.reply.Reply.{Reply}
use Rattle.node_core.specs.declared.reply.Reply.TheVariants.{Idle, Ignored, Moved, Ripe, Taken}
use Rattle.packet_wire.specs.Gifts.{gifts_in}
use Rattle.packet_wire.specs.declared.packet.Body.{Body}
use Rattle.packet_wire.specs.declared.packet.Body.TheVariants.{Abort, Accept, Give, GiveMany, Hello, Members, NoWork, Over, Refuse, Return, Steal}
use Rattle.packet_wire.specs.declared.packet.Packet.{Packet}
use Rattle.spawn_frame.specs.Aborts.{IsBelow, Reached, is_open, reached, reached_one}
use Rattle.spawn_frame.specs.Splits.{new_child, with_result}
use Rattle.spawn_frame.specs.Units.{Entry, change_at, redone, with_status}
use Rattle.spawn_frame.specs.declared.child_result.ChildResult.{ChildResult}
use Rattle.spawn_frame.specs.declared.gift.Gift.{Gift}
use Rattle.spawn_frame.specs.declared.site.ChildName.{ChildName}
use Rattle.spawn_frame.specs.declared.site.Site.{Site}
use Rattle.spawn_frame.specs.declared.status.Status.{Status}
use Rattle.spawn_frame.specs.declared.status.Status.TheVariants.{Aborted, Done, Here, Out, Split}
use Rattle.spawn_frame.specs.declared.unit.Unit.{Unit as WorkUnit}
use Rattle.spawn_frame.specs.declared.unit.Unit.TheVariants.{Guest, Own}
use Rattle.steal_return.specs.Members.{redo_if, redo_lost}
use Rattle.steal_return.specs.Returns.{Enters, Holds, Refuses}
use Rattle.steal_return.specs.Steals.{is_older}

-- ---- elements of lists

abbrev Has : {X : Type 0} → List X → X → Type 0
Has xs x = (i : ℕ) × (slice_get xs i ≡ Some x)

front_at : {X : Type 0} (xs ys : List X) (x : X) (i : ℕ) → slice_get xs i ≡ Some x → slice_get (xs ++ ys) i ≡ Some x
front_at [] ys x i e = absurd (none-some x e)
front_at (y ∷ xs) ys x zero e = e
front_at (y ∷ xs) ys x (suc i) e = front_at xs ys x i e

has_behind : {X : Type 0} (xs ys : List X) (x : X) → Has ys x → Has (xs ++ ys) x
has_behind [] ys x h = h
has_behind (y ∷ xs) ys x h = let r = has_behind xs ys x h in (suc r.0, r.1)

-- a child that was out and is aborted is reached
reached_has : (j : ℕ) (old new : List Entry) (k : ℕ) (c d : Entry) (thief : Site) (serial : ℕ) → serial ≡ j + k → slice_get old k ≡ Some c → c.status ≡ Out thief
    → slice_get new k ≡ Some d → d.status ≡ Aborted → Has {X = Reached} (reached j old new) (record { serial = serial; attempt = c.attempt; thief = thief })
reached_has j [] new k c d thief serial s is out at aborted = absurd (none-some c is)
reached_has j (x ∷ xs) [] k c d thief serial s is out at aborted = absurd (none-some d at)
reached_has j (x ∷ xs) (y ∷ ys) zero c d thief serial s is out at aborted =
    let was : x.status ≡ Out thief = ap (λ e. e.status) (same_Some x c is) ∙ out in
    let now : y.status ≡ Aborted = ap (λ e. e.status) (same_Some y d at) ∙ aborted in
    let attempt : x.attempt ≡ c.attempt = ap (λ e. e.attempt) (same_Some x c is) in
    let number : j ≡ serial = omega (arith, s) in (
      0,
      front_at (reached_one j x.attempt x.status y.status) (reached (suc j) xs ys) (record { serial = serial; attempt = c.attempt; thief = thief }) 0
          ((λ i. slice_get (reached_one j x.attempt (was i) (now i)) 0) ∙ (λ i. Some (record { serial = number i; attempt = attempt i; thief = thief }))),
    )
reached_has j (x ∷ xs) (y ∷ ys) (suc k) c d thief serial s is out at aborted =
    has_behind (reached_one j x.attempt x.status y.status) (reached (suc j) xs ys) (record { serial = serial; attempt = c.attempt; thief = thief })
    (reached_has (suc j) xs ys k c d thief serial (omega (arith, s)) is out at aborted)

-- the packet to the thief of a child that was out in one list and is aborted in the other
packet_told : (site : Site) (old new : List Entry) (serial : ℕ) (c : Entry) (thief : Site) → slice_get old serial ≡ Some c → c.status ≡ Out thief
    → slice_get new serial ≡ Some (with_status Aborted c) → PutsOut (abort_packets site (reached 0 old new)) (abort_packet site (record { serial = serial; attempt = c.attempt; thief = thief }))
packet_told site old new serial c thief is out at =
    let h = reached_has 0 old new serial c (with_status Aborted c) thief serial (omega arith) is out at refl in
    (h.0, slice_get-map (abort_packet site) (reached 0 old new) h.0 ∙ ap (option_map (abort_packet site)) h.1)

-- ---- changes that abort no child that was out

abbrev Quiet : List Entry → List Entry → Type 0
Quiet old new = (k : ℕ) (c d : Entry) (thief : Site) → slice_get old k ≡ Some c → c.status ≡ Out thief → slice_get new k ≡ Some d → d.status ≡ Aborted → ⊥

quiet_same : (own : List Entry) → Quiet own own
quiet_same own k c d thief is out at aborted =
    let same : c ≡ d = same_Some c d (sym is ∙ at) in
    let status : Out thief ≡ Aborted = sym out ∙ ap (λ e. e.status) same ∙ aborted in cc

quiet_change : (f : Entry → Entry) → ((c : Entry) → (f c).status ≢ Aborted) → (own : List Entry) (k : ℕ) → Quiet own (change_at f own k)
quiet_change f p [] k j c d thief is out at aborted = none-some c is
quiet_change f p (x ∷ xs) zero zero c d thief is out at aborted = p x (ap (λ e. e.status) (same_Some (f x) d at) ∙ aborted)
quiet_change f p (x ∷ xs) zero (suc j) c d thief is out at aborted = quiet_same xs j c d thief is out at aborted
quiet_change f p (x ∷ xs) (suc k) zero c d thief is out at aborted = quiet_same (x ∷ xs) zero c d thief is out at aborted
quiet_change f p (x ∷ xs) (suc k) (suc j) c d thief is out at aborted = quiet_change f p xs k j c d thief is out at aborted

quiet_later : (f : Entry → Entry) → ((c : Entry) → (f c).status ≢ Aborted) → (xs ys : List Entry) (k : ℕ) → Quiet xs ys → Quiet xs (change_at f ys k)
quiet_later f p xs ys k q j c d thief is out at aborted =
    ⊎_elim
    (λ (b : (e : Entry) × (slice_get ys j ≡ Some e) × (d ≡ f e) × (j ≡ k)). p b.0 (ap (λ x. x.status) (sym b.2) ∙ aborted))
    (λ (b : (j ≢ k) × (slice_get ys j ≡ Some d)). q j c d thief is out b.1 aborted)
    (changed_back f ys k j d at)

quiet_append : (old new more : List Entry) → Quiet old new → ((i : ℕ) (d : Entry) → slice_get more i ≡ Some d → d.status ≢ Aborted) → Quiet old (new ++ more)
quiet_append [] new more q n k c d thief is out at aborted = none-some c is
quiet_append (x ∷ xs) [] more q n k c d thief is out at aborted = n k d at aborted
quiet_append (x ∷ xs) (y ∷ ys) more q n zero c d thief is out at aborted = q zero c d thief is out at aborted
quiet_append (x ∷ xs) (y ∷ ys) more q n (suc k) c d thief is out at aborted = quiet_append xs ys more (λ j. q (suc j)) n k c d thief is out at aborted

news_open : (unit : WorkUnit) (prefixes : List (List ℕ)) (i : ℕ) (d : Entry) → slice_get (map (λ p. new_child unit p) prefixes) i ≡ Some d → d.status ≢ Aborted
news_open unit [] i d at aborted = none-some d at
news_open unit (p ∷ ps) zero d at aborted = let e = ap (λ x. x.status) (same_Some (new_child unit p) d at) ∙ aborted in cc
news_open unit (p ∷ ps) (suc i) d at aborted = news_open unit ps i d at aborted

quiet_gets : (old : View) (unit : WorkUnit) (status : Status) → status ≢ Aborted → Quiet old.own (unit_gets old unit status).own
quiet_gets old (Own k) status n = quiet_change (with_status status) (λ c. n) old.own k
quiet_gets old (Guest name attempt) status n = quiet_same old.own

result_is_none : (unit : WorkUnit) (result : ChildResult) → with_result unit result ≢ Aborted
result_is_none (Own k) result e = cc
result_is_none (Guest name attempt) result e = cc

-- ---- the child that is out stays so where another unit gets its result

other_stays : (f : Entry → Entry) (own : List Entry) (k j : ℕ) (c : Entry) → slice_get own j ≡ Some c → (j ≡ k → ⊥) → slice_get (change_at f own k) j ≡ Some c
other_stays f [] k j c is n = is
other_stays f (x ∷ xs) zero zero c is n = absurd (n refl)
other_stays f (x ∷ xs) zero (suc j) c is n = is
other_stays f (x ∷ xs) (suc k) zero c is n = is
other_stays f (x ∷ xs) (suc k) (suc j) c is n = other_stays f xs k j c is (λ e. n (ap suc e))

module _ (problem : Problem) (old new : View) (serial : ℕ) (entry : Entry) (thief : Site) (calls_off : CallsOff old new serial entry thief) where
  abbrev packet : Packet
  packet = abort_packet old.site (record { serial = serial; attempt = entry.attempt; thief = thief })

  quiet_view : (out : List Packet) (after : View) → new ≡ after → Quiet old.own after.own → PutsOut out packet
  quiet_view out after e q =
      absurd (q serial entry (with_status Aborted entry) thief calls_off.is calls_off.out_there (ap (λ v. slice_get v.own serial) (sym e) ∙ calls_off.aborted) refl)

  quiet : (out : List Packet) → new ≡ old → PutsOut out packet
  quiet out e = quiet_view out old e (quiet_same old.own)

  drops_told : (name : ChildName) (attempt : ℕ) (out : List Packet) → Drops old name attempt out new → PutsOut out packet
  drops_told name attempt out h =
      subst (λ l. PutsOut l packet) (sym (h.sends ∙ ap (abort_packets old.site) h.drops.reaches))
      (packet_told old.site old.own h.own serial entry thief calls_off.is calls_off.out_there (ap (λ v. slice_get v.own serial) (sym (after_drops old name attempt out new h)) ∙ calls_off.aborted))

  finish_told : (unit : WorkUnit) (out : List Packet) → FinishStep old unit out new → PutsOut out packet
  finish_told unit out h =
      let mid : List Entry = (unit_gets old unit (with_result unit h.result)).own in
      let at : slice_get h.own serial ≡ Some (with_status Aborted entry) = ap (λ v. slice_get v.own serial) (sym (after_finish old unit out new h)) ∙ calls_off.aborted in
      let told = packet_told old.site mid h.own serial entry thief (stays unit h.entry h.is h.split h.result) calls_off.out_there at in
      subst (λ l. PutsOut l packet) (sym (h.sends ∙ ap (λ outs. abort_packets old.site outs ++ return_packets old.site unit h.result) h.finishes.reaches))
      (told.0, front_at (abort_packets old.site (reached 0 mid h.own)) (return_packets old.site unit h.result) packet told.0 told.1)
    where
      stays : (u : WorkUnit) (frame : Entry) → unit_in old u ≡ Some frame → frame.status ≡ Split → (result : ChildResult)
          → slice_get (unit_gets old u (with_result u result)).own serial ≡ Some entry
      stays (Own k) frame is split result = other_stays (with_status (Done result)) old.own k serial entry calls_off.is (λ e.
          let same : entry ≡ frame = same_Some entry frame (sym calls_off.is ∙ ap (slice_get old.own) e ∙ is) in
          let status : Out thief ≡ Split = sym calls_off.out_there ∙ ap (λ c. c.status) same ∙ split in cc)
      stays (Guest name attempt) frame is split result = calls_off.is

  members_told : (incarnations : List ℕ) (out : List Packet) → MembersStep old incarnations out new → PutsOut out packet
  members_told incarnations out h = go (lost thief) refl
    where
      lost : Site → Bool
      lost = is_older h.known

      mid : List Entry
      mid = redo_lost lost old.own

      at : slice_get h.own serial ≡ Some (with_status Aborted entry)
      at = ap (λ v. slice_get v.own serial) (sym (after_members old incarnations out new h)) ∙ calls_off.aborted

      became : slice_get mid serial ≡ Some (cond (lost thief) (redone entry) entry)
      became =
          slice_get-map (λ c. redo_if lost c c.status) old.own serial ∙ ap (option_map (λ c. redo_if lost c c.status)) calls_off.is
          ∙ ap (λ s. Some (redo_if lost entry s)) calls_off.out_there

      raised : (d : Entry) → d.attempt ≡ suc entry.attempt → slice_get h.own serial ≡ Some d → ⊥
      raised d e is = let same : d.attempt ≡ entry.attempt = ap (λ c. c.attempt) (same_Some d (with_status Aborted entry) (sym is ∙ at)) in omega (arith, e, same)

      go : (b : Bool) → lost thief ≡ b → PutsOut out packet
      go true l =
          let there : slice_get mid serial ≡ Some (redone entry) = became ∙ ap (λ b. Some (cond b (redone entry) entry)) l in
          absurd (⊎_elim
          (λ (x : IsBelow _ mid serial × (is_open (redone entry).status ≡ true) × (slice_get h.own serial ≡ Some (with_status Aborted (redone entry)))). raised (with_status Aborted (redone entry)) refl x.2)
          (λ (x : (IsBelow _ mid serial → is_open (redone entry).status ≡ true → ⊥) × (slice_get h.own serial ≡ Some (redone entry))). raised (redone entry) refl x.1)
          (h.aborts.each serial (redone entry) there))
      go false l =
          subst (λ x. PutsOut x packet) (sym (h.sends ∙ ap (abort_packets old.site) h.learns.reaches))
          (packet_told old.site mid h.own serial entry thief (became ∙ ap (λ b. Some (cond b (redone entry) entry)) l) calls_off.out_there at)

  -- ---- the cases

  take_told : (reply : Reply) (out : List Packet) → TakeStep old reply out new → PutsOut out packet
  take_told (Ripe unit) out h = quiet out h.1.0
  take_told (Taken job prefix) out h = quiet_view out (unit_gets old job.unit Here) h.after (quiet_gets old job.unit Here (λ e. cc))
  take_told Idle out h = quiet out h.2.0
  take_told Moved out h = absurd h
  take_told Ignored out h = absurd h

  leaves_told : (unit : WorkUnit) (prefix : List ℕ) (outcome : Outcome) (out : List Packet) → Leaves problem old unit prefix outcome out new → PutsOut out packet
  leaves_told unit prefix (Covers options) out h = quiet_view out _ h.0 (quiet_gets old unit _ (result_is_none unit _))
  leaves_told unit prefix Barren out h = quiet_view out _ h.0 (quiet_gets old unit _ (result_is_none unit _))
  leaves_told unit prefix Spent out h = quiet_view out _ h.0 (split unit)
    where
      split : (u : WorkUnit) → Quiet old.own (split_up problem old u prefix).own
      split (Own k) = quiet_append old.own _ _ (quiet_gets old (Own k) Split (λ e. cc)) (news_open (Own k) _)
      split (Guest name attempt) = quiet_append old.own _ _ (quiet_same old.own) (news_open (Guest name attempt) _)

  give_told : (from : Site) (gifts : List Gift) (reply : Reply) (out : List Packet) → GiveStep problem old from gifts reply out new → PutsOut out packet
  give_told from gifts Moved out h = quiet_view out _ (after_admits problem old from gifts out new h) (quiet_same old.own)
  give_told from gifts Ignored out h = quiet out h.1.0
  give_told from gifts Idle out h = absurd h
  give_told from gifts (Ripe unit) out h = absurd h
  give_told from gifts (Taken job p) out h = absurd h

  return_told : (from : Site) (given attempt : ℕ) (result : ChildResult) (out : List Packet) → ReturnStep old from given attempt result out new → PutsOut out packet
  return_told from given attempt result out (Enters, is, h) = quiet_view out _ h.0 (quiet_change (with_status (Done result)) (λ c e. cc) old.own given)
  return_told from given attempt result out (Holds held, is, h) = quiet out h.0
  return_told from given attempt result out (Refuses cause, is, h) = quiet out h.0

  accept_told : (name : ChildName) (attempt : ℕ) (result : ChildResult) (reply : Reply) (out : List Packet) → AcceptStep old name attempt result reply out new → PutsOut out packet
  accept_told name attempt result Moved out h = quiet_view out _ (after_settles old name attempt result out new h) (quiet_same old.own)
  accept_told name attempt result Ignored out h = quiet out h.1.0
  accept_told name attempt result Idle out h = absurd h
  accept_told name attempt result (Ripe unit) out h = absurd h
  accept_told name attempt result (Taken job p) out h = absurd h

  refuse_told : (name : ChildName) (attempt : ℕ) (reply : Reply) (out : List Packet) → RefuseStep old name attempt reply out new → PutsOut out packet
  refuse_told name attempt Moved out h = drops_told name attempt out h
  refuse_told name attempt Ignored out h = quiet out h.1.0
  refuse_told name attempt Idle out h = absurd h
  refuse_told name attempt (Ripe unit) out h = absurd h
  refuse_told name attempt (Taken job p) out h = absurd h

  hear_told : (from : Site) (body : Body) (reply : Reply) (out : List Packet) → HearStep problem old from body reply out new → PutsOut out packet
  hear_told from Hello reply out h = absurd h
  hear_told from (Members incarnations) reply out h = members_told incarnations out h.0
  hear_told from Steal reply out (moved, inl h) = quiet out h.after
  hear_told from Steal reply out (moved, inr h) =
      quiet_view out new refl
      (kept_by_gives (λ v. Quiet old.own v.own) from (λ view serial entry is ready q. quiet_later (with_status (Out from)) (λ c e. cc) old.own view.own serial q) old out new h (quiet_same old.own))
  hear_told from (Give given attempt prefix) reply out h = give_told from (gifts_in (Give given attempt prefix)) reply out h
  hear_told from (GiveMany prefix siblings) reply out h = give_told from (gifts_in (GiveMany prefix siblings)) reply out h
  hear_told from NoWork reply out h = quiet out h.1.0
  hear_told from (Return given attempt result) reply out h = return_told from given attempt result out h.1
  hear_told from (Accept given attempt result) reply out h = accept_told (record { site = from; serial = given }) attempt result reply out h
  hear_told from (Refuse given attempt cause) reply out h = refuse_told (record { site = from; serial = given }) attempt reply out h
  hear_told from (Abort given attempt) reply out h = refuse_told (record { site = from; serial = given }) attempt reply out h
  hear_told from Over reply out h = quiet_view out _ h.1 (quiet_same old.own)

  pub event_told : (event : Event) (reply : Reply) (out : List Packet) → EventStep problem old event reply out new → PutsOut out packet
  event_told Take reply out h = take_told reply out h
  event_told (Post job finding) reply out h = leaves_told job.unit finding.prefix finding.outcome out h.1.leaves
  event_told (Finish unit) reply out h = finish_told unit out h.1
  event_told (Ask victim) reply out h = quiet out h.1.after
  event_told (Redo given) reply out h = quiet_view out _ (after_redo old given out new h.1) (quiet_change redone (λ c e. cc) old.own given)
  event_told (Deliver p) reply out h = hear_told p.from p.body reply out h.2
  event_told Again reply out h = quiet out h.1
  event_told Greet reply out h = quiet out h.1
