-- Where nothing refuses an event, a node has a step of it.
use Rattle.std.proofs.Common.{◌≡◌, ◌≢◌, ◌⊎◌, ℕ, zero, suc, ◌+◌, ◌<◌, ◌≤◌, Bool, true, false, ◌&&◌, ◌||◌, not, cond, List, [], ◌∷◌, ◌++◌, length, Option, Some, None, slice_get, refl, sym, ap, subst, ◌∙◌, inl, inr, arith, true≢false}
use Rattle.std.specs.Prelude.{is_none, nat_eq, nat_le, ◌==◌}
use Rattle.std.specs.Cmp.Lexicographic.{bytes_decides, pointwise}
use Rattle.std.specs.List.{list_all}
use Rattle.std.proofs.lemmas.Bool.{and_parts, eqb-false, eqb-true, leb-false, ltb-false, not-false, or_parts}
use Rattle.std.proofs.lemmas.Option.{none-some, same_Some}
use Rattle.brancher.specs.Finding.{Finding}
use Rattle.cover_problem.specs.Branching.{children}
use Rattle.cover_problem.specs.Problem.{Problem}
use Rattle.cover_problem.specs.Search.{Barren, Covers, Outcome, Spent}
use Rattle.node_core.proofs.Alike.{view_told}
use Rattle.node_core.proofs.Picking.{ready_is_there}
use Rattle.node_core.proofs.Reaching.{Either, an_abort, parents, parents_changed, parents_first}
use Rattle.node_core.proofs.Spending.{all_redoable}
use Rattle.node_core.proofs.Stepping.{split_length}
use Rattle.node_core.specs.Arrivals.{Denies, GiveStep, Gives, RefuseStep, answer_packet, is_lawful, reply_body}
use Rattle.node_core.specs.NodeStep.{EventStep, HearStep, Tells, over_now}
use Rattle.node_core.specs.Refusal.{IsFit, IsNodeView, NodeActs, any_spent, ask_refusal, finish_refusal, give_refusal, hear_refusal, is_awaited, is_beyond, is_ignored, is_misdirected, is_spent, lacks_names, members_refusal, node_refusal, post_refusal, redo_refusal}
use Rattle.node_core.specs.Requests.{RedoStep, gives_again, known_site, moved_by, registry, returns_again}
use Rattle.node_core.specs.Results.{IsRight, Leaves, return_packets, split_up}
use Rattle.node_core.specs.SiteView.{View, abort_packets, unit_gets, unit_in, with_ledger}
use Rattle.node_core.specs.declared.act_fault.ActFault.TheVariants as faults
use Rattle.node_core.specs.declared.event.Event.{Event}
use Rattle.node_core.specs.declared.event.Event.TheVariants.{Again, Ask, Deliver, Finish, Greet, Post, Redo, Take}
use Rattle.node_core.specs.declared.reply.Reply.{Reply}
use Rattle.node_core.specs.declared.reply.Reply.TheVariants.{Idle, Ignored, Moved, Ripe, Taken}
use Rattle.packet_wire.specs.Kinds.{is_routed, kind_of}
use Rattle.packet_wire.specs.WellFormed.{is_body, is_site, is_well_formed}
use Rattle.packet_wire.specs.Gifts.{gifts_in}
use Rattle.packet_wire.specs.declared.packet.Body.{Body}
use Rattle.packet_wire.specs.declared.packet.Body.TheVariants as bodies
use Rattle.packet_wire.specs.declared.packet.Packet.{Packet}
use Rattle.spawn_frame.specs.Aborts.{Reached, is_open, reached}
use Rattle.spawn_frame.specs.Frames.{frame, frame_result}
use Rattle.spawn_frame.specs.Gifts as given
use Rattle.spawn_frame.specs.Names.{same_site, same_unit}
use Rattle.spawn_frame.specs.Picks.{is_finished, is_ready, is_split, ready_unit, ripe_unit}
use Rattle.spawn_frame.specs.Splits.{with_result}
use Rattle.spawn_frame.specs.Tables.{IsAscending, attempt_in, has_status, is_here, is_out, prefix_in}
use Rattle.spawn_frame.specs.Units.{Entry, change_at, guest_in, last_attempt, redone, table_guests, table_own, with_status}
use Rattle.spawn_frame.specs.declared.child_result.ChildResult.{ChildResult}
use Rattle.spawn_frame.specs.declared.child_result.ChildResult.TheVariants.{Cover, Empty}
use Rattle.spawn_frame.specs.declared.site.ChildName.{ChildName}
use Rattle.spawn_frame.specs.declared.site.Site.{Site}
use Rattle.spawn_frame.specs.declared.status.Status.{Status}
use Rattle.spawn_frame.specs.declared.status.Status.TheVariants.{Dropped, Here, Out, Ready, Settled}
use Rattle.spawn_frame.specs.declared.unit.Job.{Job}
use Rattle.spawn_frame.specs.declared.unit.Unit.{Unit as WorkUnit}
use Rattle.spawn_frame.specs.declared.unit.Unit.TheVariants.{Guest, Own}
use Rattle.steal_return.specs.Ledger.{Ledger, ledger_gets, ledger_guests, ledger_own}
use Rattle.steal_return.specs.Members.{drop_lost, is_lost_guest, now_known, redo_lost}
use Rattle.steal_return.specs.Returns.{judged, reply_to, returned}
use Rattle.steal_return.specs.Steals.{is_older}
use Rattle.spawn_frame.proofs.Sames.{site_path}
use Rattle.spawn_frame.proofs.Working.{here_status}
use Rattle.spawn_frame.proofs.Winners.{split_path}
use Rattle.spawn_frame.specs.declared.gift.Gift.{Gift}
use Rattle.steal_return.proofs.Scans.{ready_status}
use Rattle.steal_return.proofs.Learns.{parents_redo}

-- ---- tests that refuse nothing

pub unless : {A : Type 0} (b : Bool) (x : A) (o : Option A) → cond b (Some x) o ≡ None → (b ≡ false) × (o ≡ None)
unless true x o h = absurd (none-some x (sym h))
unless false x o h = (refl, h)

unless_not : {A : Type 0} (b : Bool) (x : A) (o : Option A) → cond (not b) (Some x) o ≡ None → (b ≡ true) × (o ≡ None)
unless_not true x o h = (refl, h)
unless_not false x o h = absurd (none-some x (sym h))

pub only_where : {A : Type 0} (b : Bool) (x : A) → cond b None (Some x) ≡ None → b ≡ true
only_where true x h = refl
only_where false x h = absurd (none-some x (sym h))

is_there : {A : Type 0} (o : Option A) → is_none o ≡ false → (x : A) × (o ≡ Some x)
is_there None h = absurd (true≢false h)
is_there (Some x) h = (x, refl)

-- a unit that is there, whose status passes
abbrev pub HasStatus : (Status → Bool) → Option Entry → Type 0
HasStatus test o = (entry : Entry) × (o ≡ Some entry) × (test entry.status ≡ true)

has_passed : (test : Status → Bool) (o : Option Entry) → has_status test o ≡ true → HasStatus test o
has_passed test None h = absurd (true≢false (sym h))
has_passed test (Some entry) h = (entry, refl, h)

-- it is there and passes, or doesn't where it is there
status_told : (test : Status → Bool) (o : Option Entry) → HasStatus test o ⊎ ((entry : Entry) → o ≡ Some entry → test entry.status ≡ false)
status_told test None = inr (λ entry at. absurd (none-some entry at))
status_told test (Some c) = by (test c.status) refl
  where
    by : (b : Bool) → test c.status ≡ b → HasStatus test (Some c) ⊎ ((entry : Entry) → Some c ≡ Some entry → test entry.status ≡ false)
    by true t = inl (c, refl, t)
    by false f = inr (λ entry at. ap (λ x. test x.status) (sym (same_Some c entry at)) ∙ f)

out_status : (s : Status) → is_out s ≡ true → (thief : Site) × (s ≡ Out thief)
out_status (Out thief) is = (thief, refl)
out_status Ready is = absurd (true≢false (sym is))
out_status _ is = absurd (true≢false (sym is))

-- ---- what a site does of itself

-- there is a step of an event
abbrev pub EventActs : Problem → View → Event → Type 0
EventActs problem view event = (reply : Reply) × (out : List Packet) × (new : View) × EventStep problem view event reply out new

take_acts : (problem : Problem) (view : View) → IsAscending view.guests → EventActs problem view Take
take_acts problem view ascending = ripe (ripe_unit view.table) refl
  where
    ready : (o : Option WorkUnit) → ready_unit view.table ≡ o → ripe_unit view.table ≡ None → EventActs problem view Take
    ready None none none_ripe = (Idle, [], view, (none_ripe, none, (refl, refl)))
    ready (Some unit) some none_ripe =
        let there = ready_is_there view ascending unit some in (
          Taken (record { unit = unit; attempt = there.entry.attempt }) there.entry.prefix,
          [],
          unit_gets view unit Here,
          record {
            none_ripe = none_ripe;
            first = some;
            entry = there.entry;
            is = there.is;
            ready = there.ready;
            attempt = refl;
            prefix_is = refl;
            after = refl;
            sends = refl;
          },
        )

    ripe : (o : Option WorkUnit) → ripe_unit view.table ≡ o → EventActs problem view Take
    ripe (Some unit) some = (Ripe unit, [], view, (some, (refl, refl)))
    ripe None none = ready (ready_unit view.table) refl none

-- what a search leaves, where no child lacks a name
abbrev pub Left : Problem → View → WorkUnit → List ℕ → Outcome → Type 0
Left problem view unit prefix outcome = (out : List Packet) × (new : View) × Leaves problem view unit prefix outcome out new

left_by : (problem : Problem) (view : View) (unit : WorkUnit) (prefix : List ℕ) (outcome : Outcome) → (is_spent outcome && lacks_names problem view prefix) ≡ false → Left problem view unit prefix outcome
left_by problem view unit prefix (Covers options) few = (return_packets view.site unit (Cover options), unit_gets view unit (with_result unit (Cover options)), (refl, refl))
left_by problem view unit prefix Barren few = (return_packets view.site unit Empty, unit_gets view unit (with_result unit Empty), (refl, refl))
left_by problem view unit prefix Spent few =
    let within = ltb-false view.limit (length view.own + length (children problem prefix)) few in
    ([], split_up problem view unit prefix, (refl, omega (arith, within, split_length problem view unit prefix), refl))

post_acts : (problem : Problem) (view : View) (job : Job) (finding : Finding) → IsRight problem finding → post_refusal problem view job finding ≡ None → EventActs problem view (Post job finding)
post_acts problem view job finding right passes =
    let seen = unit_in view job.unit in
    let first = unless_not (is_awaited view job finding) _ _ passes in
    let few = unless (is_spent finding.outcome && lacks_names problem view finding.prefix) _ _ first.1 in
    let tests = and_parts (has_status is_here seen) (attempt_in seen == job.attempt && pointwise nat_eq (prefix_in seen) finding.prefix) first.0 in
    let others = and_parts (attempt_in seen == job.attempt) (pointwise nat_eq (prefix_in seen) finding.prefix) tests.1 in
    let there : HasStatus is_here seen = has_passed is_here seen tests.0 in
    let left : Left problem view job.unit finding.prefix finding.outcome = left_by problem view job.unit finding.prefix finding.outcome few.0 in (
      Moved,
      left.0,
      left.1,
      (
        refl,
        record {
          entry = there.0;
          is = there.1;
          here = here_status there.0.status there.2;
          attempt = sym (ap attempt_in there.1) ∙ eqb-true (attempt_in seen) job.attempt others.0;
          prefix = sym (ap prefix_in there.1) ∙ (bytes_decides (prefix_in seen) finding.prefix).0 others.1;
          right = right;
          leaves = left.2;
        },
      ),
    )

gets_parents : (ledger : Ledger) (unit : WorkUnit) (status : Status) → parents ledger.own ≡ parents (ledger_gets ledger unit status).own
gets_parents ledger (Own k) status = parents_changed (with_status status) (λ c. refl) ledger.own k
gets_parents ledger (Guest name attempt) status = refl

finish_acts : (problem : Problem) (view : View) (unit : WorkUnit) → IsNodeView view → finish_refusal view unit ≡ None → EventActs problem view (Finish unit)
finish_acts problem view unit is passes =
    let first = unless_not (has_status is_split (unit_in view unit)) _ _ passes in
    let second = unless (is_none (frame_result (frame unit view.own))) _ _ first.1 in
    let there : HasStatus is_split (unit_in view unit) = has_passed is_split (unit_in view unit) first.0 in
    let result = is_there (frame_result (frame unit view.own)) second.0 in
    let done : Ledger = ledger_gets view.ledger unit (with_result unit result.0) in
    let abort = an_abort (same_unit unit) done.own (parents_first view.own done.own (gets_parents view.ledger unit (with_result unit result.0)) is.parents.lower) in
    let outs : List Reached = reached 0 done.own abort.0 in
    let after : Ledger = ledger_own done abort.0 in (
      Moved,
      abort_packets view.site outs ++ return_packets view.site unit result.0,
      with_ledger view after,
      (
        refl,
        record {
          outs = outs;
          ledger = after;
          finishes = record {
            entry = there.0;
            is = there.1;
            split = split_path there.0.status there.2;
            result = result.0;
            settled = result.1;
            own = abort.0;
            aborts = abort.1;
            after = refl;
            reaches = refl;
          };
          after = refl;
          sends = refl;
        },
      ),
    )

ask_acts : (problem : Problem) (view : View) (victim : ℕ) → ask_refusal view victim ≡ None → EventActs problem view (Ask victim)
ask_acts problem view victim passes =
    let tests = or_parts (victim == view.site.node) (is_beyond view victim) (unless (victim == view.site.node || is_beyond view victim) _ _ passes).0 in (
      Moved,
      record { from = view.site; to = known_site view victim; body = bodies.Steal } ∷ [],
      view,
      (
        refl,
        record {
          another = eqb-false victim view.site.node tests.0;
          exists = ltb-false view.nodes victim tests.1;
          after = refl;
          sends = refl;
        },
      ),
    )

pub redo_step : (view : View) (serial : ℕ) → redo_refusal view serial ≡ None → RedoStep view serial [] (with_ledger view (ledger_own view.ledger (change_at redone view.own serial)))
redo_step view serial passes =
    let seen = slice_get view.own serial in
    let first = unless_not (has_status is_out seen) _ _ passes in
    let second = unless (nat_le last_attempt (attempt_in seen)) _ _ first.1 in
    let there : HasStatus is_out seen = has_passed is_out seen first.0 in
    let out = out_status there.0.status there.2 in
    record {
      ledger = ledger_own view.ledger (change_at redone view.own serial);
      redoes = record {
        entry = there.0;
        thief = out.0;
        is = there.1;
        out_there = out.1;
        not_last = subst (λ o. attempt_in o < last_attempt) there.1 (leb-false last_attempt (attempt_in seen) second.0);
        after = refl;
      };
      after = refl;
      sends = refl;
    }

-- ---- packets

-- there is a step of a packet
abbrev pub HearActs : Problem → View → Site → Body → Type 0
HearActs problem view from body = (reply : Reply) × (out : List Packet) × (new : View) × HearStep problem view from body reply out new

-- whether something is told can be told
tells : (view : View) (out : List Packet) (new : View) → (reply : Reply) × Tells view out new reply
tells view [] new = by (view_told new view)
  where
    by : Either (new ≡ view) → (reply : Reply) × Tells view [] new reply
    by (inl same) = (Ignored, (same, refl))
    by (inr other) = (Moved, (λ stays. other stays.0))
tells view (p ∷ ps) new = (Moved, (λ stays. more stays.1))
  where
    more : ◌≡◌ {A = List Packet} (p ∷ ps) [] → ⊥
    more e = cc

members_act : (problem : Problem) (view : View) (from : Site) (incarnations : List ℕ) → IsNodeView view → members_refusal view incarnations ≡ None → HearActs problem view from (bodies.Members incarnations)
members_act problem view from incarnations is passes =
    let known : List ℕ = now_known view.site.node view.known incarnations in
    let none = unless (any_spent (is_older known) view.own) _ _ passes in
    let mid : List Entry = redo_lost (is_older known) view.own in
    let abort = an_abort (is_lost_guest known view.guests) mid (parents_first view.own mid (parents_redo (is_older known) view.own) is.parents.lower) in
    let outs : List Reached = reached 0 mid abort.0 in
    let after : Ledger = record { table = table_guests (table_own view.table abort.0) (drop_lost known view.guests); nodes = view.nodes; known = known } in
    let out : List Packet = abort_packets view.site outs in
    let told = tells view out (with_ledger view after) in (
      told.0,
      out,
      with_ledger view after,
      (
        record {
          outs = outs;
          ledger = after;
          learns = record {
            known = known;
            known_is = refl;
            redoable = all_redoable (is_older known) view.own none.0;
            own = abort.0;
            aborts = abort.1;
            after = refl;
            reaches = refl;
          };
          after = refl;
          sends = refl;
        },
        told.1,
      ),
    )

-- a ready own child
abbrev pub AReady : List Entry → Type 0
AReady own = (k : ℕ) × (entry : Entry) × (slice_get own k ≡ Some entry) × (entry.status ≡ Ready)

-- no own child is ready
abbrev pub NoReady : List Entry → Type 0
NoReady own = (k : ℕ) (entry : Entry) → slice_get own k ≡ Some entry → entry.status ≢ Ready

pub some_ready : (own : List Entry) → AReady own ⊎ NoReady own
some_ready [] = inr (λ k entry at. absurd (none-some entry at))
some_ready (c ∷ cs) = by (is_ready c.status) refl (some_ready cs)
  where
    none : is_ready c.status ≡ false → NoReady cs → NoReady (c ∷ cs)
    none f n zero entry at e = true≢false (sym (ap is_ready (ap (λ x. x.status) (same_Some c entry at) ∙ e)) ∙ f)
    none f n (suc k) entry at e = n k entry at e

    by : (b : Bool) → is_ready c.status ≡ b → AReady cs ⊎ NoReady cs → AReady (c ∷ cs) ⊎ NoReady (c ∷ cs)
    by true t d = inl (0, c, refl, ready_status c.status t)
    by false f (inl r) = inl (suc r.0, r.1, r.2, r.3)
    by false f (inr n) = inr (none f n)

pub steal_acts : (view : View) (from : Site) → (out : List Packet) × (new : View) × (Denies view from out new ⊎ Gives view from out new)
steal_acts view from = by (is_older view.known from) refl (some_ready view.own)
  where
    by : (b : Bool) → is_older view.known from ≡ b → AReady view.own ⊎ NoReady view.own → (out : List Packet) × (new : View) × (Denies view from out new ⊎ Gives view from out new)
    by true older d = (answer_packet view from bodies.NoWork, view, inl (record { because = inl older; after = refl; sends = refl }))
    by false fresh (inr n) = (answer_packet view from bodies.NoWork, view, inl (record { because = inr n; after = refl; sends = refl }))
    by false fresh (inl r) =
        let after : Ledger = ledger_own view.ledger (change_at (with_status (Out from)) view.own r.0) in (
          answer_packet view from (bodies.Give r.0 r.1.attempt r.1.prefix),
          with_ledger view after,
          inr (record {
            body = bodies.Give r.0 r.1.attempt r.1.prefix;
            spelled = refl;
            ledger = after;
            gives = record {
              parent = r.1.parent;
              some = omega arith;
              most = omega arith;
              alone = λ e. refl;
              rising = refl;
              each = (after, record { entry = r.1; not_older = fresh; is = r.2; ready = r.3; attempt = refl; prefix = refl; after = refl }, refl, refl);
            };
            after = refl;
            sends = refl;
          }),
        )

give_acts : (problem : Problem) (view : View) (from : Site) (gifts : List Gift) → give_refusal problem view from gifts ≡ None
    → (reply : Reply) × (out : List Packet) × (new : View) × GiveStep problem view from gifts reply out new
give_acts problem view from gifts passes =
    by (is_older view.known from) (list_all (given.is_there from view.guests) gifts) refl refl
    (only_where (is_ignored view from gifts || list_all (is_lawful problem from view.guests) gifts) _ passes)
  where
    by : (older there : Bool) → is_older view.known from ≡ older → list_all (given.is_there from view.guests) gifts ≡ there
        → ((is_older view.known from || list_all (given.is_there from view.guests) gifts) || list_all (is_lawful problem from view.guests) gifts) ≡ true
        → (reply : Reply) × (out : List Packet) × (new : View) × GiveStep problem view from gifts reply out new
    by true there e f h = (Ignored, [], view, (inl e, (refl, refl)))
    by false true e f h = (Ignored, [], view, (inr f, (refl, refl)))
    by false false e f h =
        let after : Ledger = ledger_guests view.ledger (given.admit_each from gifts view.guests) in (
          Moved,
          [],
          with_ledger view after,
          record {
            ledger = after;
            admits = record { not_older = e; some_new = f; after = refl };
            lawful = sym (λ i. (e i || f i) || list_all (is_lawful problem from view.guests) gifts) ∙ h;
            after = refl;
            sends = refl;
          },
        )

return_acts : (problem : Problem) (view : View) (from : Site) (serial attempt : ℕ) (result : ChildResult) → HearActs problem view from (bodies.Return serial attempt result)
return_acts problem view from serial attempt result =
    let judgement = judged (slice_get view.own serial) from attempt in
    (Moved, answer_packet view from (reply_body serial attempt (reply_to result judgement)), with_ledger view (returned view.ledger serial result judgement), (refl, (judgement, refl, (refl, refl))))

accept_acts : (problem : Problem) (view : View) (from : Site) (serial attempt : ℕ) (result : ChildResult) → HearActs problem view from (bodies.Accept serial attempt result)
accept_acts problem view from serial attempt result = by (status_told is_finished (guest_in view.guests (record { site = from; serial = serial }) attempt))
  where
    name : ChildName
    name = record { site = from; serial = serial }

    by : HasStatus is_finished (guest_in view.guests name attempt) ⊎ ((entry : Entry) → guest_in view.guests name attempt ≡ Some entry → is_finished entry.status ≡ false)
        → HearActs problem view from (bodies.Accept serial attempt result)
    by (inl there) =
        let after : Ledger = ledger_gets view.ledger (Guest name attempt) (Settled result) in (
          Moved,
          [],
          with_ledger view after,
          record {
            ledger = after;
            settles = record { entry = there.0; is = there.1; finished = there.2; after = refl };
            after = refl;
            sends = refl;
          },
        )
    by (inr none) = (Ignored, [], view, (none, (refl, refl)))

-- a guest that may be dropped is, with all below
refuse_acts : (view : View) (name : ChildName) (attempt : ℕ) → IsNodeView view → (reply : Reply) × (out : List Packet) × (new : View) × RefuseStep view name attempt reply out new
refuse_acts view name attempt is = by (status_told is_open (guest_in view.guests name attempt))
  where
    by : HasStatus is_open (guest_in view.guests name attempt) ⊎ ((entry : Entry) → guest_in view.guests name attempt ≡ Some entry → is_open entry.status ≡ false)
        → (reply : Reply) × (out : List Packet) × (new : View) × RefuseStep view name attempt reply out new
    by (inl there) =
        let abort = an_abort (same_unit (Guest name attempt)) view.own is.parents.lower in
        let outs : List Reached = reached 0 view.own abort.0 in
        let after : Ledger = ledger_own (ledger_gets view.ledger (Guest name attempt) Dropped) abort.0 in (
          Moved,
          abort_packets view.site outs,
          with_ledger view after,
          record {
            outs = outs;
            ledger = after;
            drops = record { entry = there.0; is = there.1; open_still = there.2; own = abort.0; aborts = abort.1; after = refl; reaches = refl };
            after = refl;
            sends = refl;
          },
        )
    by (inr none) = (Ignored, [], view, (none, (refl, refl)))

-- a packet to a node is no Hello
no_hello : (view : View) (from to : Site) → 1 ≤ view.site.node → to ≡ view.site → is_routed (kind_of bodies.Hello) from to ≡ true → ⊥
no_hello view from to node here routed =
    let zero_there = eqb-true to.node 0 (and_parts (not (from.node == to.node)) (to.node == 0) routed).1 in
    omega (arith, node, zero_there, ap (λ s. s.node) here)

hear_acts : (problem : Problem) (view : View) (from to : Site) (body : Body) → IsNodeView view → to ≡ view.site → is_routed (kind_of body) from to ≡ true → hear_refusal problem view from body ≡ None → HearActs problem view from body
hear_acts problem view from to bodies.Hello is here routed passes = absurd (no_hello view from to is.node here routed)
hear_acts problem view from to (bodies.Members incarnations) is here routed passes = members_act problem view from incarnations is passes
hear_acts problem view from to bodies.Steal is here routed passes = let s = steal_acts view from in (Moved, s.0, s.1, (refl, s.2))
hear_acts problem view from to (bodies.Give serial attempt prefix) is here routed passes = give_acts problem view from (gifts_in (bodies.Give serial attempt prefix)) passes
hear_acts problem view from to (bodies.GiveMany prefix siblings) is here routed passes = give_acts problem view from (gifts_in (bodies.GiveMany prefix siblings)) passes
hear_acts problem view from to bodies.NoWork is here routed passes = (Ignored, [], view, (refl, (refl, refl)))
hear_acts problem view from to (bodies.Return serial attempt result) is here routed passes = return_acts problem view from serial attempt result
hear_acts problem view from to (bodies.Accept serial attempt result) is here routed passes = accept_acts problem view from serial attempt result
hear_acts problem view from to (bodies.Refuse serial attempt cause) is here routed passes = refuse_acts view (record { site = from; serial = serial }) attempt is
hear_acts problem view from to (bodies.Abort serial attempt) is here routed passes = refuse_acts view (record { site = from; serial = serial }) attempt is
hear_acts problem view from to bodies.Over is here routed passes = (Moved, [], over_now view, (refl, refl, refl))

-- ---- where a packet is told

-- A packet that is for this site, from a node that there is.
pub record IsDirected (view : View) (packet : Packet) : Type 0 where
  pub here : packet.to ≡ view.site
  pub there : packet.from.node ≤ view.nodes

pub directed : (view : View) (packet : Packet) → is_misdirected view packet ≡ false → IsDirected view packet
directed view packet is =
    let tests = or_parts (not (same_site packet.to view.site)) (is_beyond view packet.from.node) is in
    record {
      here = site_path packet.to view.site (not-false (same_site packet.to view.site) tests.0);
      there = ltb-false view.nodes packet.from.node tests.1;
    }

pub well_routed : (packet : Packet) → is_well_formed packet ≡ true → is_routed (kind_of packet.body) packet.from packet.to ≡ true
well_routed packet fit =
    let first = and_parts (is_site packet.from) (is_site packet.to && (is_routed (kind_of packet.body) packet.from packet.to && is_body packet.body)) fit in
    let second = and_parts (is_site packet.to) (is_routed (kind_of packet.body) packet.from packet.to && is_body packet.body) first.1 in
    (and_parts (is_routed (kind_of packet.body) packet.from packet.to) (is_body packet.body) second.1).0

deliver_acts : (problem : Problem) (view : View) (packet : Packet) → IsNodeView view → IsFit problem (Deliver packet) → is_misdirected view packet ≡ false → hear_refusal problem view packet.from packet.body ≡ None
    → EventActs problem view (Deliver packet)
deliver_acts problem view packet is fit straight passes =
    let d = directed view packet straight in
    let heard : HearActs problem view packet.from packet.body = hear_acts problem view packet.from packet.to packet.body is d.here (well_routed packet fit) passes in
    (heard.0, heard.1, heard.2, (d.here, d.there, heard.3))

-- ---- all events

stepped : (problem : Problem) (view : View) (event : Event) → view.over ≡ false → EventActs problem view event → NodeActs problem view event
stepped problem view event over acts = record { reply = acts.0; out = acts.1; new = acts.2; step = (over, acts.3) }

pub node_acts : (problem : Problem) (view : View) (event : Event) → IsNodeView view → IsFit problem event → node_refusal problem view event ≡ None → NodeActs problem view event
node_acts problem view Take is fit passes = stepped problem view Take (unless view.over _ _ passes).0 (take_acts problem view is.ascending)
node_acts problem view (Post job finding) is fit passes =
    let here = unless view.over faults.Over (post_refusal problem view job finding) passes in
    stepped problem view (Post job finding) here.0 (post_acts problem view job finding fit here.1)
node_acts problem view (Finish unit) is fit passes =
    let here = unless view.over faults.Over (finish_refusal view unit) passes in
    stepped problem view (Finish unit) here.0 (finish_acts problem view unit is here.1)
node_acts problem view (Ask victim) is fit passes =
    let here = unless view.over faults.Over (ask_refusal view victim) passes in
    stepped problem view (Ask victim) here.0 (ask_acts problem view victim here.1)
node_acts problem view (Redo serial) is fit passes =
    let here = unless view.over faults.Over (redo_refusal view serial) passes in
    stepped problem view (Redo serial) here.0 (Moved, [], _, (refl, redo_step view serial here.1))
node_acts problem view (Deliver packet) is fit passes =
    let straight = unless (is_misdirected view packet) _ _ passes in
    let here = unless view.over faults.Over (hear_refusal problem view packet.from packet.body) straight.1 in
    stepped problem view (Deliver packet) here.0 (deliver_acts problem view packet is fit straight.0 here.1)
node_acts problem view Again is fit passes =
    let out : List Packet = gives_again view.site 0 view.own ++ returns_again view.site view.guests in
    stepped problem view Again (unless view.over _ _ passes).0 (moved_by out, out, view, (refl, refl, refl))
node_acts problem view Greet is fit passes =
    stepped problem view Greet (unless view.over _ _ passes).0 (Moved, record { from = view.site; to = registry; body = bodies.Hello } ∷ [], view, (refl, refl, refl))
