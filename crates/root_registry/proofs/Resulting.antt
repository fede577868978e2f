-- What a step of the registry makes of the root's result.
use Rattle.std.proofs.Common.{◌≡◌, ℕ, zero, suc, Bool, true, false, cond, List, [], ◌∷◌, map, Option, Some, None, slice_get, refl, sym, ap, ◌∙◌, inl, inr}
use Rattle.std.proofs.lemmas.Option.{same_Some, none-some}
use Rattle.cover_problem.specs.Problem.{Problem}
use Rattle.node_core.specs.Requests.{RedoStep}
use Rattle.node_core.specs.SiteView.{View, with_ledger}
use Rattle.node_core.specs.declared.event.Event.{Event}
use Rattle.node_core.specs.declared.event.Event.TheVariants.{Again, Ask, Deliver, Finish, Greet, Post, Redo, Take}
use Rattle.node_core.specs.declared.reply.Reply.{Reply}
use Rattle.packet_wire.specs.Gifts.{gifts_in}
use Rattle.packet_wire.specs.declared.packet.Body.{Body}
use Rattle.packet_wire.specs.declared.packet.Body.TheVariants as bodies
use Rattle.packet_wire.specs.declared.packet.Packet.{Packet}
use Rattle.root_registry.specs.Formed.{IsFormedRegistry, origin}
use Rattle.root_registry.specs.Published.{entering, entering_with, if_enters}
use Rattle.root_registry.specs.RegistryStep.{RegistryStep, RootAnswers, RootHears, RootSteal, entry_result, root_result, status_result}
use Rattle.spawn_frame.specs.Units.{Entry, change_at, redone, with_status}
use Rattle.spawn_frame.specs.declared.child_result.ChildResult.{ChildResult}
use Rattle.spawn_frame.specs.declared.site.Site.{Site}
use Rattle.spawn_frame.specs.declared.status.Status.{Status}
use Rattle.spawn_frame.specs.declared.status.Status.TheVariants.{Done, Out, Ready}
use Rattle.steal_return.proofs.Gifts.{gives_keep}
use Rattle.steal_return.specs.Members.{redo_if}
use Rattle.steal_return.specs.Returns.{Enters, Holds, Judgement, Refuses, judged}

-- ---- a child that changes without a result

changed : (f : Entry → Entry) (own : List Entry) (serial : ℕ)
    → ((c : Entry) → slice_get own serial ≡ Some c → status_result (f c).status ≡ status_result c.status)
    → entry_result (slice_get (change_at f own serial) 0) ≡ entry_result (slice_get own 0)
changed f [] serial same = refl
changed f (c ∷ cs) zero same = same c refl
changed f (c ∷ cs) (suc k) same = refl

-- a child that had none, and has none
no_result : (f : Entry → Entry) (own : List Entry) (serial : ℕ) (entry : Entry) → slice_get own serial ≡ Some entry
    → status_result entry.status ≡ None → ((c : Entry) → status_result (f c).status ≡ None)
    → entry_result (slice_get (change_at f own serial) 0) ≡ entry_result (slice_get own 0)
no_result f own serial entry is before after =
    changed f own serial (λ c there. after c ∙ sym (ap (λ (e : Entry). status_result e.status) (same_Some c entry (sym there ∙ is)) ∙ before))

mapped : (f : Entry → Entry) (own : List Entry) → ((c : Entry) → status_result (f c).status ≡ status_result c.status)
    → entry_result (slice_get (map f own) 0) ≡ entry_result (slice_get own 0)
mapped f [] same = refl
mapped f (c ∷ cs) same = same c

redo_by : (b : Bool) (c : Entry) → status_result c.status ≡ None → status_result (cond b (redone c) c).status ≡ status_result c.status
redo_by true c none = sym none
redo_by false c none = refl

redo_result : (lost : Site → Bool) (c : Entry) (s : Status) → s ≡ c.status → status_result (redo_if lost c s).status ≡ status_result c.status
redo_result lost c (Out thief) is = redo_by (lost thief) c (ap status_result (sym is))
redo_result lost c Ready is = refl
redo_result lost c _ is = refl

-- ---- where nothing enters

result_as : (old mid new : View) → new ≡ mid → root_result mid ≡ root_result old → root_result new ≡ root_result old
result_as old mid new is same = ap root_result is ∙ same

redo_leaves : (old : View) (serial : ℕ) (out : List Packet) (new : View) → RedoStep old serial out new → root_result new ≡ root_result old
redo_leaves old serial out new h =
    result_as old _ new (h.after ∙ ap (with_ledger old) h.redoes.after)
    (no_result redone old.own serial h.entry h.is (ap status_result h.out_there) (λ c. refl))

steal_leaves : (result : Option ChildResult) (old : View) (from : Site) (out : List Packet) (new : View) → RootSteal result old from out new → root_result new ≡ root_result old
steal_leaves (Some result) old from out new h = ap root_result h.0
steal_leaves None old from out new (inl d) = ap root_result d.after
steal_leaves None old from out new (inr g) =
    result_as old (with_ledger old g.ledger) new g.after
    (gives_keep (λ l. root_result (with_ledger old l) ≡ root_result old) from
    (λ l serial entry is ready q. no_result (with_status (Out from)) l.own serial entry is (ap status_result ready) (λ c. refl) ∙ q)
    g.parent (gifts_in g.body) old.ledger g.ledger g.each refl)

module _ (problem : Problem) where
  answer_leaves : (old : View) (from : Site) (serial attempt : ℕ) (result : ChildResult) (j : Judgement) (out : List Packet) (new : View)
      → RootAnswers problem old from serial attempt result j out new → if_enters result j ≡ None → root_result new ≡ root_result old
  answer_leaves old from serial attempt result Enters out new a none = absurd (none-some result (sym none))
  answer_leaves old from serial attempt result (Holds held) out new a none = ap root_result a.0
  answer_leaves old from serial attempt result (Refuses cause) out new a none = ap root_result a.0

  hear_leaves : (old : View) (from : Site) (body : Body) (reply : Reply) (out : List Packet) (new : View)
      → RootHears problem old from body reply out new → entering_with old from body ≡ None → root_result new ≡ root_result old
  hear_leaves old from bodies.Hello reply out new h none =
      result_as old _ new h.1.after (mapped _ old.own (λ c. redo_result _ c c.status refl))
  hear_leaves old from bodies.Steal reply out new h none = steal_leaves (root_result old) old from out new h.1
  hear_leaves old from (bodies.Return serial attempt result) reply out new h none =
      answer_leaves old from serial attempt result h.1.0 out new h.1.2 (ap (if_enters result) (sym h.1.1) ∙ none)
  hear_leaves old from (bodies.Members incarnations) reply out new h none = absurd h
  hear_leaves old from (bodies.Give serial attempt prefix) reply out new h none = absurd h
  hear_leaves old from (bodies.GiveMany prefix siblings) reply out new h none = absurd h
  hear_leaves old from bodies.NoWork reply out new h none = absurd h
  hear_leaves old from (bodies.Accept serial attempt result) reply out new h none = absurd h
  hear_leaves old from (bodies.Refuse serial attempt cause) reply out new h none = absurd h
  hear_leaves old from (bodies.Abort serial attempt) reply out new h none = absurd h
  hear_leaves old from bodies.Over reply out new h none = absurd h

  pub event_leaves : (old new : View) (event : Event) (reply : Reply) (out : List Packet)
      → RegistryStep problem old event reply out new → entering old event ≡ None → root_result new ≡ root_result old
  event_leaves old new (Redo serial) reply out h none = redo_leaves old serial out new h.1
  event_leaves old new (Deliver packet) reply out h none = hear_leaves old packet.from packet.body reply out new h.2 none
  event_leaves old new Again reply out h none = ap root_result h.1
  event_leaves old new Take reply out h none = absurd h
  event_leaves old new (Post job finding) reply out h none = absurd h
  event_leaves old new (Finish unit) reply out h none = absurd h
  event_leaves old new (Ask victim) reply out h none = absurd h
  event_leaves old new Greet reply out h none = absurd h

  -- ---- where a result enters

  -- a child that is there is the root
  entered_root : (own : List Entry) (from : Site) (serial attempt : ℕ) (result : ChildResult) → map origin own ≡ (None, []) ∷ []
      → judged (slice_get own serial) from attempt ≡ Enters
      → entry_result (slice_get (change_at (with_status (Done result)) own serial) 0) ≡ Some result
  entered_root [] from serial attempt result root enters = absurd (cc)
  entered_root (c ∷ cs) from zero attempt result root enters = refl
  entered_root (c ∷ []) from (suc k) attempt result root enters = absurd (cc)
  entered_root (c ∷ d ∷ cs) from (suc k) attempt result root enters = absurd (cc)

  answer_enters : (old : View) (from : Site) (serial attempt : ℕ) (result entered : ChildResult) (j : Judgement) (out : List Packet) (new : View)
      → map origin old.own ≡ (None, []) ∷ [] → judged (slice_get old.own serial) from attempt ≡ j
      → RootAnswers problem old from serial attempt result j out new → if_enters result j ≡ Some entered → root_result new ≡ Some entered
  answer_enters old from serial attempt result entered Enters out new root is a some =
      ap root_result a.1 ∙ entered_root old.own from serial attempt result root is ∙ some
  answer_enters old from serial attempt result entered (Holds held) out new root is a some = absurd (none-some entered some)
  answer_enters old from serial attempt result entered (Refuses cause) out new root is a some = absurd (none-some entered some)

  hear_enters : (old : View) (from : Site) (body : Body) (reply : Reply) (out : List Packet) (new : View) (entered : ChildResult)
      → map origin old.own ≡ (None, []) ∷ [] → RootHears problem old from body reply out new → entering_with old from body ≡ Some entered → root_result new ≡ Some entered
  hear_enters old from (bodies.Return serial attempt result) reply out new entered root h some =
      answer_enters old from serial attempt result entered h.1.0 out new root h.1.1 h.1.2 (ap (if_enters result) (sym h.1.1) ∙ some)
  hear_enters old from bodies.Hello reply out new entered root h some = absurd (none-some entered some)
  hear_enters old from bodies.Steal reply out new entered root h some = absurd (none-some entered some)
  hear_enters old from (bodies.Members incarnations) reply out new entered root h some = absurd h
  hear_enters old from (bodies.Give serial attempt prefix) reply out new entered root h some = absurd h
  hear_enters old from (bodies.GiveMany prefix siblings) reply out new entered root h some = absurd h
  hear_enters old from bodies.NoWork reply out new entered root h some = absurd h
  hear_enters old from (bodies.Accept serial attempt result) reply out new entered root h some = absurd h
  hear_enters old from (bodies.Refuse serial attempt cause) reply out new entered root h some = absurd h
  hear_enters old from (bodies.Abort serial attempt) reply out new entered root h some = absurd h
  hear_enters old from bodies.Over reply out new entered root h some = absurd h

  pub event_enters : (old new : View) (event : Event) (reply : Reply) (out : List Packet) (entered : ChildResult)
      → IsFormedRegistry problem old → RegistryStep problem old event reply out new → entering old event ≡ Some entered → root_result new ≡ Some entered
  event_enters old new (Deliver packet) reply out entered is h some = hear_enters old packet.from packet.body reply out new entered is.root h.2 some
  event_enters old new (Redo serial) reply out entered is h some = absurd (none-some entered some)
  event_enters old new Again reply out entered is h some = absurd (none-some entered some)
  event_enters old new Take reply out entered is h some = absurd h
  event_enters old new (Post job finding) reply out entered is h some = absurd h
  event_enters old new (Finish unit) reply out entered is h some = absurd h
  event_enters old new (Ask victim) reply out entered is h some = absurd h
  event_enters old new Greet reply out entered is h some = absurd h
