-- Where nothing refuses an event, the registry has a step of it.
use Rattle.std.proofs.Common.{◌≡◌, ℕ, true, ◌&&◌, not, List, [], ◌++◌, drop, Option, Some, None, slice_get, refl, sym, ap, ◌∙◌, true≢false}
use Rattle.std.specs.Prelude.{◌==◌}
use Rattle.std.proofs.lemmas.Bool.{and_parts, eqb-true}
use Rattle.std.proofs.lemmas.Option.{none-some}
use Rattle.cover_problem.specs.Problem.{IsProblem, Problem}
use Rattle.node_core.proofs.Acting.{directed, only_where, redo_step, steal_acts, unless, well_routed}
use Rattle.node_core.proofs.Spending.{all_redoable}
use Rattle.node_core.specs.Arrivals.{answer_packet, reply_body}
use Rattle.node_core.specs.Refusal.{IsFit, any_spent, is_misdirected}
use Rattle.node_core.specs.Requests.{gives_again, moved_by}
use Rattle.node_core.specs.SiteView.{View, with_ledger}
use Rattle.node_core.specs.declared.act_fault.ActFault.TheVariants as faults
use Rattle.node_core.specs.declared.event.Event.{Event}
use Rattle.node_core.specs.declared.event.Event.TheVariants.{Again, Ask, Deliver, Finish, Greet, Post, Redo, Take}
use Rattle.node_core.specs.declared.reply.Reply.{Reply}
use Rattle.node_core.specs.declared.reply.Reply.TheVariants.{Moved}
use Rattle.packet_wire.specs.Kinds.{is_routed, kind_of}
use Rattle.packet_wire.specs.declared.packet.Body.{Body}
use Rattle.packet_wire.specs.declared.packet.Body.TheVariants as bodies
use Rattle.packet_wire.specs.declared.packet.Packet.{Packet}
use Rattle.root_registry.proofs.Acceptable.{passing_is_acceptable}
use Rattle.root_registry.specs.Refusal.{IsRegistryView, RegistryActs, hello_refusal, is_acceptable, registry_refusal, return_refusal, root_hear_refusal}
use Rattle.root_registry.specs.RegistryStep.{RootAnswers, RootHears, RootSteal, if_done, is_earlier_incarnation, over_packets, raised, root_result, to_each}
use Rattle.spawn_frame.specs.Units.{table_own}
use Rattle.spawn_frame.specs.declared.child_result.ChildResult.{ChildResult}
use Rattle.spawn_frame.specs.declared.site.Site.{Site}
use Rattle.steal_return.specs.Members.{redo_lost}
use Rattle.steal_return.specs.Returns.{Enters, Holds, Judgement, Refuses, judged, reply_to, returned}

-- there is a step of a packet
abbrev pub HearActs : Problem → View → Site → Body → Type 0
HearActs problem view from body = (reply : Reply) × (out : List Packet) × (new : View) × RootHears problem view from body reply out new

hello_acts : (problem : Problem) (view : View) (from : Site) → hello_refusal view from ≡ None → HearActs problem view from bodies.Hello
hello_acts problem view from passes =
    let known : List ℕ = raised view.known from.node from.incarnation in
    let none = unless (any_spent (is_earlier_incarnation from.node known) view.own) _ _ passes in (
      Moved,
      to_each view.site (bodies.Members (drop 1 known)) 1 (drop 1 known),
      with_ledger view (record {
        table = table_own view.table (redo_lost (is_earlier_incarnation from.node known) view.own);
        nodes = view.nodes;
        known = known;
      }),
      (
        refl,
        record {
          known = known;
          known_is = refl;
          redoable = all_redoable (is_earlier_incarnation from.node known) view.own none.0;
          after = refl;
          sends = refl;
        },
      ),
    )

-- a Steal is answered, be the root done or not
abbrev pub StealActs : Option ChildResult → View → Site → Type 0
StealActs result view from = (out : List Packet) × (new : View) × RootSteal result view from out new

steal_by : (result : Option ChildResult) (view : View) (from : Site) → StealActs result view from
steal_by (Some result) view from = (answer_packet view from bodies.Over, view, (refl, refl))
steal_by None view from = steal_acts view from

-- a result is answered as it is judged
abbrev pub AnswerActs : Problem → View → Site → ℕ → ℕ → ChildResult → Judgement → Type 0
AnswerActs problem view from serial attempt result judgement = (out : List Packet) × (new : View) × RootAnswers problem view from serial attempt result judgement out new

answer_by : (problem : Problem) (view : View) (from : Site) (serial attempt : ℕ) (result : ChildResult) (judgement : Judgement) → IsProblem problem → return_refusal problem result judgement ≡ None
    → AnswerActs problem view from serial attempt result judgement
answer_by problem view from serial attempt result Enters is passes = (
  answer_packet view from (bodies.Accept serial attempt result) ++ over_packets view,
  with_ledger view (returned view.ledger serial result Enters),
  (passing_is_acceptable problem result is (only_where (is_acceptable problem result) _ passes), refl, refl),
)
answer_by problem view from serial attempt result (Holds held) is passes =
    (answer_packet view from (reply_body serial attempt (reply_to result (Holds held))), with_ledger view (returned view.ledger serial result (Holds held)), (refl, refl))
answer_by problem view from serial attempt result (Refuses cause) is passes =
    (answer_packet view from (reply_body serial attempt (reply_to result (Refuses cause))), with_ledger view (returned view.ledger serial result (Refuses cause)), (refl, refl))

return_acts : (problem : Problem) (view : View) (from : Site) (serial attempt : ℕ) (result : ChildResult) → IsProblem problem
    → return_refusal problem result (judged (slice_get view.own serial) from attempt) ≡ None → HearActs problem view from (bodies.Return serial attempt result)
return_acts problem view from serial attempt result is passes =
    let judgement : Judgement = judged (slice_get view.own serial) from attempt in
    let answer : AnswerActs problem view from serial attempt result judgement = answer_by problem view from serial attempt result judgement is passes in
    (Moved, answer.0, answer.1, (refl, (judgement, refl, answer.2)))

-- a packet that goes to nodes is not for the registry, nor one that comes from it
pub not_to_node : (view : View) (from to : Site) → IsRegistryView view → to ≡ view.site → (not (from.node == to.node) && not (to.node == 0)) ≡ true → ⊥
not_to_node view from to is here routed =
    true≢false (sym (and_parts (not (from.node == to.node)) (not (to.node == 0)) routed).1 ∙ ap (λ n. not (n == 0)) (ap (λ s. s.node) here ∙ is))

-- nor is one that goes from a node to a node
pub not_between : (view : View) (from to : Site) → IsRegistryView view → to ≡ view.site → (not (from.node == to.node) && (not (from.node == 0) && not (to.node == 0))) ≡ true → ⊥
not_between view from to is here routed =
    let parts = and_parts (not (from.node == to.node)) (not (from.node == 0) && not (to.node == 0)) routed in
    true≢false (sym (and_parts (not (from.node == 0)) (not (to.node == 0)) parts.1).1 ∙ ap (λ n. not (n == 0)) (ap (λ s. s.node) here ∙ is))

pub not_from_it : (view : View) (from to : Site) → IsRegistryView view → to ≡ view.site → (not (from.node == to.node) && (from.node == 0)) ≡ true → ⊥
not_from_it view from to is here routed =
    let parts = and_parts (not (from.node == to.node)) (from.node == 0) routed in
    let zero_there : from.node ≡ 0 = eqb-true from.node 0 parts.1 in
    true≢false (sym parts.0 ∙ (λ i. not (zero_there i == (ap (λ s. s.node) here ∙ is) i)))

hear_acts : (problem : Problem) (view : View) (from to : Site) (body : Body) → IsProblem problem → IsRegistryView view → to ≡ view.site → is_routed (kind_of body) from to ≡ true → root_hear_refusal problem view from body ≡ None
    → HearActs problem view from body
hear_acts problem view from to bodies.Hello p is here routed passes = hello_acts problem view from passes
hear_acts problem view from to bodies.Steal p is here routed passes = let s = steal_by (root_result view) view from in (Moved, s.0, s.1, (refl, s.2))
hear_acts problem view from to (bodies.Return serial attempt result) p is here routed passes = return_acts problem view from serial attempt result p passes
hear_acts problem view from to (bodies.Members incarnations) p is here routed passes = absurd (not_from_it view from to is here routed)
hear_acts problem view from to (bodies.Give serial attempt prefix) p is here routed passes = absurd (not_to_node view from to is here routed)
hear_acts problem view from to (bodies.GiveMany prefix siblings) p is here routed passes = absurd (not_between view from to is here routed)
hear_acts problem view from to bodies.NoWork p is here routed passes = absurd (not_to_node view from to is here routed)
hear_acts problem view from to (bodies.Accept serial attempt result) p is here routed passes = absurd (not_to_node view from to is here routed)
hear_acts problem view from to (bodies.Refuse serial attempt cause) p is here routed passes = absurd (not_to_node view from to is here routed)
hear_acts problem view from to (bodies.Abort serial attempt) p is here routed passes = absurd (not_to_node view from to is here routed)
hear_acts problem view from to bodies.Over p is here routed passes = absurd (not_from_it view from to is here routed)

pub registry_acts : (problem : Problem) (view : View) (event : Event) → IsProblem problem → IsRegistryView view → IsFit problem event → registry_refusal problem view event ≡ None → RegistryActs problem view event
registry_acts problem view (Redo serial) p is fit passes = record { reply = Moved; out = []; new = _; step = (refl, redo_step view serial passes) }
registry_acts problem view (Deliver packet) p is fit passes =
    let straight = unless (is_misdirected view packet) _ _ passes in
    let d = directed view packet straight.0 in
    let heard : HearActs problem view packet.from packet.body = hear_acts problem view packet.from packet.to packet.body p is d.here (well_routed packet fit) straight.1 in
    record { reply = heard.0; out = heard.1; new = heard.2; step = (d.here, d.there, heard.3) }
registry_acts problem view Again p is fit passes =
    let out : List Packet = gives_again view.site 0 view.own ++ if_done (root_result view) (over_packets view) in
    record { reply = moved_by out; out = out; new = view; step = (refl, refl, refl) }
registry_acts problem view Take p is fit passes = absurd (none-some faults.OtherSite (sym passes))
registry_acts problem view (Post job finding) p is fit passes = absurd (none-some faults.OtherSite (sym passes))
registry_acts problem view (Finish unit) p is fit passes = absurd (none-some faults.OtherSite (sym passes))
registry_acts problem view (Ask victim) p is fit passes = absurd (none-some faults.OtherSite (sym passes))
registry_acts problem view Greet p is fit passes = absurd (none-some faults.OtherSite (sym passes))
