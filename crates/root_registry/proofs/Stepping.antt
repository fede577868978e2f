-- Where the registry has a step of an event, nothing refuses it.
use Rattle.std.proofs.Common.{◌≡◌, ℕ, false, cond, List, None, Some, refl, ap, subst, ◌∙◌}
use Rattle.std.proofs.lemmas.Bool.{cond-false}
use Rattle.cover_problem.specs.Problem.{Problem}
use Rattle.node_core.proofs.Spending.{none_spent}
use Rattle.node_core.proofs.Stepping.{redo_passes, well_directed}
use Rattle.node_core.specs.Refusal.{any_spent, is_misdirected}
use Rattle.node_core.specs.SiteView.{View}
use Rattle.node_core.specs.declared.act_fault.ActFault.TheVariants as faults
use Rattle.node_core.specs.declared.event.Event.{Event}
use Rattle.node_core.specs.declared.event.Event.TheVariants.{Again, Ask, Deliver, Finish, Greet, Post, Redo, Take}
use Rattle.node_core.specs.declared.reply.Reply.{Reply}
use Rattle.packet_wire.specs.declared.packet.Body.{Body}
use Rattle.packet_wire.specs.declared.packet.Body.TheVariants.{Abort, Accept, Give, GiveMany, Hello, Members, NoWork, Over, Refuse, Return, Steal}
use Rattle.packet_wire.specs.declared.packet.Packet.{Packet}
use Rattle.root_registry.proofs.Acceptable.{acceptable_passes}
use Rattle.root_registry.specs.Refusal.{hello_refusal, registry_refusal, return_refusal, root_hear_refusal}
use Rattle.root_registry.specs.RegistryStep.{HelloStep, RegistryStep, RootAnswers, RootHears, is_earlier_incarnation}
use Rattle.spawn_frame.specs.declared.child_result.ChildResult.{ChildResult}
use Rattle.spawn_frame.specs.declared.site.Site.{Site}
use Rattle.steal_return.specs.Returns.{Enters, Holds, Judgement, Refuses}

hello_passes : (view : View) (from : Site) (out : List Packet) (new : View) → HelloStep view from out new → hello_refusal view from ≡ None
hello_passes view from out new h =
    ap (λ b. cond b (Some faults.NamesSpent) None)
    (subst (λ known. any_spent (is_earlier_incarnation from.node known) view.own ≡ false) h.known_is (none_spent (is_earlier_incarnation from.node h.known) view.own h.redoable))

answers_pass : (problem : Problem) (view : View) (from : Site) (serial attempt : ℕ) (result : ChildResult) (judgement : Judgement) (out : List Packet) (new : View)
    → RootAnswers problem view from serial attempt result judgement out new → return_refusal problem result judgement ≡ None
answers_pass problem view from serial attempt result Enters out new h = ap (λ b. cond b None (Some faults.BadCover)) (acceptable_passes problem result h.0)
answers_pass problem view from serial attempt result (Holds held) out new h = refl
answers_pass problem view from serial attempt result (Refuses cause) out new h = refl

hear_passes : (problem : Problem) (view : View) (from : Site) (body : Body) (reply : Reply) (out : List Packet) (new : View) → RootHears problem view from body reply out new → root_hear_refusal problem view from body ≡ None
hear_passes problem view from Hello reply out new h = hello_passes view from out new h.1
hear_passes problem view from Steal reply out new h = refl
hear_passes problem view from (Return serial attempt result) reply out new h =
    ap (return_refusal problem result) h.1.1 ∙ answers_pass problem view from serial attempt result h.1.0 out new h.1.2
hear_passes problem view from (Members incarnations) reply out new h = refl
hear_passes problem view from (Give serial attempt prefix) reply out new h = refl
hear_passes problem view from (GiveMany prefix siblings) reply out new h = refl
hear_passes problem view from NoWork reply out new h = refl
hear_passes problem view from (Accept serial attempt result) reply out new h = refl
hear_passes problem view from (Refuse serial attempt cause) reply out new h = refl
hear_passes problem view from (Abort serial attempt) reply out new h = refl
hear_passes problem view from Over reply out new h = refl

pub step_passes : (problem : Problem) (view : View) (event : Event) (reply : Reply) (out : List Packet) (new : View) → RegistryStep problem view event reply out new → registry_refusal problem view event ≡ None
step_passes problem view (Redo serial) reply out new h = redo_passes view serial out new h.1
step_passes problem view (Deliver packet) reply out new h =
    cond-false (is_misdirected view packet) _ _ (well_directed view packet h.0 h.1)
    ∙ hear_passes problem view packet.from packet.body reply out new h.2
step_passes problem view Again reply out new h = refl
step_passes problem view Take reply out new h = absurd h
step_passes problem view (Post job finding) reply out new h = absurd h
step_passes problem view (Finish unit) reply out new h = absurd h
step_passes problem view (Ask victim) reply out new h = absurd h
step_passes problem view Greet reply out new h = absurd h
