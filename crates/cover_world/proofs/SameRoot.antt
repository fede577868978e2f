-- A step of the registry is determined by its view and the event, but for a Steal.
use Rattle.std.proofs.Common.{◌≡◌, ℕ, false, List, drop, sym, ap, subst, ◌∙◌, true≢false}
use Rattle.cover_problem.specs.Problem.{Problem}
use Rattle.cover_world.proofs.Changes.{after_redo}
use Rattle.cover_world.proofs.Same.{answers_same}
use Rattle.cover_world.specs.Determined.{SameStep, asks_for_work, may_choose}
use Rattle.node_core.specs.Requests.{moved_by}
use Rattle.node_core.specs.SiteView.{View, with_ledger}
use Rattle.node_core.specs.declared.event.Event.{Event}
use Rattle.node_core.specs.declared.event.Event.TheVariants.{Again, Ask, Deliver, Finish, Greet, Post, Redo, Take}
use Rattle.node_core.specs.declared.reply.Reply.{Reply}
use Rattle.packet_wire.specs.declared.packet.Body.{Body}
use Rattle.packet_wire.specs.declared.packet.Body.TheVariants.{Abort, Accept, Give, GiveMany, Hello, Members, NoWork, Over, Refuse, Return, Steal}
use Rattle.packet_wire.specs.declared.packet.Packet.{Packet}
use Rattle.root_registry.specs.RegistryStep.{HelloStep, RegistryStep, RootAnswers, RootHears, is_earlier_incarnation, to_each}
use Rattle.spawn_frame.specs.Units.{table_own}
use Rattle.spawn_frame.specs.declared.child_result.ChildResult.{ChildResult}
use Rattle.spawn_frame.specs.declared.site.Site.{Site}
use Rattle.steal_return.specs.Members.{redo_lost}
use Rattle.steal_return.specs.Returns.{Enters, Holds, Judgement, Refuses}

abbrev pub after_hello : View → Site → List ℕ → View
after_hello old from known = with_ledger old (record {
  table = table_own old.table (redo_lost (is_earlier_incarnation from.node known) old.own);
  nodes = old.nodes;
  known = known;
})

pub hello_same : (old : View) (from : Site) (p q : List Packet) (v w : View) → HelloStep old from p v → HelloStep old from q w → (p ≡ q) × (v ≡ w)
hello_same old from p q v w h k =
    let known : h.known ≡ k.known = h.known_is ∙ sym k.known_is in
    (h.sends ∙ ap (λ n. to_each old.site (Members (drop 1 n)) 1 (drop 1 n)) known ∙ sym k.sends, h.after ∙ ap (after_hello old from) known ∙ sym k.after)

pub root_answers_same : (problem : Problem) (old : View) (from : Site) (serial attempt : ℕ) (result : ChildResult) (judgement : Judgement) (p q : List Packet) (v w : View)
    → RootAnswers problem old from serial attempt result judgement p v → RootAnswers problem old from serial attempt result judgement q w → (p ≡ q) × (v ≡ w)
root_answers_same problem old from serial attempt result Enters p q v w h k = (h.2 ∙ sym k.2, h.1 ∙ sym k.1)
root_answers_same problem old from serial attempt result (Holds held) p q v w h k = answers_same old from serial attempt result (Holds held) p q v w h k
root_answers_same problem old from serial attempt result (Refuses cause) p q v w h k = answers_same old from serial attempt result (Refuses cause) p q v w h k

pub root_hear_same : (problem : Problem) (old : View) (from : Site) (body : Body) (r s : Reply) (p q : List Packet) (v w : View) → asks_for_work body ≡ false
    → RootHears problem old from body r p v → RootHears problem old from body s q w → SameStep r s p q v w
root_hear_same problem old from Hello r s p q v w other h k =
    let same = hello_same old from p q v w h.1 k.1 in
    (h.0 ∙ sym k.0, same.0, same.1)
root_hear_same problem old from Steal r s p q v w other h k = absurd (true≢false other)
root_hear_same problem old from (Return serial attempt result) r s p q v w other h k =
    let judgement : h.1.0 ≡ k.1.0 = sym h.1.1 ∙ k.1.1 in
    let same = root_answers_same problem old from serial attempt result k.1.0 p q v w (subst (λ j. RootAnswers problem old from serial attempt result j p v) judgement h.1.2) k.1.2 in
    (h.0 ∙ sym k.0, same.0, same.1)
root_hear_same problem old from (Members incarnations) r s p q v w other h k = absurd h
root_hear_same problem old from (Give serial attempt prefix) r s p q v w other h k = absurd h
root_hear_same problem old from (GiveMany prefix siblings) r s p q v w other h k = absurd h
root_hear_same problem old from NoWork r s p q v w other h k = absurd h
root_hear_same problem old from (Accept serial attempt result) r s p q v w other h k = absurd h
root_hear_same problem old from (Refuse serial attempt cause) r s p q v w other h k = absurd h
root_hear_same problem old from (Abort serial attempt) r s p q v w other h k = absurd h
root_hear_same problem old from Over r s p q v w other h k = absurd h

pub registry_same : (problem : Problem) (old : View) (event : Event) (r s : Reply) (p q : List Packet) (v w : View) → may_choose event ≡ false
    → RegistryStep problem old event r p v → RegistryStep problem old event s q w → SameStep r s p q v w
registry_same problem old (Redo serial) r s p q v w other h k =
    (h.0 ∙ sym k.0, h.1.sends ∙ sym k.1.sends, after_redo old serial p v h.1 ∙ sym (after_redo old serial q w k.1))
registry_same problem old (Deliver packet) r s p q v w other h k = root_hear_same problem old packet.from packet.body r s p q v w other h.2 k.2
registry_same problem old Again r s p q v w other h k = (h.2 ∙ ap moved_by (h.0 ∙ sym k.0) ∙ sym k.2, h.0 ∙ sym k.0, h.1 ∙ sym k.1)
registry_same problem old Take r s p q v w other h k = absurd h
registry_same problem old (Post job finding) r s p q v w other h k = absurd h
registry_same problem old (Finish unit) r s p q v w other h k = absurd h
registry_same problem old (Ask victim) r s p q v w other h k = absurd h
registry_same problem old Greet r s p q v w other h k = absurd h
