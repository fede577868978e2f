-- Children at their last attempt, which are never redone.
use Rattle.std.proofs.Common.{◌≡◌, ◌≢◌, ℕ, zero, suc, ◌<◌, Bool, true, List, [], ◌∷◌, Some, slice_get, refl, sym, ap, subst, ◌∙◌, arith}
use Rattle.std.proofs.lemmas.Option.{none-some, same_Some}
use Rattle.cover_problem.specs.Problem.{Problem}
use Rattle.cover_world.specs.Refusals.{IsLastOut}
use Rattle.node_core.specs.NodeStep.{HearStep, NodeStep}
use Rattle.node_core.specs.SiteView.{View}
use Rattle.node_core.specs.declared.event.Event.TheVariants.{Deliver}
use Rattle.node_core.specs.declared.reply.Reply.{Reply}
use Rattle.packet_wire.specs.declared.packet.Body.TheVariants.{Hello, Members}
use Rattle.packet_wire.specs.declared.packet.Packet.{Packet}
use Rattle.root_registry.specs.RegistryStep.{RegistryStep, RootHears, is_earlier_incarnation, raised}
use Rattle.spawn_frame.specs.Units.{Entry, last_attempt}
use Rattle.spawn_frame.specs.declared.site.Site.{Site}
use Rattle.steal_return.specs.Members.{IsRedoable, now_known}
use Rattle.steal_return.specs.Steals.{is_older}

pub not_last : (view : View) (serial : ℕ) (thief : Site) (entry : Entry) → IsLastOut view serial thief → slice_get view.own serial ≡ Some entry → entry.attempt < last_attempt → ⊥
not_last view serial thief entry last is less =
    omega (arith, last.last, subst (λ e. e.attempt < last_attempt) (same_Some entry last.entry (sym is ∙ last.is)) less)

-- where the root is alone, no other child is there
pub no_other : (view : View) (serial : ℕ) (root entry : Entry) → view.own ≡ root ∷ [] → serial ≢ 0 → slice_get view.own serial ≡ Some entry → ⊥
no_other view zero root entry alone other is = other refl
no_other view (suc k) root entry alone other is = none-some entry (sym (ap (λ own. slice_get own (suc k)) alone) ∙ is)

-- it can't be redone, so not all can
last_not_redoable : (view : View) (serial : ℕ) (thief : Site) → IsLastOut view serial thief → (lost : Site → Bool) → lost thief ≡ true → IsRedoable lost view.own → ⊥
last_not_redoable view serial thief last lost is able =
    not_last view serial thief last.entry last last.is (able serial last.entry thief last.is last.out_there is)

pub members_refused : (problem : Problem) (view : View) (packet : Packet) (incarnations : List ℕ) (serial : ℕ) (thief : Site) → packet.body ≡ Members incarnations
    → IsLastOut view serial thief → is_older (now_known view.site.node view.known incarnations) thief ≡ true
    → (reply : Reply) (out : List Packet) (new : View) → NodeStep problem view (Deliver packet) reply out new → ⊥
members_refused problem view packet incarnations serial thief body last older reply out new step =
    let heard : HearStep problem view packet.from (Members incarnations) reply out new = subst (λ b. HearStep problem view packet.from b reply out new) body step.1.2 in
    last_not_redoable view serial thief last (is_older heard.0.known) (ap (λ known. is_older known thief) heard.0.known_is ∙ older) heard.0.redoable

pub hello_refused : (problem : Problem) (view : View) (packet : Packet) (known : List ℕ) (serial : ℕ) (thief : Site) → packet.body ≡ Hello
    → IsLastOut view serial thief → known ≡ raised view.known packet.from.node packet.from.incarnation → is_earlier_incarnation packet.from.node known thief ≡ true
    → (reply : Reply) (out : List Packet) (new : View) → RegistryStep problem view (Deliver packet) reply out new → ⊥
hello_refused problem view packet known serial thief body last is earlier reply out new step =
    let heard : RootHears problem view packet.from Hello reply out new = subst (λ b. RootHears problem view packet.from b reply out new) body step.2 in
    let same : heard.1.known ≡ known = heard.1.known_is ∙ sym is in
    last_not_redoable view serial thief last (is_earlier_incarnation packet.from.node heard.1.known) (ap (λ n. is_earlier_incarnation packet.from.node n thief) same ∙ earlier) heard.1.redoable
