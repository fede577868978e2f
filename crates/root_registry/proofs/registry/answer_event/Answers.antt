use Rattle.std.proofs.Common.{◌≡◌, ℕ, Some, refl, sym}
use Rattle.cover_problem.specs.Problem.{Problem}
use Rattle.node_core.proofs.Sending.{sends_none}
use Rattle.node_core.specs.SiteView.{View}
use Rattle.node_core.specs.declared.act_fault.ActFault.TheVariants.{OtherSite}
use Rattle.node_core.specs.declared.event.Event.{Event}
use Rattle.node_core.specs.declared.event.Event.TheVariants.{Again, Ask, Deliver, Finish, Greet, Post, Redo, Take}
use Rattle.packet_wire.specs.declared.packet.Packet.{Packet}
use Rattle.root_registry.proofs.registry.answer_event.Goals as goal
use Rattle.root_registry.specs.Refusal.{registry_refusal}

-- what only nodes do is refused
only_nodes : (problem : Problem) (view : View) (event : Event) → ((serial : ℕ) → event ≡ Redo serial → ⊥)
    → ((packet : Packet) → event ≡ Deliver packet → ⊥) → (event ≡ Again → ⊥) → registry_refusal problem view event ≡ Some OtherSite
only_nodes problem view (Redo serial) redo deliver again = absurd (redo serial refl)
only_nodes problem view (Deliver packet) redo deliver again = absurd (deliver packet refl)
only_nodes problem view Again redo deliver again = absurd (again refl)
only_nodes problem view Take redo deliver again = refl
only_nodes problem view (Post job finding) redo deliver again = refl
only_nodes problem view (Finish unit) redo deliver again = refl
only_nodes problem view (Ask victim) redo deliver again = refl
only_nodes problem view Greet redo deliver again = refl

pub returns : goal.returns
returns c = record {
  step = tt;
  refusal = sym (only_nodes c.args.publication.now.problem c.args.state.now c.args.event c.in_default.not-Redo c.in_default.not-Deliver c.in_default.not-Again);
  err = refl;
  list = (_, sends_none c.args.out.now);
  published = tt;
  unpublished = refl;
}
