-- What an event leaves of a node.
use Rattle.std.proofs.Common.{◌≡◌, List, Result, Ok, Err, sym, subst}
use Rattle.std.specs.Prelude.{IfOk, OnErr}
use Rattle.cover_problem.specs.Problem.{Problem}
use Rattle.node_core.specs.Acting.{Acts, GivesShare, Sending}
use Rattle.node_core.specs.Formed.{AllFormed, FormedStep, IsFormedNode}
use Rattle.node_core.specs.NodeStep.{NodeStep}
use Rattle.node_core.specs.Outgoing.{Outgoing}
use Rattle.node_core.specs.Refusal.{IsFit}
use Rattle.node_core.specs.SiteView.{View}
use Rattle.node_core.specs.declared.act_fault.ActFault.{ActFault}
use Rattle.node_core.specs.declared.event.Event.{Event}
use Rattle.node_core.specs.declared.reply.Reply.{Reply}
use Rattle.packet_wire.specs.declared.packet.Packet.{Packet}

module _ (problem : Problem) (old new : View) (event : Event) (before after : Outgoing) (is : IsFormedNode problem old) (fit : IsFit problem event) where
  -- what a node does with the event
  abbrev pub Steps : Reply → Type 0
  Steps reply = Sending before after (λ sent. NodeStep problem old event reply sent new × GivesShare old event sent)

  -- what is true of the node stays so
  pub stays : (result : Result Reply ActFault)
      → ((reply : Reply) (out : List Packet) → FormedStep problem old event reply out new → IsFormedNode problem new)
      → IfOk result Steps → OnErr result (new ≡ old) → IsFormedNode problem new
  stays (Ok reply) keeps steps same = keeps reply steps.0 (record { before = is; fit = fit; step = steps.2.0 })
  stays (Err fault) keeps steps same = subst (IsFormedNode problem) (sym same) is

  -- each packet has a spelling
  pub acts : (result : Result Reply ActFault)
      → ((reply : Reply) (out : List Packet) → FormedStep problem old event reply out new → AllFormed out)
      → IfOk result Steps → IfOk result (λ reply. Sending before after (λ sent. Acts NodeStep problem old event reply sent new))
  acts (Ok reply) sends steps = (
    steps.0,
    steps.1,
    record {
      steps = steps.2.0;
      least = steps.2.1;
      formed = sends reply steps.0 (record { before = is; fit = fit; step = steps.2.0 });
    },
  )
  acts (Err fault) sends steps = steps
