-- What an event leaves of the registry.
use Rattle.std.proofs.Common.{◌≡◌, ℕ, List, Option, Some, None, option_map, Result, Ok, Err, refl, sym, ap, ◌∙◌, subst}
use Rattle.std.specs.Prelude.{IfOk, OnErr, OnOk}
use Rattle.cover_problem.specs.Problem.{Problem}
use Rattle.node_core.specs.Acting.{Acts, GivesShare, Sending}
use Rattle.node_core.specs.Formed.{AllFormed}
use Rattle.root_registry.specs.Formed.{FormedRegistryStep, IsFormedRegistry}
use Rattle.root_registry.specs.Published.{IsPublishing, Publication, answer_of, entering, publishing, unanswered}
use Rattle.root_registry.specs.RegistryStep.{RegistryStep, root_result}
use Rattle.node_core.specs.SiteView.{View, opening_view}
use Rattle.spawn_frame.specs.declared.child_result.ChildResult.{ChildResult}
use Rattle.steal_return.specs.Ledger.{root_ledger}
use Rattle.node_core.specs.Outgoing.{Outgoing}
use Rattle.node_core.specs.Refusal.{IsFit}
use Rattle.node_core.specs.declared.act_fault.ActFault.{ActFault}
use Rattle.node_core.specs.declared.event.Event.{Event}
use Rattle.node_core.specs.declared.reply.Reply.{Reply}
use Rattle.packet_wire.specs.declared.packet.Packet.{Packet}

-- what is true of the registry that holds this as published
abbrev pub Holds : View → Publication → Type 0
Holds view held = IsPublishing held.problem view held.answer

-- a registry that begins publishes nothing
pub begins : (problem : Problem) (nodes : ℕ) (view : View) (held : Publication) → IsFormedRegistry problem (opening_view (root_ledger nodes))
    → view ≡ opening_view (root_ledger nodes) → held ≡ unanswered problem → Holds view held
begins problem nodes view held formed is none =
    subst (Holds view) (sym none) (subst (λ (v : View). Holds v (unanswered problem)) (sym is) (record { formed = formed; answer_is = refl }))

-- what the registry does with the event
abbrev pub Steps : Problem → View → View → Event → Outgoing → Outgoing → Reply → Type 0
Steps problem old new event before after reply = Sending before after (λ sent. RegistryStep problem old event reply sent new × GivesShare old event sent)

module _ (old new : View) (event : Event) (before after : Outgoing) (held : Publication) (is : Holds old held) (fit : IsFit held.problem event) where
  -- the laws of a step of the registry
  pub record Laws (reply : Reply) (out : List Packet) : Type 0 where
    pub keeps : FormedRegistryStep held.problem old event reply out new → IsFormedRegistry held.problem new
    pub enters : (entered : ChildResult) → IsFormedRegistry held.problem old → RegistryStep held.problem old event reply out new
        → entering old event ≡ Some entered → root_result new ≡ Some entered
    pub leaves : RegistryStep held.problem old event reply out new → entering old event ≡ None → root_result new ≡ root_result old

  holds_after : (later : Publication) (entered : Option ChildResult) → IsFormedRegistry held.problem new → later ≡ publishing held entered
      → ((result : ChildResult) → entered ≡ Some result → root_result new ≡ Some result) → (entered ≡ None → root_result new ≡ root_result old) → Holds new later
  holds_after later None formed now enters leaves =
      subst (Holds new) (sym now)
      (record { formed = formed; answer_is = is.answer_is ∙ ap (option_map (answer_of held.problem)) (sym (leaves refl)) })
  holds_after later (Some result) formed now enters leaves =
      subst (Holds new) (sym now) (record { formed = formed; answer_is = ap (option_map (answer_of held.problem)) (sym (enters result refl)) })

  -- what is true of the registry stays so
  pub stays : (later : Publication) (result : Result Reply ActFault) → ((reply : Reply) (out : List Packet) → Laws reply out)
      → IfOk result (Steps held.problem old new event before after) → OnErr result (new ≡ old)
      → OnOk result (later ≡ publishing held (entering old event)) → OnErr result (later ≡ held) → Holds new later
  stays later (Ok reply) laws steps same now then =
      let law = laws reply steps.0 in
      holds_after later (entering old event) (law.keeps (record { before = is.formed; fit = fit; step = steps.2.0 })) now
      (λ entered some. law.enters entered is.formed steps.2.0 some) (law.leaves steps.2.0)
  stays later (Err fault) laws steps same now then = subst (λ (v : View). Holds v later) (sym same) (subst (Holds old) (sym then) is)

  -- each packet has a spelling
  pub acts : (result : Result Reply ActFault)
      → ((reply : Reply) (out : List Packet) → FormedRegistryStep held.problem old event reply out new → AllFormed out)
      → IfOk result (Steps held.problem old new event before after)
      → IfOk result (λ reply. Sending before after (λ sent. Acts RegistryStep held.problem old event reply sent new))
  acts (Ok reply) sends steps = (
    steps.0,
    steps.1,
    record {
      steps = steps.2.0;
      least = steps.2.1;
      formed = sends reply steps.0 (record { before = is.formed; fit = fit; step = steps.2.0 });
    },
  )
  acts (Err fault) sends steps = steps
