-- A result that enters for the root.
use Rattle.std.proofs.Common.{◌≡◌, ℕ, true, [], ◌∷◌, ◌++◌, slice_get, refl, ap, ◌∙◌}
use Rattle.cover_problem.specs.Problem.{IsProblem, Problem}
use Rattle.node_core.proofs.Sending.{sends_more}
use Rattle.node_core.specs.Acting.{Sending}
use Rattle.node_core.specs.Arrivals.{answer_packet}
use Rattle.node_core.specs.Outgoing.{Outgoing, Sends}
use Rattle.node_core.specs.SiteView.{View, with_ledger}
use Rattle.node_core.specs.declared.reply.Reply.TheVariants.{Moved}
use Rattle.packet_wire.specs.declared.packet.Body.TheVariants.{Accept, Return}
use Rattle.packet_wire.specs.declared.packet.Packet.{Packet}
use Rattle.root_registry.proofs.Acceptable.{passing_is_acceptable}
use Rattle.root_registry.specs.Core.{AnswersBody}
use Rattle.root_registry.specs.Refusal.{is_acceptable}
use Rattle.root_registry.specs.RegistryStep.{over_packets}
use Rattle.spawn_frame.specs.declared.child_result.ChildResult.{ChildResult}
use Rattle.spawn_frame.specs.declared.site.Site.{Site}
use Rattle.steal_return.specs.Returns.{Enters, judged, returned}

pub entered : (problem : Problem) (old new : View) (from site : Site) (serial attempt : ℕ) (result copy : ChildResult) (before mid after : Outgoing)
    → IsProblem problem → is_acceptable problem result ≡ true → copy ≡ result → site ≡ old.site
    → judged (slice_get old.own serial) from attempt ≡ Enters
    → Sends before (record { from = site; to = from; body = Accept serial attempt copy } ∷ []) mid
    → Sends mid (over_packets old) after
    → new ≡ with_ledger old (returned old.ledger serial result Enters)
    → Sending before after (AnswersBody problem old from (Return serial attempt result) new Moved)
entered problem old new from site serial attempt result copy before mid after is passes same here enters first then now =
    let told : Packet = record { from = site; to = from; body = Accept serial attempt copy } in
    let said : told ∷ [] ≡ answer_packet old from (Accept serial attempt result) =
    ap (λ s. record { from = s; to = from; body = Accept serial attempt copy } ∷ []) here
    ∙ ap (λ r. answer_packet old from (Accept serial attempt r)) same
    in (
      (told ∷ []) ++ over_packets old,
      sends_more before mid after (told ∷ []) (over_packets old) first then,
      ((refl, (Enters, enters, (passing_is_acceptable problem result is passes, now, ap (λ ps. ps ++ over_packets old) said))), tt),
    )
